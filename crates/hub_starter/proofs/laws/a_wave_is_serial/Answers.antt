use Rattle.hub_starter.proofs.Outcomes.{settled_wave}
use Rattle.hub_starter.proofs.laws.a_wave_is_serial.Goals as goal

pub returns : goal.returns
returns c = λ S w are valid state there k o settled wait ended left.
    settled_wave c.histories_in_order_are_serial.ensures.serial c.ends_may_come_in_any_order.ensures S w are
    valid state there k o settled wait ended left

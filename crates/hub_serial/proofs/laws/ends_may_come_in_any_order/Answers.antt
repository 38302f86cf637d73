use Rattle.hub_serial.proofs.Recorded.{ends_in_any_order}
use Rattle.hub_serial.proofs.laws.ends_may_come_in_any_order.Goals as goal

pub returns : goal.returns
returns c = λ Ps R ends archives facts e. ends_in_any_order Ps facts R ends archives e

use Rattle.hub_state.proofs.States.{IsState-nothing}
use Rattle.hub_state.proofs.state.State.new.Goals as goal

pub invariant_of-result : goal.invariant_of-result
invariant_of-result c = rw (c.new.ensures.empty, c.new-2.ensures.empty) IsState-nothing

use Rattle.hub_state.proofs.MarkLists.{ends-none}
use Rattle.hub_state.proofs.marks.Marks.new.Goals as goal

pub invariant_of-result : goal.invariant_of-result
invariant_of-result c = ends-none c.top.result c.new.result c.new.ensures

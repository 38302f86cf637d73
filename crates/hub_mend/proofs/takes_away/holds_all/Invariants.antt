use Rattle.std.proofs.Common.{length}
use Rattle.hub_mend.specs.TakesAway.{HoldsAll}
use Rattle.hub_mend.proofs.takes_away.holds_all.Given as goal

abbrev pub invariant-loop-item : goal.invariant-loop-item
invariant-loop-item g l = HoldsAll l.left l.rest → HoldsAll l.fn.items l.fn.others

abbrev pub decreases-loop-item : goal.decreases-loop-item
decreases-loop-item g l = length l.left

use Rattle.std.proofs.Common.{length}
use Rattle.hub_mend.specs.TakesAway.{AllTakeAway}
use Rattle.hub_mend.proofs.takes_away.only_take_away.Given as goal

abbrev pub invariant-loop-one : goal.invariant-loop-one
invariant-loop-one l = AllTakeAway l.olds l.news → AllTakeAway l.fn.old l.fn.new

abbrev pub decreases-loop-one : goal.decreases-loop-one
decreases-loop-one l = length l.olds

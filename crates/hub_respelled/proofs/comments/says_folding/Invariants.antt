use Rattle.std.proofs.Common.{◌≡◌, length}
use Rattle.hub_respelled.proofs.Below.{folds_in_some}
use Rattle.hub_respelled.proofs.comments.says_folding.Given as goal

abbrev pub invariant-loop-line : goal.invariant-loop-line
invariant-loop-line l = folds_in_some l.lines ≡ folds_in_some l.fn.bundle

abbrev pub decreases-loop-line : goal.decreases-loop-line
decreases-loop-line l = length l.lines

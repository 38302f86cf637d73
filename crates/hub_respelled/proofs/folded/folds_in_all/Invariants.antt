use Rattle.std.proofs.Common.{◌≡◌, map, take}
use Rattle.hub_respelled.proofs.folded.folds_in_all.Given as goal

abbrev pub invariant-loop-member : goal.invariant-loop-member
invariant-loop-member l = l.folds.items ≡ map (λ M. M.folds) (take l.member-index l.members)

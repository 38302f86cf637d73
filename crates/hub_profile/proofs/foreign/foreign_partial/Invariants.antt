use Rattle.std.proofs.Common.{◌≡◌, ◌∷◌, [], drop}
use Rattle.hub_profile.specs.Foreign.{foreign_partial}
use Rattle.hub_profile.proofs.foreign.foreign_partial.Given as goal

abbrev pub invariant-loop-line : goal.invariant-loop-line
invariant-loop-line l = foreign_partial (l.left ∷ l.right ∷ []) l.lines ≡ foreign_partial (l.left ∷ l.right ∷ []) (drop l.line-index l.lines)

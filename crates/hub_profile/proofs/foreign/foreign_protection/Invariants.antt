use Rattle.std.proofs.Common.{◌≡◌, ◌∷◌, [], drop}
use Rattle.hub_profile.specs.Foreign.{foreign_protection}
use Rattle.hub_profile.proofs.foreign.foreign_protection.Given as goal

abbrev pub invariant-loop-line : goal.invariant-loop-line
invariant-loop-line l = foreign_protection (l.left ∷ l.right ∷ []) l.lines ≡ foreign_protection (l.left ∷ l.right ∷ []) (drop l.line-index l.lines)

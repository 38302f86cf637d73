use Rattle.std.proofs.Common.{◌≡◌, ◌++◌, map, take}
use Rattle.hub_glob.specs.declared.piece.Piece.TheVariants.{Lit}
use Rattle.hub_folded.proofs.pattern.push_literals.Given as goal

abbrev pub invariant-loop-d : goal.invariant-loop-d
invariant-loop-d l = l.list ≡ l.initial.list ++ map (λ d. Lit d) (take l.d-index l.d-items)

use Rattle.std.proofs.Common.{◌≡◌, map}
use Rattle.hub_glob.specs.declared.piece.Piece.TheVariants.{Lit}
use Rattle.hub_automaton.proofs.builder.literals.Given as goal

abbrev pub invariant-loop-character : goal.invariant-loop-character
invariant-loop-character l = l.pieces ≡ map Lit l.yielded

use Rattle.std.proofs.Common.{◌≡◌, ◌+◌, ℕ, List, drop, length}
use Rattle.hub_glob.specs.declared.path_spec.Kind.{Kind}
use Rattle.hub_automaton.specs.Alphabet.{class_count}
use Rattle.hub_automaton.proofs.Takings.{ChoiceTaken, PiecesTaken}
use Rattle.hub_automaton.proofs.takers.take_choice.Given as goal

abbrev pub invariant-loop-i : goal.invariant-loop-i
invariant-loop-i l =
    (length l.takers ≡ class_count l.alphabet)
    × ((kind : Kind) (new : List (List ℕ)) → PiecesTaken l.alphabet l.takers new (l.place + 1 + l.i) kind (drop l.i l.choice)
    → ChoiceTaken l.alphabet l.fn.takers new l.place kind l.choice)

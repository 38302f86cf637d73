use Rattle.std.proofs.Common.{◌≡◌, ◌+◌, ℕ, List, drop, length}
use Rattle.hub_glob.specs.declared.path_spec.Kind.{Kind}
use Rattle.hub_automaton.specs.Alphabet.{class_count}
use Rattle.hub_automaton.specs.Spots.{spot_count}
use Rattle.hub_automaton.proofs.Takings.{ChoicesTaken}
use Rattle.hub_automaton.proofs.takers.take_choices.Given as goal

abbrev pub invariant-loop-choice : goal.invariant-loop-choice
invariant-loop-choice l =
    (l.after + spot_count (drop l.choice-index l.choices) ≡ l.place + spot_count l.choices)
    × (length l.takers ≡ class_count l.alphabet)
    × ((kind : Kind) (new : List (List ℕ)) → ChoicesTaken l.alphabet l.takers new l.after kind (drop l.choice-index l.choices)
    → ChoicesTaken l.alphabet l.fn.takers new l.place kind l.choices)

use Rattle.std.proofs.Common.{◌≡◌, ℕ, List, drop, length}
use Rattle.hub_automaton.specs.Alphabet.{class_count}
use Rattle.hub_automaton.proofs.Takings.{TakenFor}
use Rattle.hub_automaton.proofs.takers.take_set.Given as goal

abbrev pub invariant-loop-character : goal.invariant-loop-character
invariant-loop-character l =
    (length l.takers ≡ class_count l.alphabet)
    × ((new : List (List ℕ)) → TakenFor l.alphabet l.takers new l.place (drop l.character-index l.set) → TakenFor l.alphabet l.fn.takers new l.place l.set)

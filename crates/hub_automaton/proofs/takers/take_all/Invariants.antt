use Rattle.std.proofs.Common.{◌≡◌, ◌+◌, ℕ, List, drop, length}
use Rattle.hub_automaton.specs.Alphabet.{class_count}
use Rattle.hub_automaton.specs.Spots.{spots_count}
use Rattle.hub_automaton.proofs.Takings.{AllTaken}
use Rattle.hub_automaton.proofs.takers.take_all.Given as goal

abbrev pub invariant-loop-one : goal.invariant-loop-one
invariant-loop-one l =
    (l.place + spots_count (drop l.one-index l.alternatives) ≡ spots_count l.alternatives)
    × (length l.takers ≡ class_count l.alphabet)
    × ((new : List (List ℕ)) → AllTaken l.alphabet l.takers new l.place (drop l.one-index l.alternatives) → AllTaken l.alphabet l.fn.takers new 0 l.alternatives)

use Rattle.std.proofs.Common.{◌≡◌, ℕ, length, true}
use Rattle.hub_automaton.specs.ClassSets.{AllBelow, Grown, IsListed, has}
use Rattle.hub_automaton.proofs.class_set.ClassSet.insert_between.Given as goal

abbrev pub invariant-loop-i : goal.invariant-loop-i
invariant-loop-i l =
    (length l.self ≡ length l.fn.self)
    × ((n : ℕ) → AllBelow n l.classes → Grown l.fn.self l.self n)
    × ((k : ℕ) → IsListed l.classes l.from l.i k → has l.self k ≡ true)

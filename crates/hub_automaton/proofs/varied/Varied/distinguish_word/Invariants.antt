use Rattle.std.proofs.Common.{◌≡◌, ℕ, ◌<◌, ◌+◌, length, true}
use Rattle.std.specs.Int.{bit_at}
use Rattle.hub_automaton.specs.ClassSets.{AllBelow, Grown, has}
use Rattle.hub_automaton.specs.Varied.{IsOfSpot}
use Rattle.hub_automaton.proofs.varied.Varied.distinguish_word.Given as goal

abbrev pub invariant-loop-rest : goal.invariant-loop-rest
invariant-loop-rest l =
    (length l.splits ≡ length l.fn.splits)
    × ((n : ℕ) → AllBelow n l.self.classes.items → Grown l.fn.splits l.splits n)
    × ((b k : ℕ) → b < 64 → bit_at l.active b ≡ 1 → (bit_at l.rest b ≡ 1 → ⊥) → IsOfSpot l.self (l.first + b) k → has l.splits k ≡ true)

abbrev pub decreases-loop-rest : goal.decreases-loop-rest
decreases-loop-rest l = l.rest

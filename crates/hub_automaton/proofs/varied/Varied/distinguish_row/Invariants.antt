use Rattle.std.proofs.Common.{◌≡◌, ℕ, ◌<◌, ◌+◌, ◌*◌, length, true}
use Rattle.std.specs.Int.{bit_at}
use Rattle.hub_automaton.specs.ClassSets.{AllBelow, Grown, has}
use Rattle.hub_automaton.specs.forms.Rows.{last_before}
use Rattle.hub_automaton.specs.Varied.{IsOfSpot, active_at}
use Rattle.hub_automaton.proofs.varied.Varied.distinguish_row.Given as goal

abbrev pub invariant-loop-i : goal.invariant-loop-i
invariant-loop-i l =
    (length l.splits ≡ length l.fn.splits)
    × (l.here ≡ last_before 0 l.row l.i)
    × ((n : ℕ) → AllBelow n l.self.classes.items → Grown l.fn.splits l.splits n)
    × ((i b k : ℕ) → i < l.i → b < 64 → bit_at (active_at l.self l.row i) b ≡ 1 → IsOfSpot l.self (64 * i + b) k → has l.splits k ≡ true)

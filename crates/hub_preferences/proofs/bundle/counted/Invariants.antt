use Rattle.std.proofs.Common.{◌≡◌, ◌++◌, length}
use Rattle.hub_preferences.specs.Counted.{counted_bundle}
use Rattle.hub_preferences.proofs.Walk.{text_below}
use Rattle.hub_preferences.proofs.bundle.counted.Given as goal

abbrev pub invariant-loop-line : goal.invariant-loop-line
invariant-loop-line l =
    counted_bundle l.fn.bundle ≡ l.counted.items ++ text_below l.roots.items l.section l.lines

abbrev pub decreases-loop-line : goal.decreases-loop-line
decreases-loop-line l = length l.lines

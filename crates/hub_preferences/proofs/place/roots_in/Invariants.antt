use Rattle.std.proofs.Common.{◌≡◌, ◌++◌, length}
use Rattle.hub_text.specs.Lines.{lines_of}
use Rattle.hub_preferences.specs.Places as spec
use Rattle.hub_preferences.proofs.place.roots_in.Given as goal

abbrev pub invariant-loop-line : goal.invariant-loop-line
invariant-loop-line l =
    spec.roots_in l.fn.bundle ≡ l.roots.items ++ spec.roots_below (lines_of l.lines)

abbrev pub decreases-loop-line : goal.decreases-loop-line
decreases-loop-line l = length l.lines

use Rattle.std.proofs.Common.{◌≡◌, length}
use Rattle.hub_preferences.specs.Kinds.{overrides_force}
use Rattle.hub_preferences.proofs.Below.{any_below}
use Rattle.hub_preferences.proofs.section.has_override.Given as goal

abbrev pub invariant-loop-line : goal.invariant-loop-line
invariant-loop-line l = any_below l.fn.roots overrides_force l.lines ≡ any_below l.fn.roots overrides_force l.fn.bytes

abbrev pub decreases-loop-line : goal.decreases-loop-line
decreases-loop-line l = length l.lines

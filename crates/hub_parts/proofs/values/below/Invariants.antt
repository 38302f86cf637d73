use Rattle.std.proofs.Common.{◌≡◌, ◌++◌, take}
use Rattle.hub_parts.proofs.values.below.Given as goal

abbrev pub invariant-loop-i : goal.invariant-loop-i
invariant-loop-i l = l.whole ≡ l.root ++ take l.i l.path

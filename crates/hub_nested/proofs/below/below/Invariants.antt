use Rattle.std.proofs.Common.{◌≡◌, ◌++◌, take}
use Rattle.hub_nested.proofs.below.below.Given as goal

abbrev pub invariant-loop-i : goal.invariant-loop-i
invariant-loop-i l = l.whole ≡ l.front ++ take l.i l.path

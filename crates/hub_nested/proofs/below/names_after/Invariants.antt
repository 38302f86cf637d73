use Rattle.std.proofs.Common.{◌≡◌, ◌++◌, drop}
use Rattle.hub_nested.proofs.below.names_after.Given as goal

abbrev pub invariant-loop-i : goal.invariant-loop-i
invariant-loop-i l = l.rest ++ drop l.i l.path ≡ drop l.depth l.path

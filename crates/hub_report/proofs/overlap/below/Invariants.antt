use Rattle.std.proofs.Common.{◌≡◌, ◌++◌, take}
use Rattle.hub_report.proofs.overlap.below.Given as goal

abbrev pub invariant-loop-i : goal.invariant-loop-i
invariant-loop-i l = l.whole ≡ l.root ++ take l.i l.path

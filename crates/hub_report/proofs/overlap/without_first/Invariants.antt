use Rattle.std.proofs.Common.{◌≡◌, ◌++◌, drop}
use Rattle.hub_report.proofs.overlap.without_first.Given as goal

abbrev pub invariant-loop-i : goal.invariant-loop-i
invariant-loop-i l = l.rest ++ drop l.i l.path ≡ drop l.names l.path

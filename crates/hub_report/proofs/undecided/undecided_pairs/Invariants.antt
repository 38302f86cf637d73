use Rattle.std.proofs.Common.{◌≡◌, ◌++◌, drop, string_bytes}
use Rattle.hub_report.specs.Undecided.{lines_below, undecided_lines}
use Rattle.hub_report.proofs.undecided.undecided_pairs.Given as goal

abbrev pub invariant-loop-fault : goal.invariant-loop-fault
invariant-loop-fault l =
    string_bytes l.text ++ lines_below l.profiles l.told.items (drop l.fault-index l.faults) ≡ undecided_lines l.profiles l.faults

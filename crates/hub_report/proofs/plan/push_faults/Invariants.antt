use Rattle.std.proofs.Common.{◌≡◌, ◌++◌, string_bytes, take}
use Rattle.hub_report.specs.Plan.{lines_in}
use Rattle.hub_report.proofs.plan.push_faults.Given as goal

abbrev pub invariant-loop-fault : goal.invariant-loop-fault
invariant-loop-fault l =
    string_bytes l.text ≡ string_bytes l.initial.text ++ lines_in l.numbers l.profiles l.rules (take l.fault-index l.faults)

use Rattle.std.proofs.Common.{◌≡◌, ◌++◌, drop, string_bytes}
use Rattle.hub_report.specs.Graph.{dashed_lines}
use Rattle.hub_report.proofs.edges.push_dashed_lines.Given as goal

abbrev pub invariant-loop-fault : goal.invariant-loop-fault
invariant-loop-fault l =
    string_bytes l.text ++ dashed_lines l.profiles l.joined.items (drop l.fault-index l.faults)
    ≡ string_bytes l.initial.text ++ dashed_lines l.profiles l.initial.joined.items l.faults

use Rattle.std.proofs.Common.{◌≡◌, ◌++◌, drop, string_bytes}
use Rattle.hub_report.specs.Graph.{joined_by_red, red_lines}
use Rattle.hub_report.proofs.edges.push_red_lines.Given as goal

abbrev pub invariant-loop-fault : goal.invariant-loop-fault
invariant-loop-fault l = record {
  text : string_bytes l.text ++ red_lines l.profiles l.joined.items (drop l.fault-index l.faults)
      ≡ string_bytes l.initial.text ++ red_lines l.profiles l.initial.joined.items l.faults;
  joined : joined_by_red l.joined.items (drop l.fault-index l.faults) ≡ joined_by_red l.initial.joined.items l.faults;
}

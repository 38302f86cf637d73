use Rattle.std.proofs.Common.{◌≡◌, ◌++◌, string_bytes, take}
use Rattle.hub_report.specs.InUnison.{unison_lines_in}
use Rattle.hub_report.proofs.in_unison.push_lines.Given as goal

abbrev pub invariant-loop-fault : goal.invariant-loop-fault
invariant-loop-fault l =
    string_bytes l.text ≡ string_bytes l.initial.text ++ unison_lines_in l.profiles l.rules (take l.fault-index l.faults)

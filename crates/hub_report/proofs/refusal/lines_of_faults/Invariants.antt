use Rattle.std.proofs.Common.{◌≡◌, string_bytes, take}
use Rattle.std.specs.List.{flat_map}
use Rattle.hub_report.specs.Refusal.{refusal_line}
use Rattle.hub_report.proofs.refusal.lines_of_faults.Given as goal

abbrev pub invariant-loop-fault : goal.invariant-loop-fault
invariant-loop-fault l =
    string_bytes l.text ≡ flat_map (refusal_line l.set) (take l.fault-index l.faults)

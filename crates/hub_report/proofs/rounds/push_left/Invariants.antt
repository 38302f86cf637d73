use Rattle.std.proofs.Common.{◌≡◌, ◌++◌, string_bytes, take}
use Rattle.std.specs.List.{flat_map}
use Rattle.hub_report.specs.Rounds.{left_line}
use Rattle.hub_report.proofs.rounds.push_left.Given as goal

abbrev pub invariant-loop-placed : goal.invariant-loop-placed
invariant-loop-placed l =
    string_bytes l.text ≡ string_bytes l.initial.text ++ flat_map left_line (take l.placed-index l.left)

use Rattle.std.proofs.Common.{◌≡◌, ◌++◌, string_bytes, take}
use Rattle.std.specs.List.{flat_map}
use Rattle.hub_report.specs.Rounds.{left_out_line}
use Rattle.hub_report.proofs.rounds.push_left_out.Given as goal

abbrev pub invariant-loop-own : goal.invariant-loop-own
invariant-loop-own l =
    string_bytes l.text ≡ string_bytes l.initial.text ++ flat_map (left_out_line l.profiles) (take l.own-index l.left)

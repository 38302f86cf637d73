use Rattle.std.proofs.Common.{◌≡◌, ◌++◌, string_bytes, take}
use Rattle.std.specs.List.{flat_map}
use Rattle.hub_report.specs.Alone.{lines_of_unread}
use Rattle.hub_report.proofs.alone.lines_of_alone.Given as goal

abbrev pub invariant-loop-own : goal.invariant-loop-own
invariant-loop-own l =
    string_bytes l.text ≡ string_bytes l.initial.text ++ flat_map (lines_of_unread l.names l.rules) (take l.own-index l.unread)

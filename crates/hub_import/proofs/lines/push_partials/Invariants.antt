use Rattle.std.proofs.Common.{◌≡◌, ◌++◌, take}
use Rattle.std.specs.List.{flat_map}
use Rattle.hub_import.specs.Text.{partial_line}
use Rattle.hub_import.proofs.lines.push_partials.Given as goal

abbrev pub invariant-loop-partial : goal.invariant-loop-partial
invariant-loop-partial l =
    l.bytes.items ≡ l.initial.bytes.items ++ flat_map (partial_line l.profile) (take l.partial-index l.partial-items)

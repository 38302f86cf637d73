use Rattle.std.proofs.Common.{◌≡◌, ◌++◌, take}
use Rattle.std.specs.List.{flat_map}
use Rattle.hub_import.specs.Text.{spec_line}
use Rattle.hub_import.proofs.lines.push_specs.Given as goal

abbrev pub invariant-loop-spec : goal.invariant-loop-spec
invariant-loop-spec l =
    l.bytes.items ≡ l.initial.bytes.items ++ flat_map (spec_line l.name) (take l.spec-index l.specs)

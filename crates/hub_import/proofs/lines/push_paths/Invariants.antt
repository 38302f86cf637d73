use Rattle.std.proofs.Common.{◌≡◌, ◌++◌, take}
use Rattle.std.specs.List.{flat_map}
use Rattle.hub_import.specs.Text.{path_line}
use Rattle.hub_import.proofs.lines.push_paths.Given as goal

abbrev pub invariant-loop-path : goal.invariant-loop-path
invariant-loop-path l =
    l.bytes.items ≡ l.initial.bytes.items ++ flat_map path_line (take l.path-index l.paths)

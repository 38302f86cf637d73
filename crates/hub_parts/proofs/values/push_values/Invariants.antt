use Rattle.std.proofs.Common.{◌≡◌, ◌++◌, map, take}
use Rattle.hub_parts.specs.Values.{value_at}
use Rattle.hub_parts.proofs.values.push_values.Given as goal

abbrev pub invariant-loop-path : goal.invariant-loop-path
invariant-loop-path l = l.values.items ≡ l.initial.values.items ++ map (value_at l.number l.root) (take l.path-index l.paths)

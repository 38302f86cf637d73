use Rattle.std.proofs.Common.{◌≡◌, map, take}
use Rattle.hub_unison.specs.ReadingOf as reading
use Rattle.hub_unison.proofs.tops.cut_values.Given as goal

abbrev pub invariant-loop-path : goal.invariant-loop-path
invariant-loop-path l = l.cuts ≡ map reading.cut_value (take l.path-index l.paths)

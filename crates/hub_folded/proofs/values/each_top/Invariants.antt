use Rattle.std.proofs.Common.{◌≡◌, map, take}
use Rattle.hub_folded.specs.Lines as lines
use Rattle.hub_folded.specs.Table.{unicode}
use Rattle.hub_folded.proofs.values.each_top.Given as goal

abbrev pub invariant-loop-path : goal.invariant-loop-path
invariant-loop-path l = l.tops ≡ map (lines.top_of unicode) (take l.path-index l.paths)

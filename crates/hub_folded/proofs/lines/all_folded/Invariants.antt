use Rattle.std.proofs.Common.{◌≡◌, true, map, take}
use Rattle.std.specs.List.{list_all}
use Rattle.hub_folded.specs.Lines as lines
use Rattle.hub_folded.specs.Table.{unicode}
use Rattle.hub_folded.proofs.lines.all_folded.Given as goal

abbrev pub invariant-loop-spec : goal.invariant-loop-spec
invariant-loop-spec l = record {
  all : l.all ≡ map (lines.fold_spec unicode) (take l.spec-index l.specs);
  known : list_all (lines.knows_line unicode) (take l.spec-index l.specs) ≡ true;
}

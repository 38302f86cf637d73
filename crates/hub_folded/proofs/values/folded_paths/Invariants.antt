use Rattle.std.proofs.Common.{◌≡◌, true, map, take}
use Rattle.std.specs.List.{list_all}
use Rattle.hub_folded.specs.Fold as fold
use Rattle.hub_folded.specs.Table.{unicode}
use Rattle.hub_folded.proofs.values.folded_paths.Given as goal

abbrev pub invariant-loop-path : goal.invariant-loop-path
invariant-loop-path l = record {
  all : l.all ≡ map (fold.fold_path unicode) (take l.path-index l.paths);
  known : list_all (fold.knows_path unicode) (take l.path-index l.paths) ≡ true;
}

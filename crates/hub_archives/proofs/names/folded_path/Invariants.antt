use Rattle.std.proofs.Common.{◌≡◌, true, take}
use Rattle.hub_folded.specs.Fold.{fold_path}
use Rattle.hub_folded.specs.Table.{unicode}
use Rattle.hub_archives.specs.Seen.{folds_to_path}
use Rattle.hub_archives.proofs.names.folded_path.Given as goal

abbrev pub invariant-loop-i : goal.invariant-loop-i
invariant-loop-i l = record {
  folded : l.folded ≡ fold_path unicode (take l.i l.path);
  known : folds_to_path (take l.i l.path) ≡ true;
}

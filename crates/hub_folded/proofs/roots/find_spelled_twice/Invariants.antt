use Rattle.std.proofs.Common.{◌≡◌, ◌<◌, ℕ, true, Some}
use Rattle.std.specs.Prelude.{slice_get}
use Rattle.hub_path.specs.Path.{Path}
use Rattle.hub_folded.specs.FirstPlaces.{Fits}
use Rattle.hub_folded.specs.Fold.{fold_path, knows_path}
use Rattle.hub_folded.specs.Table.{unicode}
use Rattle.hub_folded.proofs.roots.find_spelled_twice.Given as goal

abbrev pub invariant-loop-at : goal.invariant-loop-at
invariant-loop-at l =
    (j : ℕ) (s : Path) → j < l.at → slice_get l.roots j ≡ Some s → knows_path unicode s ≡ true
    → Fits unicode l.roots s (fold_path unicode s)

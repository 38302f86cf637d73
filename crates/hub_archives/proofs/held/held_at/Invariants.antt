use Rattle.std.proofs.Common.{◌≡◌, ◌<◌, ℕ, Some, slice_get}
use Rattle.hub_path.specs.Path.{Path}
use Rattle.hub_archives.specs.Seen.{KeptOutBelow}
use Rattle.hub_archives.proofs.held.held_at.Given as goal

abbrev pub invariant-loop-root : goal.invariant-loop-root
invariant-loop-root l =
    (m : ℕ) (r : Path) → m < l.root-index → slice_get l.root-items m ≡ Some r
    → KeptOutBelow l.folds r l.folder l.reading

use Rattle.std.proofs.Common.{◌≡◌, ◌<◌, ℕ, Some, slice_get}
use Rattle.hub_path.specs.Path.{Path}
use Rattle.hub_profile.specs.Parts.{IsProfile}
use Rattle.hub_archives.specs.Seen.{KeptOutBy}
use Rattle.hub_archives.proofs.held.held_in.Given as goal

abbrev pub invariant-loop-number : goal.invariant-loop-number
invariant-loop-number l =
    (m : ℕ) (f : Path) → m < l.number → slice_get l.folders m ≡ Some f
    → IsProfile l.reading × KeptOutBy l.folds f l.reading

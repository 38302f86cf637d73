use Rattle.std.proofs.Common.{◌≡◌, ◌<◌, ℕ, false, Some, slice_get}
use Rattle.hub_profile.specs.Parts.{Parts}
use Rattle.hub_reach.specs.Reach.{has_root}
use Rattle.hub_runner.proofs.by_number.find_root.Given as goal

abbrev pub invariant-loop-profile : goal.invariant-loop-profile
invariant-loop-profile l = (k : ℕ) (P : Parts) → k < l.profile-index → slice_get l.profiles k ≡ Some P → has_root P l.root ≡ false

use Rattle.std.proofs.Common.{◌≡◌, ◌<◌, ℕ, Some}
use Rattle.std.specs.Prelude.{slice_get}
use Rattle.hub_profile.specs.Parts.{IsProfile, Parts}
use Rattle.hub_apart.proofs.beside.check_valid.Given as goal

abbrev pub invariant-loop-profile : goal.invariant-loop-profile
invariant-loop-profile l = (i : ℕ) (P : Parts) → i < l.profile-index → slice_get l.profiles i ≡ Some P → IsProfile P

use Rattle.std.proofs.Common.{◌≡◌, ◌<◌, ◌≤◌, ℕ, Some}
use Rattle.std.specs.Prelude.{slice_get}
use Rattle.hub_automaton.specs.declared.alternatives.TheConstants.{SPOTS}
use Rattle.hub_profile.specs.Parts.{Parts}
use Rattle.hub_reach.specs.Stage.{spot_count_of}
use Rattle.hub_cert.proofs.set.refusals.check_profile_spots.Given as goal

abbrev pub invariant-loop-profile : goal.invariant-loop-profile
invariant-loop-profile l = (i : ℕ) (P : Parts) → i < l.profile-index → slice_get l.profiles i ≡ Some P → spot_count_of P ≤ SPOTS

use Rattle.std.proofs.Common.{◌≡◌, ◌<◌, ◌≤◌, ℕ, Some}
use Rattle.std.specs.Prelude.{slice_get}
use Rattle.hub_profile.specs.Parts.{Parts}
use Rattle.hub_schedule.specs.Simulated.{turns_enough}
use Rattle.hub_schedule.proofs.cycles.most_turns.Given as goal

abbrev pub invariant-loop-profile : goal.invariant-loop-profile
invariant-loop-profile l =
    (j : ℕ) (P : Parts) → j < l.profile-index → slice_get l.profiles j ≡ Some P → turns_enough l.state P ≤ l.most

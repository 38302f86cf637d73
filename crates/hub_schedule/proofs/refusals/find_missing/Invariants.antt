use Rattle.std.proofs.Common.{◌≡◌, ◌<◌, drop}
use Rattle.hub_state.specs.State.{IsState}
use Rattle.hub_schedule.specs.Refusals.{first_missing}
use Rattle.hub_schedule.proofs.refusals.find_missing.Given as goal

abbrev pub invariant-loop-profile : goal.invariant-loop-profile
invariant-loop-profile l = record {
  missing : first_missing l.state (drop l.profile-index l.profiles) ≡ first_missing l.state l.profiles;
  valid : 0 < l.profile-index → IsState l.state;
}

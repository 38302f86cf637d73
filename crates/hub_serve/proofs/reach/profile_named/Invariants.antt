use Rattle.std.proofs.Common.{◌≡◌, drop}
use Rattle.hub_serve.specs.Reached.{first_named}
use Rattle.hub_serve.proofs.reach.profile_named.Given as goal

abbrev pub invariant-loop-profile : goal.invariant-loop-profile
invariant-loop-profile l = first_named l.name (drop l.profile-index l.profiles) ≡ first_named l.name l.profiles

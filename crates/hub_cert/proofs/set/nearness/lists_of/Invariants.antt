use Rattle.std.proofs.Common.{◌≡◌, take}
use Rattle.hub_cert.specs.Nearness.{kept_values}
use Rattle.hub_cert.proofs.set.nearness.lists_of.Given as goal

abbrev pub invariant-loop-profile : goal.invariant-loop-profile
invariant-loop-profile l = l.lists.items ≡ kept_values (take l.profile-index l.profiles)

use Rattle.std.proofs.Common.{◌≡◌, length}
use Rattle.hub_serve.specs.InUnison.{namesake}
use Rattle.hub_serve.proofs.unison.namesake.Given as goal

abbrev pub invariant-loop-profile : goal.invariant-loop-profile
invariant-loop-profile l = namesake l.rest ≡ namesake l.fn.profiles

abbrev pub decreases-loop-profile : goal.decreases-loop-profile
decreases-loop-profile l = length l.rest

use Rattle.std.proofs.Common.{◌≡◌, length}
use Rattle.hub_apart.specs.Apart.{any_two, have_nested}
use Rattle.hub_apart.proofs.apart.has_nested.Given as goal

abbrev pub invariant-loop-profile : goal.invariant-loop-profile
invariant-loop-profile l = any_two have_nested l.rest ≡ any_two have_nested l.fn.profiles

abbrev pub decreases-loop-profile : goal.decreases-loop-profile
decreases-loop-profile l = length l.rest

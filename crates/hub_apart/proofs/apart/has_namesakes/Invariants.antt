use Rattle.std.proofs.Common.{◌≡◌, length}
use Rattle.hub_apart.specs.Apart.{any_two, are_namesakes}
use Rattle.hub_apart.proofs.apart.has_namesakes.Given as goal

abbrev pub invariant-loop-profile : goal.invariant-loop-profile
invariant-loop-profile l = any_two are_namesakes l.rest ≡ any_two are_namesakes l.fn.profiles

abbrev pub decreases-loop-profile : goal.decreases-loop-profile
decreases-loop-profile l = length l.rest

use Rattle.std.proofs.Common.{◌≡◌, drop}
use Rattle.std.specs.Prelude.{fold}
use Rattle.hub_runner.specs.Settling.{roots_of, with_new}
use Rattle.hub_runner.proofs.comparison.roots_of.Given as goal

abbrev pub invariant-loop-profile : goal.invariant-loop-profile
invariant-loop-profile l = fold (λ rs P. fold with_new rs P.roots) l.roots.items (drop l.profile-index l.profiles) ≡ roots_of l.profiles

use Rattle.std.proofs.Common.{subst}
use Rattle.std.specs.Prelude.{◌≤◌, ℕ}
use Rattle.hub_automaton.specs.declared.alternatives.TheConstants.{SPOTS}
use Rattle.hub_reach.proofs.Choices.{few-spots}
use Rattle.hub_reach.proofs.walker.Walker.check_spots.Goals as goal

pub returns-clause-few : goal.returns-clause-few
returns-clause-few c =
    few-spots c.paths_have_a_spot_more.ensures SPOTS c.args.profile.now c.add.new.builder
    c.in_ok-add.ensures.ok
    (subst (λ (n : ℕ). n ≤ SPOTS) c.spot_count.ensures.value c.spot_count.ensures.few)

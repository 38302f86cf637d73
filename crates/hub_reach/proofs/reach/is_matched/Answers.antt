use Rattle.std.proofs.Common.{◌∙◌}
use Rattle.hub_reach.proofs.Below.{spared-below}
use Rattle.hub_reach.proofs.reach.is_matched.Goals as goal

pub returns : goal.returns
returns c = c.any_matched.ensures ∙ spared-below c.args.below c.args.specs.now c.args.path.now c.args.len c.requires.below

use Rattle.hub_reach.specs.laws.Between.{reach-between}
use Rattle.hub_reach.proofs.laws.what_is_between_is_reached.Goals as goal

pub returns : goal.returns
returns c = reach-between

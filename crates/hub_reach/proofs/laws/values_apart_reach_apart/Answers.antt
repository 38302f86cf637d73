use Rattle.hub_reach.specs.laws.Apart.{apart-reach}
use Rattle.hub_reach.proofs.laws.values_apart_reach_apart.Goals as goal

pub returns : goal.returns
returns c = apart-reach

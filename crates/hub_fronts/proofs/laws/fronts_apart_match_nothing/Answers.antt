use Rattle.hub_fronts.specs.laws.Fronts.{fronts-apart}
use Rattle.hub_fronts.proofs.laws.fronts_apart_match_nothing.Goals as goal

pub returns : goal.returns
returns c = fronts-apart

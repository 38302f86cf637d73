use Rattle.hub_mend.proofs.TakingAway.{takes_away}
use Rattle.hub_mend.proofs.takes_away.only_takes_away.Goals as goal

pub returns : goal.returns
returns c = λ t. takes_away _ _ (c.holds_more.ensures t)

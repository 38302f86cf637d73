use Rattle.hub_folded.proofs.NormOf.{norm-met}
use Rattle.hub_folded.proofs.laws.a_folding_is_met.Goals as goal

pub returns : goal.returns
returns c = norm-met

use Rattle.hub_folded.proofs.Paths.{norm-over, one-over}
use Rattle.hub_folded.proofs.laws.paths_that_are_one_are_one_up_to_folding.Goals as goal

pub returns-clause-same : goal.returns-clause-same
returns-clause-same c = norm-over

pub returns-clause-one : goal.returns-clause-one
returns-clause-one c N one p q same h = one-over one N same p q h

use Rattle.hub_parts.proofs.Swept.{complete, exact}
use Rattle.hub_parts.proofs.laws.the_sweep_finds_all_near_pairs.Goals as goal

pub returns-clause-complete : goal.returns-clause-complete
returns-clause-complete c = complete

pub returns-clause-exact : goal.returns-clause-exact
returns-clause-exact c = exact

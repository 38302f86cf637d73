use Rattle.hub_cert.proofs.Closed.{silent-inductive}
use Rattle.hub_cert.proofs.laws.silent_goals_have_inductive_lists.Goals as goal

pub returns : goal.returns
returns c = silent-inductive _ c.goal_stages_compare_exactly.ensures

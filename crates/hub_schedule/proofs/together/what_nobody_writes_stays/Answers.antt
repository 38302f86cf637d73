use Rattle.hub_schedule.proofs.Elsewhere.{all_stays}
use Rattle.hub_schedule.proofs.together.what_nobody_writes_stays.Goals as goal

pub returns : goal.returns
returns c = λ J replicas histories logs i P r settled is has p never. all_stays c.a_job_asks_only_what_it_may.ensures c.a_set_keeps_trees.ensures.contents J replicas histories logs i P r p settled is has never

use Rattle.hub_schedule.proofs.SetsApart.{sets_apart}
use Rattle.hub_schedule.proofs.together.each_set_is_its_own.Goals as goal

pub returns : goal.returns
returns c = λ J replicas histories logs apart settled i P r k e p x is has at op. sets_apart c.a_job_asks_only_what_it_may.ensures J replicas histories logs i P r k e p x apart settled is has at op

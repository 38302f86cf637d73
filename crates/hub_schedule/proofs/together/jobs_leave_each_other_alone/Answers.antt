use Rattle.hub_schedule.proofs.Apart.{logs_alone, others_alone, own_alone, elsewhere_before}
use Rattle.hub_schedule.proofs.together.jobs_leave_each_other_alone.Goals as goal

pub returns-clause-logs : goal.returns-clause-logs
returns-clause-logs c = logs_alone (λ J replicas histories logs j P apart valid is settled. c.agreeing_histories_are_as_alone.ensures J replicas histories logs apart valid settled j P is)

pub returns-clause-others : goal.returns-clause-others
returns-clause-others c = others_alone c.a_job_asks_only_what_it_may.ensures c.others_change_no_answer.ensures

pub returns-clause-own : goal.returns-clause-own
returns-clause-own c = own_alone (λ J replicas histories logs j P apart valid is settled. c.agreeing_histories_are_as_alone.ensures J replicas histories logs apart valid settled j P is)

pub returns-clause-elsewhere : goal.returns-clause-elsewhere
returns-clause-elsewhere c = elsewhere_before (λ J replicas histories logs i P r p settled is has never. c.what_nobody_writes_stays.ensures J replicas histories logs i P r settled is has p never)

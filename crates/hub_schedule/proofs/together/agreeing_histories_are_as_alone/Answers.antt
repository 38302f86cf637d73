use Rattle.hub_schedule.proofs.Threads.{as_alone}
use Rattle.hub_schedule.proofs.together.agreeing_histories_are_as_alone.Goals as goal

pub returns : goal.returns
returns c = λ J replicas histories logs apart valid settled j P is. as_alone c.a_job_asks_only_what_it_may.ensures c.answers_are_by_what_they_depend_on.ensures.answer c.answers_are_by_what_they_depend_on.ensures.own c.others_change_no_answer.ensures J replicas histories logs j P apart valid is settled

use Rattle.hub_schedule.proofs.Points.{sets_allowed}
use Rattle.hub_schedule.proofs.together.each_set_is_allowed.Goals as goal

pub returns : goal.returns
returns c = sets_allowed c.a_job_asks_only_what_it_may.ensures c.answers_are_by_what_they_depend_on.ensures.answer c.answers_are_by_what_they_depend_on.ensures.own c.others_change_no_answer.ensures

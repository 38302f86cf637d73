use Rattle.hub_serial.proofs.Exchange.{turns_commute}
use Rattle.hub_serial.proofs.laws.turns_commute.Goals as goal

pub returns : goal.returns
returns c = λ Ps i k w facts off free.
    turns_commute c.a_job_asks_only_what_it_may.ensures c.answers_are_by_what_they_depend_on.ensures.answer c.others_change_no_answer.ensures Ps facts i k w off free

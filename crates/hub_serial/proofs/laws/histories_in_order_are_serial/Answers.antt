use Rattle.std.proofs.Common.{refl}
use Rattle.hub_serial.specs.RunRecord.{turn_count}
use Rattle.hub_serial.specs.World.{opening}
use Rattle.hub_serial.proofs.InTurn.{works_in_turn}
use Rattle.hub_serial.proofs.Recorded.{distinct_once, recorded}
use Rattle.hub_serial.proofs.laws.histories_in_order_are_serial.Goals as goal

pub returns-clause-serial : goal.returns-clause-serial
returns-clause-serial c = λ Ps replicas archives R facts settled given.
    recorded c.a_job_asks_only_what_it_may.ensures c.answers_are_by_what_they_depend_on.ensures.answer c.others_change_no_answer.ensures Ps facts replicas archives R settled given

pub returns-clause-work : goal.returns-clause-work
returns-clause-work c = λ Ps replicas archives R facts trees settled.
    works_in_turn c.a_set_keeps_trees.ensures.tree Ps facts (turn_count R) R.started (opening replicas archives) (distinct_once R.started settled.once) trees (λ l h. record { log = refl; done = refl })

use Rattle.hub_serial.specs.Edits.{ActorsClash, actor_turn}
use Rattle.hub_serial.specs.Schedule.{serial_schedule}
use Rattle.hub_serial.specs.World.{World}
use Rattle.hub_serial.proofs.Editing.{actors_turned, steps_commute}
use Rattle.hub_serial.proofs.Serializable.{is_serializable}
use Rattle.hub_serial.proofs.Traces.{same_left}
use Rattle.hub_serial.proofs.laws.edits_may_come_at_any_time.Goals as goal

pub returns-clause-equivalent : goal.returns-clause-equivalent
returns-clause-equivalent c = λ As js ks w facts e.
    same_left (ActorsClash As) (actors_turned As) World (actor_turn As)
    (λ i k w off free. steps_commute c.a_job_asks_only_what_it_may.ensures c.answers_are_by_what_they_depend_on.ensures.answer c.others_change_no_answer.ensures c.a_set_keeps_trees.ensures.contents As facts i k w off free) js ks w e

pub returns-clause-serial : goal.returns-clause-serial
returns-clause-serial c = λ As js w facts apart.
    same_left (ActorsClash As) (actors_turned As) World (actor_turn As)
    (λ i k w off free. steps_commute c.a_job_asks_only_what_it_may.ensures c.answers_are_by_what_they_depend_on.ensures.answer c.others_change_no_answer.ensures c.a_set_keeps_trees.ensures.contents As facts i k w off free) js (serial_schedule js) w
    (is_serializable (ActorsClash As) (actors_turned As) js apart)

use Rattle.std.proofs.Common.{refl, sym, subst, ap, ◌∙◌, length}
use Rattle.hub_job.specs.Same.{own_turns}
use Rattle.hub_serial.specs.Schedule.{jobs_in_order}
use Rattle.hub_serial.specs.Serial.{WorkInTurn}
use Rattle.hub_serial.specs.World.{opening, run}
use Rattle.hub_serial.proofs.InTurn.{distinct_order, serial_in_turn, works_in_turn}
use Rattle.hub_serial.proofs.laws.jobs_work_in_turn.Goals as goal

pub returns : goal.returns
returns c = λ Ps js replicas archives facts trees apart.
    let start = opening replicas archives in
    subst (λ w. WorkInTurn Ps (λ j. length (own_turns j js)) w (jobs_in_order js) start)
    (sym (c.a_schedule_without_interleaving_is_serializable.ensures.same Ps js start facts apart ∙ ap (λ ks. run Ps ks start) (serial_in_turn js (jobs_in_order js))))
    (works_in_turn c.a_set_keeps_trees.ensures.tree Ps facts (λ j. length (own_turns j js)) (jobs_in_order js) start (distinct_order js) trees (λ l h. record { log = refl; done = refl }))

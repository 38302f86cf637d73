use Rattle.std.proofs.Common.{refl, sym, subst, ap, ◌∙◌, length}
use Rattle.hub_job.specs.Same.{own_turns}
use Rattle.hub_serial.specs.Edits.{PartsInTurn, run_with_edits}
use Rattle.hub_serial.specs.Schedule.{jobs_in_order}
use Rattle.hub_serial.specs.World.{opening}
use Rattle.hub_serial.proofs.EditsInTurn.{parts_in_turn}
use Rattle.hub_serial.proofs.InTurn.{distinct_order, serial_in_turn}
use Rattle.hub_serial.proofs.laws.jobs_work_in_turn_with_edits.Goals as goal

pub returns : goal.returns
returns c = λ As js replicas archives facts apart.
    let start = opening replicas archives in
    subst (λ w. PartsInTurn As (λ j. length (own_turns j js)) w (jobs_in_order js) start)
    (sym (c.edits_may_come_at_any_time.ensures.serial As js start facts apart ∙ ap (λ ks. run_with_edits As ks start) (serial_in_turn js (jobs_in_order js))))
    (parts_in_turn As facts (λ j. length (own_turns j js)) (jobs_in_order js) start (distinct_order js) (λ l h. record { log = refl; done = refl }))

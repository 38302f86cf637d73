use Rattle.std.proofs.Common.{refl, length}
use Rattle.hub_job.specs.Same.{own_turns}
use Rattle.hub_serial.specs.Schedule.{jobs_in_order}
use Rattle.hub_serial.specs.World.{opening, run}
use Rattle.hub_serial.proofs.InTurn.{all_synchronize, distinct_order, ordered_has}
use Rattle.hub_serial.proofs.laws.jobs_synchronize_in_turn.Goals as goal

pub returns : goal.returns
returns c = λ Ps js replicas archives facts trees apart done.
    let start = opening replicas archives in
    all_synchronize Ps (λ j. length (own_turns j js)) (run Ps js start) (jobs_in_order js) start (distinct_order js) (λ l h. refl)
    (λ l h. done l (ordered_has l js h)) (c.jobs_work_in_turn.ensures Ps js replicas archives facts trees apart)

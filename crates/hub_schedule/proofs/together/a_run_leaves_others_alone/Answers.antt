use Rattle.hub_job.specs.World.{log_of, run, opening}
use Rattle.hub_schedule.proofs.Running.{world_own, world_elsewhere, foreign_stays}
use Rattle.hub_schedule.proofs.together.a_run_leaves_others_alone.Goals as goal

pub returns-clause-others : goal.returns-clause-others
returns-clause-others c = λ J replicas js apart.
    let w = run J js (opening J replicas) in
    c.jobs_leave_each_other_alone.ensures.others J replicas w.history (log_of w) apart (c.a_run_settles.ensures J replicas js).fits

pub returns-clause-own : goal.returns-clause-own
returns-clause-own c = λ J replicas js apart valid.
    let w = run J js (opening J replicas) in
    let settled = c.a_run_settles.ensures J replicas js in
    world_own J replicas w settled (c.jobs_leave_each_other_alone.ensures.own J replicas w.history (log_of w) apart valid settled.fits)

pub returns-clause-elsewhere : goal.returns-clause-elsewhere
returns-clause-elsewhere c = λ J replicas js j P r is has.
    let w = run J js (opening J replicas) in
    let settled = c.a_run_settles.ensures J replicas js in
    world_elsewhere J replicas w r settled (c.jobs_leave_each_other_alone.ensures.elsewhere J replicas w.history (log_of w) j P r settled.fits is has)

pub returns-clause-foreign : goal.returns-clause-foreign
returns-clause-foreign c = foreign_stays

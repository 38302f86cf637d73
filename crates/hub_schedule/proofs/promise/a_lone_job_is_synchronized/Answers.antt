use Rattle.std.proofs.Common.{subst}
use Rattle.std.specs.Prelude.{replicate}
use Rattle.hub_job.specs.Outcome.{IsOutcomeOf, KeepsTurns, jobs_of, replicas_of, world_after}
use Rattle.hub_job.specs.World.{first_turns}
use Rattle.hub_schedule.proofs.Promised.{state_trees}
use Rattle.hub_schedule.proofs.Simulated.{lone_synchronizes}
use Rattle.hub_schedule.proofs.promise.a_lone_job_is_synchronized.Goals as goal

pub returns : goal.returns
returns c = λ S Ps Rs limit schedule o valid there facts safe was kept j n P e one at ended going h.
    let is : IsOutcomeOf S Ps (first_turns limit (replicate n j)) o = subst (λ js. IsOutcomeOf S Ps (first_turns limit js) o) one was in
    let keep : KeepsTurns limit (replicate n j) o = subst (λ js. KeepsTurns limit js o) one kept in
    let turns = first_turns limit (replicate n j) in
    let settles = c.schedules_settle.ensures S Ps turns o is in
    lone_synchronizes c.a_job_without_turns_reaches_nothing.ensures S Ps limit o j n P e facts (state_trees S valid) there (c.a_run_settles.ensures (jobs_of S Ps) (replicas_of S) turns).replayed settles
    (c.finished_jobs_synchronize.ensures.finished S Ps Rs (world_after S Ps turns).history o valid there facts safe settles)
    (c.schedules_give_logs_alone.ensures.logs S Ps Rs limit (replicate n j) o safe is keep)
    (c.schedules_give_logs_alone.ensures.enough S Ps Rs limit (replicate n j) o safe is keep) keep at ended going h

use Rattle.hub_job.specs.Outcome.{jobs_of, replicas_of}
use Rattle.hub_schedule.proofs.Simulated.{outcome_settles}
use Rattle.hub_schedule.proofs.promise.schedules_settle.Goals as goal

pub returns : goal.returns
returns c = λ S Ps turns o is. outcome_settles S Ps turns o is (c.a_run_settles.ensures (jobs_of S Ps) (replicas_of S) turns)

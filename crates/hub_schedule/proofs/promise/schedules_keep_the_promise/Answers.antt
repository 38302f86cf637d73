use Rattle.hub_job.specs.Outcome.{world_after}
use Rattle.hub_schedule.proofs.promise.schedules_keep_the_promise.Goals as goal

pub returns : goal.returns
returns c = record {
  promise = λ S Ps Rs turns o valid there facts safe is.
      c.safe_sets_keep_their_promise.ensures.promise S Ps Rs (world_after S Ps turns).history o valid there facts safe (c.schedules_settle.ensures S Ps turns o is);
  alone = λ S Ps Rs turns o valid there facts safe is.
      c.safe_sets_keep_their_promise.ensures.alone S Ps Rs (world_after S Ps turns).history o valid there facts safe (c.schedules_settle.ensures S Ps turns o is);
}

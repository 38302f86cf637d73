use Rattle.hub_schedule.proofs.Kept.{all_enough}
use Rattle.hub_schedule.proofs.promise.enough_turns_finish.Goals as goal

pub returns : goal.returns
returns c = all_enough c.jobs_leave_each_other_alone.ensures.logs

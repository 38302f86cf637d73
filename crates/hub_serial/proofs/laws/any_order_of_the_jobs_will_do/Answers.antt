use Rattle.std.proofs.Common.{◌∙◌}
use Rattle.hub_serial.specs.Clash.{JobsClash}
use Rattle.hub_serial.specs.Schedule.{jobs_in_order, serial_schedule, turns_by_job}
use Rattle.hub_serial.proofs.Serializable.{same_in_order}
use Rattle.hub_serial.proofs.laws.any_order_of_the_jobs_will_do.Goals as goal

pub returns : goal.returns
returns c = λ Ps js jobs w facts apart e.
    c.a_schedule_without_interleaving_is_serializable.ensures.same Ps js w facts apart
    ∙ c.equivalent_schedules_leave_the_same.ensures Ps (serial_schedule js) (turns_by_job jobs js) w facts (same_in_order (JobsClash Ps) js (jobs_in_order js) jobs e)

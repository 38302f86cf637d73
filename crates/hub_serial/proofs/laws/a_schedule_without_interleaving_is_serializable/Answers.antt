use Rattle.hub_serial.specs.Clash.{JobsClash}
use Rattle.hub_serial.specs.Schedule.{serial_schedule}
use Rattle.hub_serial.proofs.Exchange.{clashing_turned}
use Rattle.hub_serial.proofs.Serializable.{is_serializable}
use Rattle.hub_serial.proofs.laws.a_schedule_without_interleaving_is_serializable.Goals as goal

pub returns-clause-equivalent : goal.returns-clause-equivalent
returns-clause-equivalent c = λ Ps js apart. is_serializable (JobsClash Ps) (clashing_turned Ps) js apart

pub returns-clause-same : goal.returns-clause-same
returns-clause-same c = λ Ps js w facts apart.
    c.equivalent_schedules_leave_the_same.ensures Ps js (serial_schedule js) w facts (is_serializable (JobsClash Ps) (clashing_turned Ps) js apart)

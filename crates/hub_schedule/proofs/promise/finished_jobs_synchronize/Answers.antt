use Rattle.hub_schedule.proofs.Kept.{all_finished}
use Rattle.hub_schedule.specs.laws.Unchanged.{foreign, marks_stay}
use Rattle.hub_schedule.proofs.promise.finished_jobs_synchronize.Goals as goal

pub returns-clause-finished : goal.returns-clause-finished
returns-clause-finished c = all_finished c.jobs_leave_each_other_alone.ensures.logs c.jobs_leave_each_other_alone.ensures.own

pub returns-clause-marks : goal.returns-clause-marks
returns-clause-marks c = marks_stay

pub returns-clause-foreign : goal.returns-clause-foreign
returns-clause-foreign c = foreign

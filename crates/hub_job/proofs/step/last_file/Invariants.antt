use Rattle.std.proofs.Common.{◌≡◌, ◌-◌, [], take, length}
use Rattle.hub_job.specs.Job.{fetched_last}
use Rattle.hub_job.proofs.step.last_file.Given as goal

abbrev pub invariant-loop-i : goal.invariant-loop-i
invariant-loop-i l = fetched_last [] (take (length l.log - l.i) l.log) ≡ fetched_last [] l.log

use Rattle.std.proofs.Common.{◌≡◌, drop}
use Rattle.hub_runner.specs.Settling.{log_at}
use Rattle.hub_runner.proofs.comparison.log_of.Given as goal

abbrev pub invariant-loop-job : goal.invariant-loop-job
invariant-loop-job l = log_at (drop l.job-index l.jobs) l.number ≡ log_at l.jobs l.number

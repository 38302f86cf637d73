use Rattle.hub_runner.proofs.Least.{LeastUpTo}
use Rattle.hub_runner.proofs.inconsistent.find_least.Given as goal

abbrev pub invariant-loop-job : goal.invariant-loop-job
invariant-loop-job l = LeastUpTo l.jobs l.job-index l.from l.least

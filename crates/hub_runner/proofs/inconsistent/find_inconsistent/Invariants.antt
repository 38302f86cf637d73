use Rattle.hub_runner.proofs.InconsistentJobs.{DueUpTo}
use Rattle.hub_runner.proofs.inconsistent.find_inconsistent.Given as goal

abbrev pub invariant-loop-number : goal.invariant-loop-number
invariant-loop-number l = DueUpTo l.state l.profiles l.jobs l.number

use Rattle.hub_runner.specs.Working.{AreEnded}
use Rattle.hub_runner.proofs.runs.jobs_of.Given as goal

abbrev pub invariant-loop-one : goal.invariant-loop-one
invariant-loop-one l = AreEnded l.jobs.items

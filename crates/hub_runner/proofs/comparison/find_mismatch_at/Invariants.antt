use Rattle.std.proofs.Common.{length}
use Rattle.hub_runner.specs.Settling.{Agrees}
use Rattle.hub_runner.proofs.JobPlaces.{RightUpTo}
use Rattle.hub_runner.proofs.comparison.find_mismatch_at.Given as goal

abbrev pub invariant-loop-job : goal.invariant-loop-job
invariant-loop-job l = RightUpTo (Agrees l.state l.set.profiles l.books l.jobs) l.root (length l.set.profiles) l.job

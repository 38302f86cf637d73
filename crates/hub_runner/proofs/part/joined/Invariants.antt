use Rattle.std.proofs.Common.{◌≡◌, ◌++◌}
use Rattle.hub_runner.proofs.part.joined.Given as goal

abbrev pub invariant-loop-job : goal.invariant-loop-job
invariant-loop-job l = l.all.items ≡ l.initial.all.items ++ l.yielded

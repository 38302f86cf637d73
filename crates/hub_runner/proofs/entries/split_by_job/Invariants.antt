use Rattle.std.proofs.Common.{◌≡◌, take}
use Rattle.hub_runner.proofs.Splitting.{by_job}
use Rattle.hub_runner.proofs.entries.split_by_job.Given as goal

abbrev pub invariant-loop-entry : goal.invariant-loop-entry
invariant-loop-entry l = l.lists.items ≡ by_job l.n (take l.entry-index l.history)

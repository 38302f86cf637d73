use Rattle.std.proofs.Common.{◌≡◌, ◌++◌, drop}
use Rattle.hub_job.specs.History.{entries_of}
use Rattle.hub_runner.proofs.entries.entries_of.Given as goal

abbrev pub invariant-loop-entry : goal.invariant-loop-entry
invariant-loop-entry l = l.entries.items ++ entries_of l.job (drop l.entry-index l.history) ≡ entries_of l.job l.history

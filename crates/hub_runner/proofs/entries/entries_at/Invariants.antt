use Rattle.std.proofs.Common.{◌≡◌, ◌++◌, drop}
use Rattle.hub_job.specs.History.{entries_at}
use Rattle.hub_runner.proofs.entries.entries_at.Given as goal

abbrev pub invariant-loop-entry : goal.invariant-loop-entry
invariant-loop-entry l = l.entries.items ++ entries_at l.profile l.root (drop l.entry-index l.log) ≡ entries_at l.profile l.root l.log

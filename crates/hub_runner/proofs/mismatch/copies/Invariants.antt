use Rattle.std.proofs.Common.{◌≡◌, take}
use Rattle.hub_runner.proofs.mismatch.copies.Given as goal

abbrev pub invariant-loop-entry : goal.invariant-loop-entry
invariant-loop-entry l = l.all.items ≡ take l.entry-index l.entries

use Rattle.std.proofs.Common.{length}
use Rattle.hub_runner.specs.Settling.{Agrees, places_at}
use Rattle.hub_runner.proofs.Firsts.{RightBefore}
use Rattle.hub_runner.proofs.comparison.find_mismatch.Given as goal

abbrev pub invariant-loop-borrowed : goal.invariant-loop-borrowed
invariant-loop-borrowed l = RightBefore (places_at (length l.set.profiles)) (Agrees l.state l.set.profiles l.books l.jobs) l.borrowed-items l.borrowed-index

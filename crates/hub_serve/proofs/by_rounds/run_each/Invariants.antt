use Rattle.std.proofs.Common.{◌≡◌, length}
use Rattle.hub_serve.proofs.ByRounds.{IsSoFar}
use Rattle.hub_serve.proofs.by_rounds.run_each.Given as goal

abbrev pub invariant-loop-profiles : goal.invariant-loop-profiles
invariant-loop-profiles g l = (l.rules ≡ l.fn.rules) × IsSoFar l.fn.rules l.workers l.fn.run.state l.fn.rounds.items (length l.yielded) l.run

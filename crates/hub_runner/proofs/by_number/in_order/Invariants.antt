use Rattle.hub_runner.proofs.Filling.{IsFilling}
use Rattle.hub_runner.proofs.by_number.in_order.Given as goal

abbrev pub invariant-loop-job : goal.invariant-loop-job
invariant-loop-job l = IsFilling l.n l.yielded l.slots.items

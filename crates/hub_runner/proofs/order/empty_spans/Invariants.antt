use Rattle.std.proofs.Common.{◌≡◌, length}
use Rattle.hub_runner.proofs.order.empty_spans.Given as goal

abbrev pub invariant-loop : goal.invariant-loop
invariant-loop l = length l.spans.items ≡ l.counter

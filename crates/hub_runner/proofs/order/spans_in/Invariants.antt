use Rattle.hub_runner.specs.Order.{AreSpans}
use Rattle.hub_runner.proofs.order.spans_in.Given as goal

abbrev pub invariant-loop-place : goal.invariant-loop-place
invariant-loop-place l = AreSpans l.jobs l.place l.history l.spans.items

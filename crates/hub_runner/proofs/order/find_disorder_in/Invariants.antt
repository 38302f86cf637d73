use Rattle.hub_runner.proofs.Spans.{StandInOrderUpTo}
use Rattle.hub_runner.proofs.order.find_disorder_in.Given as goal

abbrev pub invariant-loop-pair : goal.invariant-loop-pair
invariant-loop-pair l = StandInOrderUpTo l.jobs l.history l.pairs l.pair-index

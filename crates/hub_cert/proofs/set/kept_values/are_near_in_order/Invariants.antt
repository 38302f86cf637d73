use Rattle.std.proofs.Common.{◌+◌, ◌-◌, length}
use Rattle.hub_cert.proofs.NearInOrder.{AreMerged}
use Rattle.hub_cert.proofs.set.kept_values.are_near_in_order.Given as goal

abbrev pub invariant-loop-first : goal.invariant-loop-first
invariant-loop-first l = AreMerged l.these l.those l.first l.second

abbrev pub decreases-loop-first : goal.decreases-loop-first
decreases-loop-first l = (length l.these - l.first) + (length l.those - l.second)

use Rattle.std.proofs.Common.{◌≡◌, ◌++◌, reverse, length}
use Rattle.hub_parts.specs.Near as near
use Rattle.hub_parts.proofs.sweep.near_pairs.Given as goal

abbrev pub invariant-loop-value : goal.invariant-loop-value
invariant-loop-value l = l.pairs.items ++ near.pairs_below (reverse l.above.items) l.rest ≡ near.near_pairs l.fn.values

abbrev pub decreases-loop-value : goal.decreases-loop-value
decreases-loop-value l = length l.rest

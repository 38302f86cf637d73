use Rattle.std.proofs.Common.{◌≡◌, reverse, length}
use Rattle.hub_parts.specs.Near as near
use Rattle.hub_parts.proofs.sweep.keep_over.Given as goal

abbrev pub invariant-loop-top : goal.invariant-loop-top
invariant-loop-top l = near.over_only l.path (reverse l.above.items) ≡ near.over_only l.path (reverse l.initial.above.items)

abbrev pub decreases-loop-top : goal.decreases-loop-top
decreases-loop-top l = length l.above.items

use Rattle.std.proofs.Common.{length}
use Rattle.hub_mend.specs.Placed.{ArePlaced}
use Rattle.hub_mend.proofs.placed.are_placed.Given as goal

abbrev pub invariant-loop-piece : goal.invariant-loop-piece
invariant-loop-piece l = ArePlaced l.rest → ArePlaced l.fn.pieces

abbrev pub decreases-loop-piece : goal.decreases-loop-piece
decreases-loop-piece l = length l.rest

use Rattle.std.proofs.Common.{◌≡◌, map, take}
use Rattle.hub_unison.specs.Matching.{star_for}
use Rattle.hub_unison.proofs.stars.starred.Given as goal

abbrev pub invariant-loop-piece : goal.invariant-loop-piece
invariant-loop-piece l = l.stars ≡ map star_for (take l.piece-index l.pieces)

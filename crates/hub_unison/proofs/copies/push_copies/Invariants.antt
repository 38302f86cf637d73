use Rattle.std.proofs.Common.{◌≡◌, ◌++◌, take}
use Rattle.hub_unison.proofs.copies.push_copies.Given as goal

abbrev pub invariant-loop-piece : goal.invariant-loop-piece
invariant-loop-piece l = l.list ≡ l.initial.list ++ take l.piece-index l.pieces

use Rattle.std.proofs.Common.{◌≡◌, drop, false}
use Rattle.hub_folded.specs.Pieces.{all_pieces_stand}
use Rattle.hub_folded.proofs.pieces.knows_pieces.Given as goal

abbrev pub invariant-loop-piece : goal.invariant-loop-piece
invariant-loop-piece l =
    all_pieces_stand l.bare (drop l.piece-index l.pieces) ≡ all_pieces_stand false l.pieces

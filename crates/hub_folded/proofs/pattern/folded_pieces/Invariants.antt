use Rattle.std.proofs.Common.{◌≡◌, take}
use Rattle.std.specs.List.{flat_map}
use Rattle.hub_folded.specs.Lines as lines
use Rattle.hub_folded.specs.Table.{unicode}
use Rattle.hub_folded.proofs.pattern.folded_pieces.Given as goal

abbrev pub invariant-loop-piece : goal.invariant-loop-piece
invariant-loop-piece l = l.folded ≡ flat_map (lines.fold_piece unicode) (take l.piece-index l.pieces)

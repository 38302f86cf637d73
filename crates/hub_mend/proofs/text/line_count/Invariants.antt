use Rattle.std.proofs.Common.{◌≡◌, take}
use Rattle.hub_mend.specs.Additions.{line_count}
use Rattle.hub_mend.proofs.text.line_count.Given as goal

abbrev pub invariant-loop-piece : goal.invariant-loop-piece
invariant-loop-piece l = l.count ≡ line_count (take l.piece-index l.pieces)

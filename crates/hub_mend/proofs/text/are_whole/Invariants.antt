use Rattle.std.proofs.Common.{◌≡◌, ◌++◌, take}
use Rattle.hub_mend.specs.Additions.{own_text}
use Rattle.hub_mend.proofs.text.are_whole.Given as goal

abbrev pub invariant-loop-piece : goal.invariant-loop-piece
invariant-loop-piece l = l.text ≡ own_text (take l.piece-index l.pieces) ++ l.rest

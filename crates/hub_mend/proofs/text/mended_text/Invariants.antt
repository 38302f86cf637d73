use Rattle.std.proofs.Common.{◌≡◌, ◌++◌, take}
use Rattle.hub_mend.specs.Additions.{mended_text}
use Rattle.hub_mend.proofs.text.mended_text.Given as goal

abbrev pub invariant-loop-piece : goal.invariant-loop-piece
invariant-loop-piece l = l.text.items ≡ mended_text (take l.piece-index l.pieces)

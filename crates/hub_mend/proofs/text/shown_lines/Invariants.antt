use Rattle.std.proofs.Common.{◌≡◌, ◌++◌, take}
use Rattle.hub_mend.specs.Additions.{shown_lines}
use Rattle.hub_mend.proofs.text.shown_lines.Given as goal

abbrev pub invariant-loop-piece : goal.invariant-loop-piece
invariant-loop-piece l = l.text.items ≡ shown_lines (take l.piece-index l.pieces)

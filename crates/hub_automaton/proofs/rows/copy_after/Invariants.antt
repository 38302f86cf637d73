use Rattle.std.proofs.Common.{◌≡◌, length}
use Rattle.hub_automaton.proofs.RowMoves.{SameBetween}
use Rattle.hub_automaton.proofs.rows.copy_after.Given as goal

abbrev pub invariant-loop-i : goal.invariant-loop-i
invariant-loop-i l = (length l.new ≡ length l.old) × SameBetween l.new l.old l.place l.i

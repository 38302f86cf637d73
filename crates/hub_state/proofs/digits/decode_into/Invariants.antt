use Rattle.std.proofs.Common.{◌≡◌, length}
use Rattle.hub_state.proofs.DigitLoops.{PairsRead}
use Rattle.hub_state.proofs.digits.decode_into.Given as goal

abbrev pub invariant-loop-i : goal.invariant-loop-i
invariant-loop-i l = (length l.bytes ≡ length l.fn.bytes) × PairsRead l.digits l.bytes l.i l.largest

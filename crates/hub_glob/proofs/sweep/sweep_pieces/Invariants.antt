use Rattle.std.proofs.Common.{◌≡◌, ◌+◌, drop}
use Rattle.hub_glob.specs.Sweep as sweep
use Rattle.hub_glob.specs.Sweep.{Swept}
use Rattle.arrayvec.specs.ArrayVec.{array_vec_len}
use Rattle.hub_glob.proofs.sweep.sweep_pieces.Given as goal

abbrev pub invariant-loop-piece : goal.invariant-loop-piece
invariant-loop-piece l =
    let now : Swept = record { live = l.new.items; carry = l.carry } in
    let start : Swept = record { live = l.initial.new.items; carry = l.initial.carry } in
    (array_vec_len l.new ≡ array_vec_len l.initial.new + l.piece-index)
    × (sweep.swept_pieces l.next l.old (drop l.piece-index l.pieces) now ≡ sweep.swept_pieces l.next l.old l.pieces start)

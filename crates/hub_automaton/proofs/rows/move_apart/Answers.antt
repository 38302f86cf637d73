use Rattle.std.proofs.Common.{refl, arith}
use Rattle.hub_automaton.proofs.RowMoves.{apart_step}
use Rattle.hub_automaton.proofs.rows.move_apart.Goals as goal

pub loop-i-preserved : goal.loop-i-preserved
loop-i-preserved c =
    let h = c.loop-i.invariant in
    apart_step _ _ _ _ _ _ _ _ _ _ _ _ _ _ c.masks_at-masks.result h (omega (arith, c.min-i-end.ensures)) (omega (arith, h.long, c.min-i-end.ensures))
    c.masks_at-masks.ensures refl c.moved_word-word.ensures

use Rattle.std.proofs.Common.{refl, arith}
use Rattle.hub_automaton.proofs.RowMoves.{carry_skips, carry_step}
use Rattle.hub_automaton.proofs.rows.carry_on.Goals.{then-step-i-ne0, else-step-i-ne0}
use Rattle.hub_automaton.proofs.rows.carry_on.Goals as goal

pub loop-i-preserved : goal.loop-i-preserved
loop-i-preserved c =
    let h = c.loop-i.invariant in
    elim c.if-step-i-ne0.branch [
      | then-step-i-ne0 w ↦ rw w.new-is
          (carry_step _ _ _ _ _ _ _ _ _ _ _ _ _ w.masks_at.result h (omega (arith, c.min-i-end.ensures)) (omega (arith, h.long, c.min-i-end.ensures))
          refl refl w.masks_at.ensures refl w.moved_word.ensures)
      | else-step-i-ne0 w ↦ rw w.new-is (carry_skips _ _ _ _ _ _ _ _ _ _ h refl w.if-step-i-ne0.false)
    ]

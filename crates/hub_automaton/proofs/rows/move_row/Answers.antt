use Rattle.std.proofs.Common.{drop, sym, ap, ◌∙◌, arith}
use Rattle.hub_automaton.proofs.RowMoves.{apart_moved, row_moved}
use Rattle.hub_automaton.proofs.rows.move_row.Goals as goal

pub returns-then-move_apart-ne0 : goal.returns-then-move_apart-ne0
returns-then-move_apart-ne0 c =
    let n = c.min.ensures in
    row_moved _ _ _ _ _ _ (omega (arith, c.requires.row, c.copy_after.auto.new, c.move_apart.auto.new, c.carry_on.auto.new)) c.carry_on.ensures.moved
    (c.carry_on.ensures.after ∙ c.move_apart.ensures.after ∙ ap (λ k. drop k c.copy_after.new.new) (sym n) ∙ c.copy_after.ensures ∙ ap (λ k. drop k c.args.old.now) n)

pub returns-else-move_apart-ne0 : goal.returns-else-move_apart-ne0
returns-else-move_apart-ne0 c =
    let n = c.min.ensures in
    row_moved _ _ _ _ _ _ (omega (arith, c.requires.row, c.copy_after.auto.new, c.move_apart.auto.new))
    (apart_moved _ _ _ _ _ _ _ c.move_apart.ensures.apart (c.move_apart.ensures.none c.if-move_apart-ne0.false))
    (c.move_apart.ensures.after ∙ ap (λ k. drop k c.copy_after.new.new) (sym n) ∙ c.copy_after.ensures ∙ ap (λ k. drop k c.args.old.now) n)

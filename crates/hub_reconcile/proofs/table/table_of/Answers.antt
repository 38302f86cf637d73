use Rattle.std.proofs.Common.{[], ◌∷◌, ◌++◌, cond, ap, sym, ◌∙◌}
use Rattle.std.specs.FinMap as fin
use Rattle.std.specs.Option.{option_map}
use Rattle.hub_profile.specs.Parts.{Parts}
use Rattle.hub_reconcile.specs.Merge.{told_marks}
use Rattle.hub_reconcile.specs.Picture.{are_rising, told_by}
use Rattle.hub_reconcile.specs.Rows.{is_counted, other_of}
use Rattle.hub_reconcile.proofs.Tabled.{tabled_start, tabled_more, fewer_left}
use Rattle.hub_reconcile.proofs.table.table_of.Goals as goal

pub loop-path-init : goal.loop-path-init
loop-path-init c =
    let V = c.args.picture.now in
    tabled_start V.profile.now V.archive.now (told_by V.left.now) (told_by V.right.now) (record { rows = c.new.result; others = c.new-2.result })
    (told_by c.looks-left.result.now) (told_by c.looks-right.result.now) c.next_mark-old.result c.next_mark-old.new.marks c.iter-marks.result
    c.new.ensures.items c.new-2.ensures.items (ap told_by c.looks-left.ensures.looks) (ap told_by c.looks-right.ensures.looks) (c.iter-marks.ensures ∙ ap fin.entries c.archive.ensures)
    c.next_mark-old.ensures
    (ap (λ ls. are_rising (told_by ls)) (sym c.looks-left.ensures.looks) ∙ c.looks-left.ensures.rising)
    (ap (λ ls. are_rising (told_by ls)) (sym c.looks-right.ensures.looks) ∙ c.looks-right.ensures.rising)

pub loop-path-smaller : goal.loop-path-smaller
loop-path-smaller c =
    let V = c.args.picture.now in
    fewer_left V.profile.now V.archive.now (told_by V.left.now) (told_by V.right.now) c.loop-path.table c.loop-path.left.now c.loop-path.right.now c.loop-path.old c.loop-path.marks
    c.loop-path.invariant c.in-Some.path.now (sym c.least_path.ensures ∙ ap (option_map (λ p. p.now)) c.in-Some.is)
    c.past_look-left.result.now c.past_look-right.result.now c.past_mark-old.result c.past_mark-old.new.marks
    c.past_look-left.ensures c.past_look-right.ensures c.past_mark-old.ensures

pub loop-path-preserved : goal.loop-path-preserved
loop-path-preserved c =
    let V = c.args.picture.now in
    let row = c.row_of-row.result in
    tabled_more V.profile.now V.archive.now (told_by V.left.now) (told_by V.right.now) c.loop-path.table (told_by c.loop-path.left.now) (told_by c.loop-path.right.now)
    c.loop-path.old c.loop-path.marks c.loop-path.invariant row c.in-Some.path.now c.row_of-row.ensures.path
    (sym c.least_path.ensures ∙ ap (option_map (λ p. p.now)) c.in-Some.is)
    c.row_of-row.ensures.left c.row_of-row.ensures.right c.row_of-row.ensures.old
    c.add_row.new.table (told_by c.past_look-left.result.now) (told_by c.past_look-right.result.now) c.past_mark-old.result c.past_mark-old.new.marks
    c.past_look-left.ensures c.past_look-right.ensures c.past_mark-old.ensures
    (c.in_ok-add_row.ensures.rows ∙ ap (λ (P : Parts). c.loop-path.table.rows.items ++ cond (is_counted P row) (row ∷ []) []) c.profile.ensures)
    (c.in_ok-add_row.ensures.others ∙ ap (λ (P : Parts). told_marks c.loop-path.table.others.items ++ other_of P row) c.profile.ensures)

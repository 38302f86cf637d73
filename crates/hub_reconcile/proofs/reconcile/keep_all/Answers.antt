use Rattle.std.proofs.Common.{◌-◌, ◌++◌, ◌∷◌, [], List, take, drop, length, ap, sym, ◌∙◌, subst, append-nil, arith}
use Rattle.hub_tree.specs.Marked.{marked_entries}
use Rattle.hub_reconcile.specs.forms.Groups.{HaveMarkNames}
use Rattle.hub_reconcile.specs.Merge.{told_mark, told_marks}
use Rattle.hub_reconcile.specs.declared.old_mark.OldMark.{OldMark}
use Rattle.hub_reconcile.proofs.Loops.{head_rest, marks_next}
use Rattle.hub_reconcile.proofs.reconcile.keep_all.Goals as goal

pub loop-rest-preserved : goal.loop-rest-preserved
loop-rest-preserved c =
    let rest = c.loop-rest.rest.now in
    let o = c.other-item.result in
    let head = head_rest rest o (omega (arith, c.in-len1-up.len_at_least)) c.other-item.is in (
      marks_next (told_marks rest) (told_mark o ∷ []) (told_marks (take (length rest - 1) (drop 1 rest))) c.loop-rest.marks c.push.new.self _ (ap told_marks head)
          (c.in_ok-push.ensures.ok ∙ ap (λ es. c.loop-rest.marks ++ es) (sym (append-nil (marked_entries o.path.now o.mark)))) c.loop-rest.invariant.0,
      (subst (λ (os : List OldMark). HaveMarkNames (told_marks os)) head c.loop-rest.invariant.1).1,
    )

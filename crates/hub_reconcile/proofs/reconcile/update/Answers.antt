use Rattle.std.proofs.Common.{◌-◌, ◌++◌, ◌∷◌, [], List, map, take, drop, length, ap, sym, ◌∙◌, subst, append-nil, arith}
use Rattle.hub_tree.specs.Marked.{marked_entries}
use Rattle.hub_reconcile.specs.forms.Groups.{HaveNames, row_told}
use Rattle.hub_reconcile.specs.declared.row.Row.{Row}
use Rattle.hub_reconcile.proofs.Loops.{head_rest, marks_next}
use Rattle.hub_reconcile.proofs.reconcile.update.Goals as goal

pub loop-rest-preserved : goal.loop-rest-preserved
loop-rest-preserved c =
    let rest = c.loop-rest.rest.now in
    let r = c.row-item.result in
    let told = row_told c.args.group.now.fate in
    let head = head_rest rest r (omega (arith, c.in-len1-up.len_at_least)) c.row-item.is in (
      marks_next (map told rest) (told r ∷ []) (map told (take (length rest - 1) (drop 1 rest))) c.loop-rest.marks c.push-in-len1-up.new.self _ (ap (map told) head)
          (c.in_ok-push-2.ensures.ok ∙ (λ i. c.loop-rest.marks ++ sym (append-nil (marked_entries r.path.now (c.new_mark-in-len1-up.ensures i))) i)) c.loop-rest.invariant.0,
      (subst (λ (rs : List Row). HaveNames rs) head c.loop-rest.invariant.1).1,
    )

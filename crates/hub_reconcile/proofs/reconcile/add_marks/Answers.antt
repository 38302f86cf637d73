use Rattle.std.proofs.Common.{◌-◌, ◌++◌, List, take, drop, length, ap, sym, ◌∙◌, subst, append-nil, arith}
use Rattle.std.specs.List.{flat_map}
use Rattle.hub_reconcile.specs.forms.Groups.{HaveAllNames, group_marks, kept_marks}
use Rattle.hub_reconcile.specs.declared.group.Group.{Group}
use Rattle.hub_reconcile.proofs.Loops.{head_rest, none_left, marks_next}
use Rattle.hub_reconcile.proofs.reconcile.add_marks.Goals as goal

pub update-requires : goal.update-requires
update-requires c =
    (subst (λ (bs : List Group). HaveAllNames bs) (head_rest c.loop-rest.rest.now c.group-item.result (omega (arith, c.in-len1-up.len_at_least)) c.group-item.is) c.loop-rest.invariant.1).0

pub loop-rest-preserved : goal.loop-rest-preserved
loop-rest-preserved c =
    let rest = c.loop-rest.rest.now in
    let b = c.group-item.result in
    let head = head_rest rest b (omega (arith, c.in-len1-up.len_at_least)) c.group-item.is in (
      marks_next (flat_map group_marks rest) (group_marks b) (flat_map group_marks (take (length rest - 1) (drop 1 rest))) c.loop-rest.marks c.update.new.marks _
          (ap (flat_map group_marks) head) c.in_ok-update.ensures c.loop-rest.invariant.0,
      (subst (λ (bs : List Group). HaveAllNames bs) head c.loop-rest.invariant.1).1,
    )

pub returns : goal.returns
returns c =
    sym (append-nil c.loop-rest.marks)
    ∙ ap (λ (bs : List Group). c.loop-rest.marks ++ kept_marks (flat_map group_marks bs)) (sym (none_left c.loop-rest.rest.now c.in_default.len_below)) ∙ c.loop-rest.invariant.0

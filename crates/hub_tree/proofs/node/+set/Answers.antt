use Rattle.std.proofs.Common.{◌≡◌, refl, sym, ap, ◌∙◌, subst, Option, drop, arith, rules}
use Rattle.std.specs.Prelude.{IsSome, Ok, Err}
use Rattle.std.specs.Arc.{arc_value}
use Rattle.std.proofs.lemmas.Result.{err_from_is_err_and}
use Rattle.hub_path.specs.Path.{Path}
use Rattle.hub_tree.specs.Nodes.{replica_of, children_entries, contents_of, kids_of}
use Rattle.hub_tree.specs.declared.node.Node.{Node}
use Rattle.hub_tree.specs.forms.Puts.{IsPut}
use Rattle.hub_tree.proofs.Copies.{same_replica}
use Rattle.hub_tree.proofs.LookUp.{last_rest, contents-file, kids-file}
use Rattle.hub_tree.proofs.Putting.{put_through, put_copied, put_fault_nowhere, put_fault_below-file}
use Rattle.hub_tree.proofs.Setting.{refusal}
use Rattle.hub_tree.proofs.node.+set.Goals as goal

pub put_at-returns-then-depth-len : goal.put_at-returns-then-depth-len
put_at-returns-then-depth-len t c =
    subst (λ (p : Path). IsPut c.args.only_new c.args.children.now c.put_child.new.children p c.args.contents c.put_child.result)
    (last_rest c.args.path.now c.args.depth _ c.name-name.ensures.name (omega arith)) c.put_child.ensures

pub put_at-returns-in-Some : goal.put_at-returns-in-Some
put_at-returns-in-Some t c =
    let written = (c.get_mut.follows.holds c.put_below.new.node).3 (subst (λ (o : Option Node). IsSome o) c.in-Some.ensures.value refl) in
    put_through c.args.only_new c.args.children.now.entries _ c.args.path.now c.args.depth c.name-name.result.now c.in-Some.node.now c.put_below.new.node c.args.contents c.put_below.result
    c.name-name.ensures.name (omega arith) written.0 (sym c.in-Some.ensures.value) c.put_below.ensures.kind c.put_below.ensures.put

pub put_at-returns-in-None : goal.put_at-returns-in-None
put_at-returns-in-None t c = (
  tt,
  tt,
  tt,
  refusal _ _ (put_fault_nowhere c.args.only_new c.args.children.now.entries c.args.path.now c.args.depth c.name-name.result.now c.args.contents c.name-name.ensures.name (omega arith) (sym c.in-None.ensures.value)),
  search rules,
)

pub put_shared-returns-in_err-left : goal.put_shared-returns-in_err-left
put_shared-returns-in_err-left t c =
    let same : replica_of c.in_ok-children.children.entries ≡ replica_of (arc_value c.args.shared.now).entries =
    same_replica c.in_ok-children.children.entries (arc_value c.args.shared.now).entries (c.in_ok-children.ensures ∙ ap (λ m. children_entries m.entries) c.deref-3.ensures) in
    let put = put_copied c.args.only_new _ _ (replica_of c.put_at-2.new.children.entries) (drop c.args.depth c.args.path.now) c.args.contents (Err c.in_err-left.field-0.0) same c.in_err-left.ensures in
    let p = err_from_is_err_and c.from_residual-in_err-left.result c.from_residual-in_err-left.ensures.1 in
    rw (p.1, p.2) (tt, tt, tt, put.3, refl)

pub put_shared-returns : goal.put_shared-returns
put_shared-returns t c =
    let same : replica_of c.in_ok-children.children.entries ≡ replica_of (arc_value c.args.shared.now).entries =
    same_replica c.in_ok-children.children.entries (arc_value c.args.shared.now).entries (c.in_ok-children.ensures ∙ ap (λ m. children_entries m.entries) c.deref-3.ensures) in
    let put = put_copied c.args.only_new _ _ (replica_of c.put_at-2.new.children.entries) (drop c.args.depth c.args.path.now) c.args.contents (Ok c.in_ok-left.left) same c.in_ok-left.ensures in
    (put.0, put.1, ap (λ m. replica_of m.entries) c.in_ok-shared.ensures.ok ∙ put.2, tt, tt)

pub put_below-returns-in-File-clause-put : goal.put_below-returns-in-File-clause-put
put_below-returns-in-File-clause-put t c = (
  tt,
  tt,
  tt,
  refusal _ _ (put_fault_below-file c.args.only_new c.args.node.now c.in-File.field-0 (drop c.args.depth c.args.path.now) c.args.contents
      (ap contents_of c.in-File.is ∙ contents-file c.in-File.field-0) (ap kids_of c.in-File.is ∙ kids-file c.in-File.field-0)),
  refl,
)

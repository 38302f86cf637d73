use Rattle.std.proofs.Common.{refl, sym, ap, ◌∙◌}
use Rattle.hub_tree.specs.Nodes.{replica_of}
use Rattle.hub_tree.specs.declared.contents.Contents.TheVariants.{Absent}
use Rattle.hub_tree.proofs.Setting.{changed_child, bare_vacant, bare_nothing, occupied_fault, removal_fault, nothing_fault, is_set, is_refused}
use Rattle.hub_tree.proofs.child.remove.Goals as goal

pub returns-then-is_occupied : goal.returns-then-is_occupied
returns-then-is_occupied c = is_refused (occupied_fault c.args.children.now.entries c.args.name.now Absent refl (sym c.is_occupied.ensures ∙ c.if-is_occupied.true)) refl

pub returns-in-Some : goal.returns-in-Some
returns-in-Some c =
    is_set (removal_fault c.args.children.now.entries c.args.name.now _ (sym c.in-Some.ensures.value) (sym c.is_occupied.ensures ∙ c.if-is_occupied.false))
    (changed_child c.args.children.now.entries c.remove.new.self.entries c.args.name.now _ Absent c.remove.ensures.updates.0
    (bare_vacant _ (sym c.is_occupied.ensures ∙ c.if-is_occupied.false)) bare_nothing refl)

pub returns-in-None : goal.returns-in-None
returns-in-None c = is_refused (nothing_fault c.args.children.now.entries c.args.name.now (sym c.in-None.ensures.value)) (ap replica_of c.in-None.ensures.unchanged)

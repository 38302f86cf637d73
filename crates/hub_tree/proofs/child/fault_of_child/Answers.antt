use Rattle.std.proofs.Common.{◌∷◌, [], sym, ap, ◌∙◌}
use Rattle.hub_tree.specs.Nodes.{replica_of}
use Rattle.hub_tree.specs.Tree.{set_fault, is_directory, is_absent}
use Rattle.hub_tree.proofs.Setting.{occupied_fault, vacant_fault, removal_fault, nothing_fault}
use Rattle.hub_tree.proofs.child.fault_of_child.Goals as goal

pub returns-then-is_occupied : goal.returns-then-is_occupied
returns-then-is_occupied c = sym (occupied_fault c.args.children.now.entries c.args.name.now c.args.contents.now (ap is_directory c.in-File.is) (sym c.is_occupied.ensures ∙ c.if-is_occupied.true))

pub returns-then-is_occupied-2 : goal.returns-then-is_occupied-2
returns-then-is_occupied-2 c = sym (occupied_fault c.args.children.now.entries c.args.name.now c.args.contents.now (ap is_directory c.in-Absent.is) (sym c.is_occupied-in-Absent.ensures ∙ c.if-is_occupied-2.true))

pub returns-else-is_occupied : goal.returns-else-is_occupied
returns-else-is_occupied c = sym (vacant_fault c.args.children.now.entries c.args.name.now c.args.contents.now (ap is_absent c.in-File.is) (sym c.is_occupied.ensures ∙ c.if-is_occupied.false))

pub returns-in-Some : goal.returns-in-Some
returns-in-Some c =
    sym (ap (set_fault (replica_of c.args.children.now.entries) (c.args.name.now ∷ [])) c.in-Absent.is
    ∙ removal_fault c.args.children.now.entries c.args.name.now _ (sym c.in-Some.ensures.value) (sym c.is_occupied-in-Absent.ensures ∙ c.if-is_occupied-2.false))

pub returns-in-None : goal.returns-in-None
returns-in-None c =
    sym (ap (set_fault (replica_of c.args.children.now.entries) (c.args.name.now ∷ [])) c.in-Absent.is
    ∙ nothing_fault c.args.children.now.entries c.args.name.now (sym c.in-None.ensures.value))

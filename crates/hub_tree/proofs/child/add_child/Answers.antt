use Rattle.std.proofs.Common.{◌∷◌, [], refl, ap, ◌∙◌}
use Rattle.hub_tree.specs.Nodes.{replica_of}
use Rattle.hub_tree.specs.Tree.{set_fault}
use Rattle.hub_tree.proofs.Putting.{nothing_to_remove}
use Rattle.hub_tree.proofs.Setting.{is_refused}
use Rattle.hub_tree.proofs.child.add_child.Goals as goal

pub returns-in-Absent : goal.returns-in-Absent
returns-in-Absent c =
    is_refused (ap (set_fault (replica_of c.args.children.now.entries) (c.args.name.now ∷ [])) c.in-Absent.is
    ∙ nothing_to_remove c.args.children.now.entries c.args.name.now c.requires) refl

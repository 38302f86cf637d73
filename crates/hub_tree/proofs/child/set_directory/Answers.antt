use Rattle.std.proofs.Common.{refl, sym, ◌∙◌}
use Rattle.hub_tree.proofs.Setting.{directory_fault, directory_found, is_set}
use Rattle.hub_tree.proofs.child.set_directory.Goals as goal

pub returns-then-holds_directory : goal.returns-then-holds_directory
returns-then-holds_directory c =
    is_set (directory_fault c.args.children.now.entries c.args.name.now)
    (directory_found c.args.children.now.entries c.args.name.now _ refl (sym c.holds_directory.ensures ∙ c.if-holds_directory.true))

use Rattle.std.proofs.Common.{ap, ◌∙◌, subst, Some}
use Rattle.hub_path.specs.Path.{Name}
use Rattle.hub_tree.specs.declared.contents.Contents.TheVariants.{Directory}
use Rattle.hub_tree.specs.declared.node.Node.TheViews as node
use Rattle.hub_tree.proofs.LookUp.{contents-directory, kids-directory}
use Rattle.hub_tree.proofs.Setting.{Changes, changed_child, bare_file, bare_kids, directory_fault, is_set}
use Rattle.hub_tree.proofs.child.insert_directory.Goals as goal

pub returns : goal.returns
returns c =
    is_set (directory_fault c.args.children.now.entries c.args.name.now)
    (changed_child c.args.children.now.entries c.insert.new.self.entries c.args.name.now (Some (node.Directory c.in_ok-inner.inner)) Directory
    (subst (λ (n : Name). Changes c.args.children.now.entries c.insert.new.self.entries n (Some (node.Directory c.in_ok-inner.inner))) c.in_ok-copy.ensures c.in_ok-_old.ensures.updates.0)
    (bare_file _ c.requires) (bare_kids _ (kids-directory c.in_ok-inner.inner ∙ ap (λ m. m.entries) c.in_ok-inner.ensures.ok ∙ c.new.ensures.empty)) (ap Some (contents-directory c.in_ok-inner.inner)))

use Rattle.std.proofs.Common.{refl, ap, subst, Some}
use Rattle.hub_path.specs.Path.{Name}
use Rattle.hub_tree.specs.Nodes.{replica_of}
use Rattle.hub_tree.specs.declared.contents.Contents.TheVariants.{File}
use Rattle.hub_tree.specs.declared.node.Node.TheBlock as node
use Rattle.hub_tree.proofs.LookUp.{contents-file, kids-file}
use Rattle.hub_tree.proofs.Setting.{Changes, changed_child, bare_vacant, bare_kids, vacant_fault, is_set, out_of_memory}
use Rattle.hub_tree.proofs.child.insert_file.Goals as goal

pub returns-in_err-copy : goal.returns-in_err-copy
returns-in_err-copy c =
    out_of_memory c.from_residual.result (vacant_fault c.args.children.now.entries c.args.name.now (File c.args.blob) refl c.requires) refl c.from_residual.ensures.1

pub returns-in_err-_old : goal.returns-in_err-_old
returns-in_err-_old c =
    out_of_memory c.from_residual-in_err-_old.result (vacant_fault c.args.children.now.entries c.args.name.now (File c.args.blob) refl c.requires)
    (ap replica_of c.in_err-_old.ensures.err) c.from_residual-in_err-_old.ensures.1

pub returns : goal.returns
returns c =
    is_set (vacant_fault c.args.children.now.entries c.args.name.now (File c.args.blob) refl c.requires)
    (changed_child c.args.children.now.entries c.insert.new.self.entries c.args.name.now (Some (node.File c.args.blob)) (File c.args.blob)
    (subst (λ (n : Name). Changes c.args.children.now.entries c.insert.new.self.entries n (Some (node.File c.args.blob))) c.in_ok-copy.ensures c.in_ok-_old.ensures.updates.0)
    (bare_vacant _ c.requires) (bare_kids _ (kids-file c.args.blob)) (ap Some (contents-file c.args.blob)))

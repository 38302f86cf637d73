use Rattle.std.proofs.Common.{◌&&◌, drop, ap, sym, ◌∙◌}
use Rattle.std.specs.Option.{is_some}
use Rattle.std.specs.FinMap as fin
use Rattle.hub_tree.specs.Nodes.{replica_of}
use Rattle.hub_tree.proofs.Putting.{there_at_node}
use Rattle.hub_tree.proofs.node.leaves.Goals as goal

pub returns-then-only_new : goal.returns-then-only_new
returns-then-only_new c =
    let p = drop c.args.depth c.args.path.now in
    let m = replica_of c.args.children.now.entries in
    c.is_some.ensures ∙ sym (there_at_node c.args.children.now.entries p c.node_at.result c.node_at.ensures) ∙ ap (λ b. b && is_some (fin.get m p)) (sym c.if-only_new.true)

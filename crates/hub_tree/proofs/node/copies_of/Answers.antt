use Rattle.std.proofs.Common.{ap, ◌∙◌, ◌++◌}
use Rattle.hub_tree.proofs.Copies.{with_entries, copy_node_more}
use Rattle.hub_tree.proofs.node.copies_of.Goals as goal

pub loop-name-preserved : goal.loop-name-preserved
loop-name-preserved c =
    ap (λ es. with_entries es ++ with_entries c.next.new.self) c.in_ok-put.ensures
    ∙ copy_node_more c.loop-name.copies.entries c.loop-name.name-iterator c.next.new.self c.args.children.now.entries c.in-Some.name.now _ c.in-Some.node.now c.in_ok-copy.copy
    c.loop-name.invariant c.in-Some.ensures.steps c.in_ok-copy-2.ensures c.in_ok-copy.ensures c.iter-name-items.ensures.ordered

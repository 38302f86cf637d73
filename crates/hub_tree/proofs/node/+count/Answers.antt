use Rattle.std.proofs.Common.{sym, ap, ◌∙◌, min, ◌+◌}
use Rattle.std.specs.FinMap.{len}
use Rattle.hub_tree.specs.Nodes.{replica_of, kids_of}
use Rattle.hub_tree.proofs.LookUp.{kids-file}
use Rattle.hub_tree.proofs.Counts.{len-sizes, len-nothing, counted, counted_more}
use Rattle.hub_tree.proofs.node.+count.Goals as goal

pub count_at-returns-in-File : goal.count_at-returns-in-File
count_at-returns-in-File t c = sym (ap (λ n. min (n + 1) 18446744073709551615) (ap (λ ks. len (replica_of ks)) (ap kids_of c.in-File.is ∙ kids-file c.in-File.field-0) ∙ len-nothing))

pub count_of-returns : goal.count_of-returns
count_of-returns t c = counted c.loop-node.count _ _ c.loop-node.node-iterator c.in-None.ensures.steps.0 c.loop-node.invariant.0 (len-sizes c.args.children.now.entries c.values-node-items.ensures.ordered) c.loop-node.invariant.1

pub count_of-loop-node-preserved : goal.count_of-loop-node-preserved
count_of-loop-node-preserved t c =
    counted_more c.loop-node.count c.count_at.result c.saturating_add-count.result _ c.in-Some.node.now c.loop-node.node-iterator c.next.new.self c.saturating_add-count.ensures c.count_at.ensures c.in-Some.ensures.steps c.loop-node.invariant.0

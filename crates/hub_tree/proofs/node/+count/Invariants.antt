use Rattle.std.proofs.Common.{◌≡◌, ◌+◌, ◌≤◌, min}
use Rattle.std.specs.Prelude.{sum_by}
use Rattle.std.specs.BTreeMap.{values}
use Rattle.hub_tree.specs.Nodes.{size_of}
use Rattle.hub_tree.proofs.node.+count.Given as goal

abbrev pub invariant-count_of-loop-node : goal.invariant-count_of-loop-node
invariant-count_of-loop-node l =
    (min (l.count + sum_by size_of l.node-iterator) 18446744073709551615 ≡ min (sum_by size_of (values l.children)) 18446744073709551615) × (l.count ≤ 18446744073709551615)

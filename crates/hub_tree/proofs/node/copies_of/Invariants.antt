use Rattle.std.proofs.Common.{◌≡◌, ◌++◌}
use Rattle.hub_tree.proofs.Copies.{with_entries}
use Rattle.hub_tree.proofs.node.copies_of.Given as goal

abbrev pub invariant-loop-name : goal.invariant-loop-name
invariant-loop-name l = with_entries l.copies.entries ++ with_entries l.name-iterator ≡ with_entries l.children.entries

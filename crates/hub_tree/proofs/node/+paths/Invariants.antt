use Rattle.std.proofs.Common.{◌≡◌, ◌++◌}
use Rattle.hub_tree.proofs.Paths.{after, all_paths}
use Rattle.hub_tree.proofs.node.+paths.Given as goal

abbrev pub invariant-push_paths-loop-name : goal.invariant-push_paths-loop-name
invariant-push_paths-loop-name l =
    l.paths.items ++ after l.prefix (all_paths l.name-iterator) ≡ l.initial.paths.items ++ after l.prefix (all_paths l.children.entries)

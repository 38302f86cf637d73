use Rattle.std.proofs.Common.{◌≡◌, ◌++◌}
use Rattle.std.specs.BTreeMap.{keys}
use Rattle.hub_tree.proofs.archive.copies_of_paths.Given as goal

abbrev pub invariant-loop-path : goal.invariant-loop-path
invariant-loop-path l = l.paths.items ++ l.path-iterator ≡ keys l.marks

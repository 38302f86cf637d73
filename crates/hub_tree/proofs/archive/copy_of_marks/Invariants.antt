use Rattle.std.proofs.Common.{◌≡◌, ◌++◌}
use Rattle.hub_tree.proofs.archive.copy_of_marks.Given as goal

abbrev pub invariant-loop-path : goal.invariant-loop-path
invariant-loop-path l = l.copies.items ++ l.path-iterator ≡ l.marks.entries

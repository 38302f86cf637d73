use Rattle.std.proofs.Common.{◌≡◌, ◌++◌}
use Rattle.hub_folder.proofs.operands.push_paths.Given as goal

abbrev pub invariant-loop-path : goal.invariant-loop-path
invariant-loop-path l = l.paths.items ≡ l.fn.paths.items ++ l.yielded

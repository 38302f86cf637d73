use Rattle.std.proofs.Common.{◌≡◌, ◌++◌, map}
use Rattle.hub_folder.specs.Told.{named}
use Rattle.hub_folder.proofs.operands.push_all.Given as goal

abbrev pub invariant-loop-profile : goal.invariant-loop-profile
invariant-loop-profile l = l.all.items ≡ l.fn.all.items ++ map (named l.machine) l.yielded

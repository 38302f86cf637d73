use Rattle.std.proofs.Common.{◌≡◌, ◌++◌, take}
use Rattle.hub_archives.proofs.held.path_below.Given as goal

abbrev pub invariant-loop-number : goal.invariant-loop-number
invariant-loop-number l = take l.number l.folder ≡ l.root ++ l.path

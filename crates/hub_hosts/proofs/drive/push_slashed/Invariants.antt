use Rattle.std.proofs.Common.{◌≡◌, ◌++◌, length, map}
use Rattle.hub_hosts.specs.Drives.{slashed}
use Rattle.hub_hosts.proofs.drive.push_slashed.Given as goal

abbrev pub invariant-loop-first : goal.invariant-loop-first
invariant-loop-first l = l.fn.text.items ++ map slashed l.fn.path ≡ l.text.items ++ map slashed l.rest

abbrev pub decreases-loop-first : goal.decreases-loop-first
decreases-loop-first l = length l.rest

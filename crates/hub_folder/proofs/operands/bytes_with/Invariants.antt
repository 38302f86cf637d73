use Rattle.std.proofs.Common.{◌≡◌, ◌+◌, length}
use Rattle.hub_folder.specs.Told.{profile_bytes}
use Rattle.hub_folder.proofs.operands.bytes_with.Given as goal

abbrev pub invariant-loop-first : goal.invariant-loop-first
invariant-loop-first l = l.bytes + profile_bytes l.rest ≡ l.fn.taken + profile_bytes l.fn.own

abbrev pub decreases-loop-first : goal.decreases-loop-first
decreases-loop-first l = length l.rest

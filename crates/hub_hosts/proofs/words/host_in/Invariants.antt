use Rattle.std.proofs.Common.{◌≡◌, length}
use Rattle.hub_hosts.specs.Words as words
use Rattle.hub_hosts.proofs.words.host_in.Given as goal

abbrev pub invariant-loop-first : goal.invariant-loop-first
invariant-loop-first l = words.behind_at l.host l.rest ≡ words.host_in l.fn.name

abbrev pub decreases-loop-first : goal.decreases-loop-first
decreases-loop-first l = length l.rest

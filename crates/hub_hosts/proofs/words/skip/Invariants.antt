use Rattle.std.proofs.Common.{◌≡◌, length}
use Rattle.hub_hosts.specs.Words as words
use Rattle.hub_hosts.proofs.words.skip.Given as goal

abbrev pub invariant-loop-first : goal.invariant-loop-first
invariant-loop-first l = words.skip l.these l.rest ≡ words.skip l.these l.fn.text

abbrev pub decreases-loop-first : goal.decreases-loop-first
decreases-loop-first l = length l.rest

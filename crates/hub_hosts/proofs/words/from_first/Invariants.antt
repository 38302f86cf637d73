use Rattle.std.proofs.Common.{◌≡◌, length}
use Rattle.hub_hosts.specs.Words as words
use Rattle.hub_hosts.proofs.words.from_first.Given as goal

abbrev pub invariant-loop-first : goal.invariant-loop-first
invariant-loop-first l = words.from_first l.these l.rest ≡ words.from_first l.these l.fn.text

abbrev pub decreases-loop-first : goal.decreases-loop-first
decreases-loop-first l = length l.rest

use Rattle.std.proofs.Common.{◌≡◌, length}
use Rattle.hub_hosts.specs.Words as words
use Rattle.hub_hosts.proofs.words.skip_end.Given as goal

abbrev pub invariant-loop-last : goal.invariant-loop-last
invariant-loop-last l = words.skip_end l.these l.rest ≡ words.skip_end l.these l.fn.text

abbrev pub decreases-loop-last : goal.decreases-loop-last
decreases-loop-last l = length l.rest

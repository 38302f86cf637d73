use Rattle.std.proofs.Common.{◌≡◌, length}
use Rattle.hub_include.specs.Words as words
use Rattle.hub_include.proofs.word.without_blanks.Given as goal

abbrev pub invariant-loop-rest : goal.invariant-loop-rest
invariant-loop-rest l = words.without_blanks l.rest ≡ words.without_blanks l.fn.names

abbrev pub decreases-loop-rest : goal.decreases-loop-rest
decreases-loop-rest l = length l.rest

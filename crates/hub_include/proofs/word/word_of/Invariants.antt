use Rattle.std.proofs.Common.{◌≡◌, false, length}
use Rattle.hub_include.specs.Words.{word_from}
use Rattle.hub_include.proofs.Words.{prepend}
use Rattle.hub_include.proofs.word.word_of.Given as goal

abbrev pub invariant-loop-first : goal.invariant-loop-first
invariant-loop-first l = prepend l.word.items (word_from l.is_taken l.rest) ≡ word_from false l.fn.text

abbrev pub decreases-loop-first : goal.decreases-loop-first
decreases-loop-first l = length l.rest

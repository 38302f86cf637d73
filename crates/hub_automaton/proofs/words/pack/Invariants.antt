use Rattle.std.proofs.Common.{◌≡◌, ◌++◌, length}
use Rattle.hub_automaton.specs.Words as words
use Rattle.hub_automaton.proofs.words.pack.Given as goal

abbrev pub decreases-loop-rest : goal.decreases-loop-rest
decreases-loop-rest l = length l.rest

abbrev pub invariant-loop-rest : goal.invariant-loop-rest
invariant-loop-rest l = l.packed.items ++ words.packed l.rest ≡ words.packed l.bits

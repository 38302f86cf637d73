use Rattle.std.proofs.Common.{◌≡◌, ◌-◌, drop, length}
use Rattle.hub_automaton.specs.Words as words
use Rattle.hub_automaton.proofs.words.word.Given as goal

abbrev pub invariant-loop-i : goal.invariant-loop-i
invariant-loop-i l = l.word ≡ words.word (drop (length l.bits - l.i) l.bits)

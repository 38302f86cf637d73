use Rattle.hub_automaton.proofs.ClassSets.{Joined}
use Rattle.hub_automaton.proofs.class_set.ClassSet.join.Given as goal

abbrev pub invariant-loop-i : goal.invariant-loop-i
invariant-loop-i l = Joined l.initial.self-inside.words.items l.other-inside.words.items l.self-inside.words.items l.i

use Rattle.std.proofs.Common.{◌*◌}
use Rattle.hub_automaton.specs.ClassSets.{HasNone}
use Rattle.hub_automaton.proofs.class_set.ClassSet.next_in_words.Given as goal

abbrev pub invariant-loop-i : goal.invariant-loop-i
invariant-loop-i l = HasNone l.self-inside.words.items (64 * l.first) (64 * l.i)

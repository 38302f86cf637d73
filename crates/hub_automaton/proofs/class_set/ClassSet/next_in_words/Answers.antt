use Rattle.std.proofs.Common.{arith}
use Rattle.hub_automaton.proofs.class_set.ClassSet.next_in_words.Goals as goal

pub overflow_mul-i : goal.overflow_mul-i
overflow_mul-i c = omega (arith, c.self.invariant)

pub overflow_add-i : goal.overflow_add-i
overflow_add-i c = omega (arith, c.self.invariant, c.lowest.ensures.within)

use Rattle.std.proofs.Common.{arith}
use Rattle.hub_automaton.proofs.ClassSets.{next-none, next-past, next-there}
use Rattle.hub_automaton.proofs.class_set.ClassSet.next_below.Goals as goal

pub returns-in_default : goal.returns-in_default
returns-in_default c = next-none c.args.self.now c.args.from c.new.result c.args.classes c.next_from.result c.new.ensures c.next_from.ensures c.requires c.in_default.is

pub returns-then-number-classes : goal.returns-then-number-classes
returns-then-number-classes c = next-past c.args.self.now c.args.from c.new.result c.args.classes c.next_from.result c.new.ensures c.next_from.ensures c.in-Some.class c.number-number.result c.in-Some.is c.number-number.ensures (omega arith)

pub returns : goal.returns
returns c = next-there c.args.self.now c.args.from c.new.result c.args.classes c.next_from.result c.new.ensures c.next_from.ensures c.in-Some.class c.number-number.result c.in-Some.is c.number-number.ensures (omega arith)

use Rattle.hub_runner.specs.forms.Ordered.{AreTreesOf}
use Rattle.hub_runner.proofs.by_number.trees_of.Given as goal

abbrev pub invariant-loop-book : goal.invariant-loop-book
invariant-loop-book l = AreTreesOf l.profiles l.yielded l.trees.items

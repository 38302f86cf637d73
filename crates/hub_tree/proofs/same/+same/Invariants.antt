use Rattle.hub_tree.proofs.Comparing.{IsSoFar}
use Rattle.hub_tree.proofs.same.+same.Given as goal

abbrev pub invariant-are_same-loop-name : goal.invariant-are_same-loop-name
invariant-are_same-loop-name l = IsSoFar l.children.entries l.others.entries l.name-iterator l.rest

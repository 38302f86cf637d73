use Rattle.hub_tree.proofs.Matching.{IsSoFar}
use Rattle.hub_tree.proofs.archive.have_same_marks.Given as goal

abbrev pub invariant-loop-path : goal.invariant-loop-path
invariant-loop-path l = IsSoFar l.marks.entries l.others.entries l.path-iterator l.rest

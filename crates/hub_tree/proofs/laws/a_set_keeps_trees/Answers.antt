use Rattle.hub_tree.specs.laws.Contented.{IsTree-after, contents_by_eq-after}
use Rattle.hub_tree.proofs.laws.a_set_keeps_trees.Goals as goal

pub returns-clause-tree : goal.returns-clause-tree
returns-clause-tree c = IsTree-after

pub returns-clause-contents : goal.returns-clause-contents
returns-clause-contents c = contents_by_eq-after

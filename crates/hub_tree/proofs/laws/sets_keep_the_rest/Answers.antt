use Rattle.hub_tree.specs.laws.Replacing.{sets_keep_trees, sets_keep_the_rest, sets_begin}
use Rattle.hub_tree.proofs.laws.sets_keep_the_rest.Goals as goal

pub returns-clause-trees : goal.returns-clause-trees
returns-clause-trees c = sets_keep_trees

pub returns-clause-rest : goal.returns-clause-rest
returns-clause-rest c = sets_keep_the_rest

pub returns-clause-first : goal.returns-clause-first
returns-clause-first c = sets_begin

use Rattle.hub_tree.specs.laws.Contented.{same_tree}
use Rattle.hub_tree.proofs.laws.trees_are_their_contents.Goals as goal

pub returns : goal.returns
returns c = same_tree

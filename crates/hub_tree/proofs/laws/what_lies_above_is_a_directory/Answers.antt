use Rattle.hub_tree.specs.laws.Beneath.{above_directory}
use Rattle.hub_tree.proofs.laws.what_lies_above_is_a_directory.Goals as goal

pub returns : goal.returns
returns c = above_directory

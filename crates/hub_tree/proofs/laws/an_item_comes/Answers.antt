use Rattle.hub_tree.specs.laws.Replacing.{item_comes}
use Rattle.hub_tree.proofs.laws.an_item_comes.Goals as goal

pub returns : goal.returns
returns c = item_comes

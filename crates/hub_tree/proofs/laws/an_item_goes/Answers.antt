use Rattle.hub_tree.specs.laws.Replacing.{item_goes}
use Rattle.hub_tree.proofs.laws.an_item_goes.Goals as goal

pub returns : goal.returns
returns c = item_goes

use Rattle.hub_tree.specs.laws.Runs.{all_down}
use Rattle.hub_tree.proofs.laws.sets_down.Goals as goal

pub returns : goal.returns
returns c = all_down

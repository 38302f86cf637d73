use Rattle.hub_tree.specs.laws.Runs.{all_up}
use Rattle.hub_tree.proofs.laws.sets_up.Goals as goal

pub returns : goal.returns
returns c = all_up

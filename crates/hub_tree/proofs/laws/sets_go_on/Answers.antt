use Rattle.hub_tree.specs.laws.Runs.{sets-append}
use Rattle.hub_tree.proofs.laws.sets_go_on.Goals as goal

pub returns : goal.returns
returns c = sets-append

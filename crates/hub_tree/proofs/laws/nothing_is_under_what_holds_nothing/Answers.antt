use Rattle.hub_tree.specs.laws.Between.{nothing_under}
use Rattle.hub_tree.proofs.laws.nothing_is_under_what_holds_nothing.Goals as goal

pub returns : goal.returns
returns c = nothing_under

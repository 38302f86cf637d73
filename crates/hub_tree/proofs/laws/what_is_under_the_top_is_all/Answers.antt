use Rattle.hub_tree.proofs.Listing.{under_top}
use Rattle.hub_tree.proofs.laws.what_is_under_the_top_is_all.Goals as goal

pub returns : goal.returns
returns c = under_top

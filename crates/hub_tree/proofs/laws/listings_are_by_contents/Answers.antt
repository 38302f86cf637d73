use Rattle.hub_tree.proofs.Listing.{children_members, children_alike}
use Rattle.hub_tree.proofs.laws.listings_are_by_contents.Goals as goal

pub returns-clause-members : goal.returns-clause-members
returns-clause-members c = children_members

pub returns-clause-alike : goal.returns-clause-alike
returns-clause-alike c = children_alike

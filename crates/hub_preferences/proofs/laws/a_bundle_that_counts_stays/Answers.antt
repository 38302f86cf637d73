use Rattle.hub_preferences.proofs.Same.{counted_bundle-none}
use Rattle.hub_preferences.proofs.laws.a_bundle_that_counts_stays.Goals as goal

pub returns : goal.returns
returns c = counted_bundle-none

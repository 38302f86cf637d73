use Rattle.hub_preferences.proofs.Again.{counted_bundle-again}
use Rattle.hub_preferences.proofs.laws.what_counts_counts_again.Goals as goal

pub returns : goal.returns
returns c = counted_bundle-again

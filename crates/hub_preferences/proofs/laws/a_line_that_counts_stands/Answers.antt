use Rattle.hub_preferences.proofs.Same.{stands}
use Rattle.hub_preferences.proofs.laws.a_line_that_counts_stands.Goals as goal

pub returns : goal.returns
returns c = stands

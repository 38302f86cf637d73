use Rattle.hub_parts.proofs.AnyRoots.{keeps-anywhere}
use Rattle.hub_parts.proofs.laws.readings_keep_rules_at_any_roots.Goals as goal

pub returns : goal.returns
returns c = keeps-anywhere

use Rattle.hub_parts.proofs.ListedParts.{enough, needed}
use Rattle.hub_parts.proofs.Unison.{safe-anywhere}
use Rattle.hub_parts.proofs.laws.listed_pairs_are_enough_at_any_roots.Goals as goal

pub returns-clause-safe : goal.returns-clause-safe
returns-clause-safe c = enough

pub returns-clause-needed : goal.returns-clause-needed
returns-clause-needed c = needed

pub returns-clause-unison : goal.returns-clause-unison
returns-clause-unison c = safe-anywhere

use Rattle.hub_folded.proofs.Safe.{keeps-as-seen, safe-as-one, safe-at-roots}
use Rattle.hub_folded.proofs.laws.what_is_safe_folded_is_safe_as_seen.Goals as goal

pub returns-clause-one : goal.returns-clause-one
returns-clause-one c = safe-as-one

pub returns-clause-seen : goal.returns-clause-seen
returns-clause-seen c = keeps-as-seen

pub returns-clause-roots : goal.returns-clause-roots
returns-clause-roots c = safe-at-roots

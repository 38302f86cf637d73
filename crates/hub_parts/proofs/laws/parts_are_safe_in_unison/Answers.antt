use Rattle.hub_parts.proofs.Unison.{parts-keep, parts-safe}
use Rattle.hub_parts.proofs.laws.parts_are_safe_in_unison.Goals as goal

pub returns-clause-safe : goal.returns-clause-safe
returns-clause-safe c = parts-safe

pub returns-clause-kept : goal.returns-clause-kept
returns-clause-kept c = parts-keep

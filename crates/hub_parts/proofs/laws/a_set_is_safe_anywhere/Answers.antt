use Rattle.hub_parts.proofs.Apart.{from-anywhere, to-anywhere}
use Rattle.hub_parts.proofs.Unison.{set-keeps, set-safe}
use Rattle.hub_parts.proofs.laws.a_set_is_safe_anywhere.Goals as goal

pub returns-clause-safe : goal.returns-clause-safe
returns-clause-safe c = λ Ps Rs. (to-anywhere Ps Rs, from-anywhere Ps Rs)

pub returns-clause-unison : goal.returns-clause-unison
returns-clause-unison c = set-safe

pub returns-clause-kept : goal.returns-clause-kept
returns-clause-kept c = set-keeps

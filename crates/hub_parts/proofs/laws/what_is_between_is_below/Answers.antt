use Rattle.hub_parts.proofs.Order.{between}
use Rattle.hub_parts.proofs.laws.what_is_between_is_below.Goals as goal

pub returns : goal.returns
returns c = between

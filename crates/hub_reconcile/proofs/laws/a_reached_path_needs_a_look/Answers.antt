use Rattle.hub_reconcile.specs.laws.Needed.{needs_look}
use Rattle.hub_reconcile.proofs.laws.a_reached_path_needs_a_look.Goals as goal

pub returns : goal.returns
returns c = needs_look

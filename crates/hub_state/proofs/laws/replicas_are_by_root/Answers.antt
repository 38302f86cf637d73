use Rattle.hub_state.specs.laws.RootTexts.{replica_put}
use Rattle.hub_state.proofs.laws.replicas_are_by_root.Goals as goal

pub returns : goal.returns
returns c = replica_put

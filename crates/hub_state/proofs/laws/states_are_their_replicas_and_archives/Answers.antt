use Rattle.hub_state.proofs.ByRoot.{same_states}
use Rattle.hub_state.proofs.laws.states_are_their_replicas_and_archives.Goals as goal

pub returns : goal.returns
returns c = same_states

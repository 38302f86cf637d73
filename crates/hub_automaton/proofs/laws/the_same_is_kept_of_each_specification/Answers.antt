use Rattle.hub_automaton.proofs.SpecStates.{same_progress}
use Rattle.hub_automaton.proofs.laws.the_same_is_kept_of_each_specification.Goals as goal

pub returns : goal.returns
returns c = same_progress

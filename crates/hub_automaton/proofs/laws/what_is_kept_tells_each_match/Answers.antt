use Rattle.hub_automaton.proofs.SpecStates.{same_matches}
use Rattle.hub_automaton.proofs.laws.what_is_kept_tells_each_match.Goals as goal

pub returns : goal.returns
returns c = same_matches

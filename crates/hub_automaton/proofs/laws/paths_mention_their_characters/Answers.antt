use Rattle.hub_automaton.proofs.Paths.{path_covered}
use Rattle.hub_automaton.proofs.laws.paths_mention_their_characters.Goals as goal

pub returns : goal.returns
returns c = path_covered

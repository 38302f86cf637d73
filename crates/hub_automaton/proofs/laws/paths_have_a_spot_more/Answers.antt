use Rattle.hub_automaton.proofs.Paths.{path_spots}
use Rattle.hub_automaton.proofs.laws.paths_have_a_spot_more.Goals as goal

pub returns : goal.returns
returns c = path_spots

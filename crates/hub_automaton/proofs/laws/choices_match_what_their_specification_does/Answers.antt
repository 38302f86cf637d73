use Rattle.hub_automaton.proofs.Spotted.{spec_law}
use Rattle.hub_automaton.proofs.laws.choices_match_what_their_specification_does.Goals as goal

pub returns : goal.returns
returns c = spec_law

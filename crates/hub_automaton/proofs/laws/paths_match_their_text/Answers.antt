use Rattle.hub_automaton.proofs.Paths.{path_law, text_law}
use Rattle.hub_automaton.proofs.laws.paths_match_their_text.Goals as goal

pub returns-clause-text : goal.returns-clause-text
returns-clause-text c = text_law

pub returns-clause-path : goal.returns-clause-path
returns-clause-path c = path_law

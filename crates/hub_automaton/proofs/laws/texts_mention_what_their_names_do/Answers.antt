use Rattle.hub_automaton.proofs.Paths.{text_mentioned}
use Rattle.hub_automaton.proofs.laws.texts_mention_what_their_names_do.Goals as goal

pub returns : goal.returns
returns c = text_mentioned

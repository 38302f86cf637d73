use Rattle.hub_automaton.proofs.Classes.{exactly_added}
use Rattle.hub_automaton.proofs.laws.nothing_else_is_mentioned.Goals as goal

pub returns : goal.returns
returns c = exactly_added

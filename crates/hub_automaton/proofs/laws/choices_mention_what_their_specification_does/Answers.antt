use Rattle.hub_automaton.proofs.Covered.{all_covered}
use Rattle.hub_automaton.proofs.laws.choices_mention_what_their_specification_does.Goals as goal

pub returns : goal.returns
returns c = all_covered

use Rattle.hub_automaton.proofs.Alphabets.{sample_class}
use Rattle.hub_automaton.proofs.laws.samples_are_of_their_class.Goals as goal

pub returns : goal.returns
returns c = sample_class

use Rattle.hub_automaton.proofs.Classes.{class_low}
use Rattle.hub_automaton.proofs.laws.classes_are_below_their_count.Goals as goal

pub returns : goal.returns
returns c = class_low

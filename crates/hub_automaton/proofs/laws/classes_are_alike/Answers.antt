use Rattle.hub_automaton.proofs.Spotted.{told_by_class}
use Rattle.hub_automaton.proofs.laws.classes_are_alike.Goals as goal

pub returns : goal.returns
returns c = told_by_class

use Rattle.hub_automaton.proofs.Classes.{class_some, class_allowed}
use Rattle.hub_automaton.proofs.laws.all_characters_of_paths_have_classes.Goals as goal

pub returns-clause-some : goal.returns-clause-some
returns-clause-some c = class_some

pub returns-clause-none : goal.returns-clause-none
returns-clause-none c = class_allowed

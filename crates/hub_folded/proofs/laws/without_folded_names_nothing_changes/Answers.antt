use Rattle.hub_folded.proofs.Plain.{plain-rules, plain-set}
use Rattle.hub_folded.proofs.laws.without_folded_names_nothing_changes.Goals as goal

pub returns-clause-lines : goal.returns-clause-lines
returns-clause-lines c = plain-set

pub returns-clause-rules : goal.returns-clause-rules
returns-clause-rules c = plain-rules

use Rattle.hub_folded.proofs.Textual.{latin-textual, unicode-textual}
use Rattle.hub_folded.proofs.laws.both_modes_fold_texts.Goals as goal

pub returns-clause-by_table : goal.returns-clause-by_table
returns-clause-by_table c = unicode-textual

pub returns-clause-by_ascii : goal.returns-clause-by_ascii
returns-clause-by_ascii c = latin-textual

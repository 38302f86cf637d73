use Rattle.hub_folded.proofs.Anywhere.{holds-folded, holds-plain}
use Rattle.hub_folded.proofs.laws.what_holds_of_folded_lines_holds_up_to_folding.Goals as goal

pub returns-clause-folded : goal.returns-clause-folded
returns-clause-folded c = holds-folded

pub returns-clause-plain : goal.returns-clause-plain
returns-clause-plain c = holds-plain

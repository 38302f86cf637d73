use Rattle.hub_folded.proofs.Textual.{member-kept, member-within, roots-same}
use Rattle.hub_folded.proofs.laws.folded_lines_are_lines_of_a_profile.Goals as goal

pub returns-clause-kept : goal.returns-clause-kept
returns-clause-kept c = member-kept

pub returns-clause-roots : goal.returns-clause-roots
returns-clause-roots c = roots-same

pub returns-clause-within : goal.returns-clause-within
returns-clause-within c = member-within

use Rattle.hub_automaton.proofs.Alphabets.{mentions_added, mentions_kept}
use Rattle.hub_automaton.proofs.laws.what_is_added_is_mentioned.Goals as goal

pub returns-clause-added : goal.returns-clause-added
returns-clause-added c = mentions_added

pub returns-clause-kept : goal.returns-clause-kept
returns-clause-kept c = mentions_kept

use Rattle.hub_automaton.proofs.Classes.{mentioned_in_paths, sample_in_paths}
use Rattle.hub_automaton.proofs.laws.samples_may_stand_in_paths.Goals as goal

pub returns-clause-mentioned : goal.returns-clause-mentioned
returns-clause-mentioned c = mentioned_in_paths

pub returns-clause-sample : goal.returns-clause-sample
returns-clause-sample c = sample_in_paths

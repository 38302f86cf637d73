use Rattle.hub_preferences.specs.laws.Counted.{lines_of-counted_bundle, length-lines_of-counted_bundle}
use Rattle.hub_preferences.proofs.laws.lines_keep_their_numbers.Goals as goal

pub returns-clause-lines : goal.returns-clause-lines
returns-clause-lines c = lines_of-counted_bundle

pub returns-clause-count : goal.returns-clause-count
returns-clause-count c = length-lines_of-counted_bundle

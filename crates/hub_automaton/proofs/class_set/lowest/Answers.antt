use Rattle.hub_automaton.proofs.ClassSets.{lowest_law}
use Rattle.hub_automaton.proofs.class_set.lowest.Goals as goal

pub returns : goal.returns
returns c = lowest_law c.args.word c.requires c.ranges.word.fits

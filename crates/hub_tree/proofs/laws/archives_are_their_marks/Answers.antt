use Rattle.hub_tree.specs.laws.Contented.{same_archive}
use Rattle.hub_tree.proofs.laws.archives_are_their_marks.Goals as goal

pub returns : goal.returns
returns c = same_archive

use Rattle.hub_tree.specs.laws.MarkMaps.{IsArchive-after, old_mark-after}
use Rattle.hub_tree.proofs.laws.a_set_keeps_archives.Goals as goal

pub returns-clause-archive : goal.returns-clause-archive
returns-clause-archive c = IsArchive-after

pub returns-clause-marks : goal.returns-clause-marks
returns-clause-marks c = old_mark-after

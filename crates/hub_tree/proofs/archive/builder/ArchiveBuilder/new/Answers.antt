use Rattle.hub_tree.specs.laws.MarkMaps.{IsArchive-empty}
use Rattle.hub_tree.proofs.archive.builder.ArchiveBuilder.new.Goals as goal

pub invariant_of-result : goal.invariant_of-result
invariant_of-result c = rw c.new.ensures.items IsArchive-empty

use Rattle.std.proofs.Common.{map, take}
use Rattle.std.specs.List.{All}
use Rattle.hubsync.specs.Bundled.{HasFolderAmong, disk_of}
use Rattle.hubsync.specs.Named.{label_held}
use Rattle.hubsync.proofs.folders.folders_of.Given as goal

abbrev pub invariant-loop-one : goal.invariant-loop-one
invariant-loop-one g l =
    All (HasFolderAmong (disk_of g.F.FileReader.reads g.F.FileReader.lists g.F.FileReader.folders l.reader) l.folders.items)
    (map label_held (take l.one-index l.held))

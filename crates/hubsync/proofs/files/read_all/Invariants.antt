use Rattle.std.proofs.Common.{◌≡◌, ◌++◌, drop, map}
use Rattle.std.specs.List.{All}
use Rattle.hubsync.specs.Bundled.{HasContents}
use Rattle.hubsync.specs.Named.{bytes_held, label_held, label_named}
use Rattle.hubsync.proofs.files.read_all.Given as goal

abbrev pub invariant-loop-name : goal.invariant-loop-name
invariant-loop-name g l =
    (map label_held l.held.items ++ map label_named (drop l.name-index l.named) ≡ map label_named l.named)
    × All (λ h. HasContents (g.F.FileReader.reads l.fn.reader) (bytes_held h)) l.held.items

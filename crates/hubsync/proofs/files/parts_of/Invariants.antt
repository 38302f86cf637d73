use Rattle.std.proofs.Common.{◌≡◌, ◌++◌, drop, map}
use Rattle.hubsync.specs.Bundled.{bytes_of, label_of}
use Rattle.hubsync.specs.Named.{bytes_held, label_held}
use Rattle.hubsync.proofs.files.parts_of.Given as goal

abbrev pub invariant-loop-one : goal.invariant-loop-one
invariant-loop-one l =
    (map label_of l.parts.items ++ map label_held (drop l.one-index l.held) ≡ map label_held l.held)
    × (map bytes_of l.parts.items ++ map bytes_held (drop l.one-index l.held) ≡ map bytes_held l.held)

use Rattle.std.proofs.Common.{◌≡◌, ◌++◌, map}
use Rattle.hubsync.specs.Named.{bytes_for, bytes_held, label_held, table_in}
use Rattle.hubsync.proofs.files.push_others.Given as goal

abbrev pub invariant-loop-other : goal.invariant-loop-other
invariant-loop-other l =
    (map label_held l.held.items ≡ map label_held l.fn.held.items ++ map label_held l.yielded)
    × (map bytes_held l.held.items
    ≡ map bytes_held l.fn.held.items ++ map (bytes_for (table_in l.fn.hosts)) l.yielded)

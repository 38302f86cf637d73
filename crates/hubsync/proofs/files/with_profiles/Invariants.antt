use Rattle.std.proofs.Common.{◌≡◌, map}
use Rattle.hub_folder.specs.Told.{owned_of}
use Rattle.hubsync.specs.Bundled.{for_hosts, profile_label}
use Rattle.hubsync.specs.Named.{bytes_held, label_held, table_in}
use Rattle.hubsync.proofs.files.with_profiles.Given as goal

abbrev pub invariant-loop-profile : goal.invariant-loop-profile
invariant-loop-profile l =
    (map label_held l.held.items ≡ map profile_label (map owned_of l.yielded))
    × (map bytes_held l.held.items ≡ map (for_hosts (table_in l.fn.hosts)) (map owned_of l.yielded))

use Rattle.std.proofs.Common.{◌≡◌, ◌++◌, map, drop}
use Rattle.hub_unison.specs.Keys.{key_of, pairs_of_keys}
use Rattle.hub_unison.proofs.shared.shared_archives.Given as goal

abbrev pub invariant-loop-at : goal.invariant-loop-at
invariant-loop-at l =
    l.pairs.items ++ pairs_of_keys l.at (drop l.at (map key_of l.profiles)) ≡ pairs_of_keys 0 (map key_of l.profiles)

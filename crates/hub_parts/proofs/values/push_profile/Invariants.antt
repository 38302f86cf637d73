use Rattle.std.proofs.Common.{◌≡◌, ◌++◌, take, flat_map}
use Rattle.hub_parts.specs.Values.{values_at}
use Rattle.hub_parts.proofs.values.push_profile.Given as goal

abbrev pub invariant-loop-root : goal.invariant-loop-root
invariant-loop-root l = l.values.items ≡ l.initial.values.items ++ flat_map (λ r. values_at l.number r l.profile.paths) (take l.root-index l.profile.roots)

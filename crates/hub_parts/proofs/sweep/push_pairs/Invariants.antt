use Rattle.std.proofs.Common.{◌≡◌, ◌++◌, map, take}
use Rattle.hub_parts.specs.declared.kept_value.KeptValue.{KeptValue}
use Rattle.hub_parts.proofs.sweep.push_pairs.Given as goal

abbrev pub invariant-loop-one : goal.invariant-loop-one
invariant-loop-one l = l.pairs.items ≡ l.initial.pairs.items ++ map (λ (k : KeptValue). (k.profile, l.profile)) (take l.one-index l.above)

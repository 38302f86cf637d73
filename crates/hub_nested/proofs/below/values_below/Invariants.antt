use Rattle.std.proofs.Common.{◌≡◌, take}
use Rattle.std.specs.List.{filter}
use Rattle.hub_path.specs.Path.{is_over}
use Rattle.hub_nested.proofs.below.values_below.Given as goal

abbrev pub invariant-loop-value : goal.invariant-loop-value
invariant-loop-value l = l.lower ≡ filter (λ v. is_over l.path v) (take l.value-index l.values)

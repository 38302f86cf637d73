use Rattle.std.proofs.Common.{◌≡◌, map}
use Rattle.hub_apart.specs.UnisonLines.{wide}
use Rattle.hub_apart.proofs.beside.beside_rules.Given as goal

abbrev pub invariant-loop-reading : goal.invariant-loop-reading
invariant-loop-reading l = l.all.items ≡ map wide l.yielded

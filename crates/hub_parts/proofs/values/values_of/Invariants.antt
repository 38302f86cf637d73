use Rattle.std.proofs.Common.{◌≡◌, ◌++◌, drop}
use Rattle.hub_parts.specs.Values.{values, values_from}
use Rattle.hub_parts.proofs.values.values_of.Given as goal

abbrev pub invariant-loop-i : goal.invariant-loop-i
invariant-loop-i l = l.values.items ++ values_from l.i (drop l.i l.profiles) ≡ values l.profiles

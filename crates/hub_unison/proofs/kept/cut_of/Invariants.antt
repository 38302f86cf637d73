use Rattle.std.proofs.Common.{◌≡◌, take}
use Rattle.hub_unison.specs.Kept.{cut_from}
use Rattle.hub_unison.proofs.kept.cut_of.Given as goal

abbrev pub invariant-loop-i : goal.invariant-loop-i
invariant-loop-i l = l.numbers.items ≡ cut_from 0 (take l.i l.all)

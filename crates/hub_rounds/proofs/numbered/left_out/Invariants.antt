use Rattle.std.proofs.Common.{◌≡◌, ◌++◌, drop}
use Rattle.hub_rounds.specs.Numbered.{left_from}
use Rattle.hub_rounds.proofs.numbered.left_out.Given as goal

abbrev pub invariant-loop-number : goal.invariant-loop-number
invariant-loop-number l = l.left ++ left_from l.number (drop l.number l.placings) ≡ left_from 0 l.placings

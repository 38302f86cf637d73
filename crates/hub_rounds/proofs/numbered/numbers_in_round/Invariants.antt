use Rattle.std.proofs.Common.{◌≡◌, ◌++◌, drop}
use Rattle.hub_rounds.specs.Numbered.{numbers_from}
use Rattle.hub_rounds.proofs.numbered.numbers_in_round.Given as goal

abbrev pub invariant-loop-number : goal.invariant-loop-number
invariant-loop-number l = l.numbers ++ numbers_from l.number l.round (drop l.number l.placings) ≡ numbers_from 0 l.round l.placings

use Rattle.std.proofs.Common.{◌≡◌, map}
use Rattle.std.specs.List.{range_with_len}
use Rattle.hub_rounds.specs.Numbered.{numbers_in_round}
use Rattle.hub_rounds.proofs.numbered.numbered.Given as goal

abbrev pub invariant-loop-round : goal.invariant-loop-round
invariant-loop-round l = l.rounds ≡ map (λ k. numbers_in_round k l.placings) (range_with_len 0 l.round)

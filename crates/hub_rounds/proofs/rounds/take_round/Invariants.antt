use Rattle.std.proofs.Common.{◌≡◌, not, filter}
use Rattle.hub_rounds.specs.Rounds.{is_in_round, profiles_in_round}
use Rattle.hub_rounds.proofs.rounds.take_round.Given as goal

abbrev pub invariant-loop-one : goal.invariant-loop-one
invariant-loop-one l = record {
  own : l.own ≡ profiles_in_round l.round l.yielded;
  others : l.others.items ≡ filter (λ p. not (is_in_round l.round p.placing)) l.yielded;
}

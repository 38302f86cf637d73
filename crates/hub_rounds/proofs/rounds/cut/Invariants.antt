use Rattle.std.proofs.Common.{◌≡◌, ◌<◌, ℕ, filter, map}
use Rattle.std.specs.List.{range_with_len}
use Rattle.hub_cert.specs.Set.{IsSafeSet}
use Rattle.hub_rounds.specs.Rounds.{is_outside, profiles_in_round}
use Rattle.hub_rounds.proofs.rounds.cut.Given as goal

abbrev pub invariant-loop-round : goal.invariant-loop-round
invariant-loop-round l = record {
  rest : l.rest.items ≡ filter (λ p. is_outside l.round p.placing) l.fn.placed.items;
  rules : l.rules ≡ l.fn.rules;
  rounds : l.rounds.items ≡ map (λ k. profiles_in_round k l.fn.placed.items) (range_with_len 0 l.round);
  safe : (k : ℕ) → k < l.round → IsSafeSet (record { profiles = profiles_in_round k l.fn.placed.items; rules = l.fn.rules });
}

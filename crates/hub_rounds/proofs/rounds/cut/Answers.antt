use Rattle.std.proofs.Common.{◌≡◌, ◌∙◌, ◌++◌, ◌∷◌, [], ⊎_elim, ℕ, not, List, filter, map, refl, sym, ap, ap₂, subst, arith}
use Rattle.std.specs.List.{range_with_len}
use Rattle.std.proofs.lemmas.List.FromFn.{map-range_with_len_more}
use Rattle.hub_text.specs.laws.Fails.{passed-up}
use Rattle.hub_text.specs.laws.List.{less-or-same}
use Rattle.hub_profile.specs.Parts.{Parts}
use Rattle.hub_profile.specs.declared.rule.Rule.{Rule}
use Rattle.hub_cert.specs.Set.{IsSafeSet}
use Rattle.hub_rounds.specs.Rounds.{is_in_round, is_outside, profiles_in_round}
use Rattle.hub_rounds.specs.Unverified.{IsFaultBelow}
use Rattle.hub_rounds.specs.declared.placing.Placed.{Placed}
use Rattle.hub_rounds.proofs.Cutting.{all-outside, members-outside, others-outside}
use Rattle.hub_rounds.proofs.Unverified.{fault-below}
use Rattle.hub_rounds.proofs.rounds.cut.Goals as goal

pub loop-round-init : goal.loop-round-init
loop-round-init c = record {
  rest = all-outside c.args.placed.items;
  rules = refl;
  rounds = c.in_ok-rounds.ensures.items;
  safe = λ k l. absurd (omega (arith, l));
}

pub loop-round-preserved : goal.loop-round-preserved
loop-round-preserved c =
    let ps = c.args.placed.items in
    let j = c.loop-round.round in
    let i = c.loop-round.invariant in
    let own = c.in_ok-own.ensures.own ∙ (ap (λ (xs : List Placed). profiles_in_round j xs) i.rest ∙ members-outside j ps) in
    let safe = c.in_ok-own-2.ensures.safe in
    record {
      rest = c.in_ok-own.ensures.others ∙ (ap (λ (xs : List Placed). filter (λ p. not (is_in_round j p.placing)) xs) i.rest ∙ others-outside j ps);
      rules = c.in_ok-own-2.ensures.rules ∙ i.rules;
      rounds = c.in_ok-push.ensures.items ∙ (ap₂ (λ (xs : List (List Parts)) (x : List Parts). xs ++ x ∷ []) i.rounds (c.in_ok-own-2.ensures.profiles ∙ own) ∙ sym (map-range_with_len_more (λ k. profiles_in_round k ps) 0 j j (omega arith)));
      safe = λ k l. ⊎_elim
          (λ before. i.safe k before)
          (λ now. subst (λ (n : ℕ). IsSafeSet (record { profiles = profiles_in_round n ps; rules = c.args.rules })) (sym now)
          (subst (λ (Rs : List Rule). IsSafeSet (record { profiles = profiles_in_round j ps; rules = Rs })) i.rules (subst (λ (Ps : List Parts). IsSafeSet (record { profiles = Ps; rules = c.loop-round.rules })) own safe)))
          (less-or-same k j l);
    }

-- After the last round. (The four goals are the clauses of what is returned.)
pub returns-clause-rounds : goal.returns-clause-rounds
returns-clause-rounds c =
    let all : c.loop-round.round ≡ c.args.count = omega (arith, c.loop-round-test.false, c.loop-round.auto.round-end) in
    c.from_vec.ensures ∙ (c.loop-round.invariant.rounds ∙ ap (λ n. map (λ k. profiles_in_round k c.args.placed.items) (range_with_len 0 n)) all)

pub returns-clause-left : goal.returns-clause-left
returns-clause-left c =
    let all : c.loop-round.round ≡ c.args.count = omega (arith, c.loop-round-test.false, c.loop-round.auto.round-end) in
    c.from_vec-2.ensures ∙ (c.loop-round.invariant.rest ∙ ap (λ n. filter (λ p. is_outside n p.placing) c.args.placed.items) all)

pub returns-clause-rules : goal.returns-clause-rules
returns-clause-rules c = c.loop-round.invariant.rules

pub returns-clause-safe : goal.returns-clause-safe
returns-clause-safe c =
    let all : c.loop-round.round ≡ c.args.count = omega (arith, c.loop-round-test.false, c.loop-round.auto.round-end) in
    λ k l. c.loop-round.invariant.safe k (omega (arith, l, all))

-- A round isn't verified.
pub returns-in_err-own-2-clause-refused : goal.returns-in_err-own-2-clause-refused
returns-in_err-own-2-clause-refused c =
    let ps = c.args.placed.items in
    let j = c.loop-round.round in
    let i = c.loop-round.invariant in
    let own = c.in_ok-own.ensures.own ∙ (ap (λ (xs : List Placed). profiles_in_round j xs) i.rest ∙ members-outside j ps) in
    let before = c.loop-round-test.true in
    let end = c.loop-round.auto.round-end in
    passed-up c.from_residual-in_err-own-2.result c.in_err-own-2.field-0.0 (IsFaultBelow c.args.count ps c.args.rules) c.from_residual-in_err-own-2.ensures.1
    (fault-below c.args.count j ps c.args.rules c.loop-round.rules c.in_ok-own.own c.in_err-own-2.field-0.0 (omega (arith, before, end)) own i.rules c.in_err-own-2.ensures.refused)

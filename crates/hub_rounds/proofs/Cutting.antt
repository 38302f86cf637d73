-- Profiles that are taken out round by round.
use Rattle.std.proofs.Common.{◌≡◌, ◌∙◌, ◌&&◌, ◌==◌, ◌<◌, ◌+◌, ℕ, zero, suc, Bool, true, false, not, cond, List, [], ◌∷◌, ◌++◌, append-nil, filter, length, map, Some, refl, sym, ap, ap₂, subst, arith}
use Rattle.std.specs.List.{range_with_len}
use Rattle.std.specs.Prelude.{nat_lt, slice_get}
use Rattle.std.proofs.lemmas.Bool.Decides.{nat_tests}
use Rattle.std.proofs.lemmas.List.Elements.{filter-append}
use Rattle.std.proofs.lemmas.List.FromFn.{length-map-range_with_len}
use Rattle.std.proofs.lemmas.Option.{same_Some}
use Rattle.hub_profile.specs.Parts.{Parts}
use Rattle.hub_cert.specs.Set.{IsSafeSet, Members}
use Rattle.hub_cert.specs.declared.fault.CheckFault.{CheckFault}
use Rattle.hub_rounds.specs.Numbered.{AreStanding, StandAsNumbers}
use Rattle.hub_rounds.specs.Rounds.{ArePlaced, AreRivals, AreRounds, AreWhole, IsPlaced, is_in_round, is_in_some, is_outside, profiles_in_round}
use Rattle.hub_rounds.specs.laws.Rounds.{round-at}
use Rattle.hub_rounds.specs.declared.placing.Placed.{Placed}
use Rattle.hub_rounds.specs.declared.placing.Placing.{Placing}
use Rattle.hub_rounds.specs.declared.placing.Placing.TheVariants.{Unplaced, Round}
use Rattle.hub_rounds.specs.declared.rounds.Rounds.{Rounds}
use Rattle.hub_rounds.specs.declared.standing.Standing.{Standing}
use Rattle.hub_rounds.proofs.AsNumbers.{as-many, profile-of, profiles-rivals, profiles-split, profiles-told, profiles-whole}

-- What passes one test and then another.
filter-both : {X : Type 0} (f g : X → Bool) (xs : List X) → filter f (filter g xs) ≡ filter (λ x. g x && f x) xs
filter-both f g [] = refl
filter-both {X} f g (x ∷ xs) = go (g x) (filter-both f g xs)
  where
    go : (b : Bool) → filter f (filter g xs) ≡ filter (λ y. g y && f y) xs
        → filter f (cond b (x ∷ filter g xs) (filter g xs)) ≡ cond (b && f x) (x ∷ filter (λ y. g y && f y) xs) (filter (λ y. g y && f y) xs)
    go true rest = ap (λ ys. cond (f x) (x ∷ ys) ys) rest
    go false rest = rest

-- Tests that agree on all items of a list.
filter-alike : {X : Type 0} (f g : X → Bool) (xs : List X) → ((n : ℕ) (x : X) → slice_get xs n ≡ Some x → f x ≡ g x) → filter f xs ≡ filter g xs
filter-alike f g [] same = refl
filter-alike f g (x ∷ xs) same = ap₂ (λ b ys. cond b (x ∷ ys) ys) (same 0 x refl) (filter-alike f g xs (λ n y at. same (suc n) y at))

filter-all : {X : Type 0} (f : X → Bool) (xs : List X) → ((x : X) → f x ≡ true) → filter f xs ≡ xs
filter-all f [] all = refl
filter-all f (x ∷ xs) all = ap₂ (λ b ys. cond b (x ∷ ys) ys) (all x) (filter-all f xs all)

none-below-zero : (q : Placing) → is_outside 0 q ≡ true
none-below-zero (Unplaced why) = refl
none-below-zero (Round own) = go (nat_lt own 0) refl
  where
    go : (b : Bool) → nat_lt own 0 ≡ b → not b ≡ true
    go false e = refl
    go true e = let l : own < 0 = grind (arith, nat_tests, e) in absurd (omega (arith, l))

-- Who is in a round isn't in one before it.
in-outside : (j : ℕ) (q : Placing) → (is_outside j q && is_in_round j q) ≡ is_in_round j q
in-outside j (Unplaced why) = refl
in-outside j (Round own) = go (nat_lt own j) refl
  where
    go : (b : Bool) → nat_lt own j ≡ b → (not b && own == j) ≡ (own == j)
    go false e = refl
    go true e = grind (arith, nat_tests, e)

-- Who is in none of the rounds before, and not in this one.
outside-next : (j : ℕ) (q : Placing) → (is_outside j q && not (is_in_round j q)) ≡ is_outside (j + 1) q
outside-next j (Unplaced why) = refl
outside-next j (Round own) = go (nat_lt own j) (own == j) (nat_lt own (j + 1)) refl refl refl
  where
    go : (b c d : Bool) → nat_lt own j ≡ b → (own == j) ≡ c → nat_lt own (j + 1) ≡ d → (not b && not c) ≡ not d
    go true c true e f h = refl
    go true c false e f h = absurd (grind (arith, nat_tests, e, h))
    go false true true e f h = refl
    go false true false e f h = absurd (grind (arith, nat_tests, f, h))
    go false false true e f h = absurd (grind (arith, nat_tests, e, f, h))
    go false false false e f h = refl

pub all-outside : (ps : List Placed) → ps ≡ filter (λ p. is_outside 0 p.placing) ps
all-outside ps = sym (filter-all (λ (p : Placed). is_outside 0 p.placing) ps (λ p. none-below-zero p.placing))

pub members-outside : (j : ℕ) (ps : List Placed) → profiles_in_round j (filter (λ p. is_outside j p.placing) ps) ≡ profiles_in_round j ps
members-outside j ps =
    ap (map (λ (p : Placed). p.profile))
    (filter-both (λ (p : Placed). is_in_round j p.placing) (λ (p : Placed). is_outside j p.placing) ps
    ∙ filter-alike (λ (p : Placed). is_outside j p.placing && is_in_round j p.placing) (λ (p : Placed). is_in_round j p.placing) ps (λ n p at. in-outside j p.placing))

pub others-outside : (j : ℕ) (ps : List Placed) → filter (λ p. not (is_in_round j p.placing)) (filter (λ p. is_outside j p.placing) ps) ≡ filter (λ p. is_outside (j + 1) p.placing) ps
others-outside j ps =
    filter-both (λ (p : Placed). not (is_in_round j p.placing)) (λ (p : Placed). is_outside j p.placing) ps
    ∙ filter-alike (λ (p : Placed). is_outside j p.placing && not (is_in_round j p.placing)) (λ (p : Placed). is_outside (j + 1) p.placing) ps (λ n p at. outside-next j p.placing)

-- One more profile, which isn't in the round.
pub members-past : (k : ℕ) (ps : List Placed) (p : Placed) → is_in_round k p.placing ≡ false → profiles_in_round k (ps ++ p ∷ []) ≡ profiles_in_round k ps
members-past k ps p out =
    let own = filter (λ (q : Placed). is_in_round k q.placing) ps in
    ap (map (λ (q : Placed). q.profile)) (filter-append (λ (q : Placed). is_in_round k q.placing) ps (p ∷ []) ∙ (ap (λ b. own ++ cond b (p ∷ []) []) out ∙ append-nil own))

pub others-past : (k : ℕ) (ps : List Placed) (p : Placed) → is_in_round k p.placing ≡ false → filter (λ q. not (is_in_round k q.placing)) (ps ++ p ∷ []) ≡ filter (λ q. not (is_in_round k q.placing)) ps ++ p ∷ []
others-past k ps p out =
    let others = filter (λ (q : Placed). not (is_in_round k q.placing)) ps in
    filter-append (λ (q : Placed). not (is_in_round k q.placing)) ps (p ∷ []) ∙ ap (λ b. others ++ cond (not b) (p ∷ []) []) out

-- Whoever is in none of all rounds was left out.
outside-left : (es : List CheckFault) (count i : ℕ) (q : Placing) → IsPlaced es count i q → is_outside count q ≡ not (is_in_some q)
outside-left es count i (Unplaced why) h = refl
outside-left es count i (Round own) h = go (nat_lt own count) refl
  where
    go : (b : Bool) → nat_lt own count ≡ b → not b ≡ false
    go true e = refl
    go false e = let below = h.0 in absurd (grind (arith, nat_tests, e, below))

pub left-outside : (es : List CheckFault) (count : ℕ) (ps : List Placed) → ArePlaced es count ps
    → filter (λ p. is_outside count p.placing) ps ≡ filter (λ p. not (is_in_some p.placing)) ps
left-outside es count ps told = filter-alike (λ (p : Placed). is_outside count p.placing) (λ (p : Placed). not (is_in_some p.placing)) ps (λ n p at. outside-left es count n p.placing (told n p at))

-- A round that has a profile isn't empty.
used-members : (k : ℕ) (ps : List Placed) (i : ℕ) (p : Placed) → slice_get ps i ≡ Some p → is_in_round k p.placing ≡ true → profiles_in_round k ps ≡ [] → ⊥
used-members k [] i p at is e = cc
used-members k (q ∷ ps) zero p at is e = go (is_in_round k q.placing) (ap (λ (r : Placed). is_in_round k r.placing) (same_Some q p at) ∙ is) e
  where
    go : (b : Bool) → b ≡ true → map (λ (r : Placed). r.profile) (cond b (q ∷ filter (λ r. is_in_round k r.placing) ps) (filter (λ r. is_in_round k r.placing) ps)) ≡ [] → ⊥
    go true h f = cc
    go false h f = cc
used-members k (q ∷ ps) (suc i) p at is e = go (is_in_round k q.placing) (used-members k ps i p at is) e
  where
    go : (b : Bool) → (profiles_in_round k ps ≡ [] → ⊥) → map (λ (r : Placed). r.profile) (cond b (q ∷ filter (λ r. is_in_round k r.placing) ps) (filter (λ r. is_in_round k r.placing) ps)) ≡ [] → ⊥
    go true rest f = cc
    go false rest f = rest f

-- What is known of the profiles and of the rounds makes the answer.
pub are-rounds : (S : Members) (es : List CheckFault) (r : Rounds) (ps : List Placed) (s : Standing) → map (λ p. p.profile) ps ≡ S.profiles → AreStanding (length S.profiles) es s → StandAsNumbers s.placings ps
    → r.rounds ≡ map (λ k. profiles_in_round k ps) (range_with_len 0 s.rounds) → r.left ≡ filter (λ p. is_outside s.rounds p.placing) ps
    → ((k : ℕ) → k < s.rounds → IsSafeSet (record { profiles = profiles_in_round k ps; rules = S.rules })) → r.rivals ≡ s.rivals → r.rules ≡ S.rules → AreRounds S es r
are-rounds S es r ps s all are so rounds left safe rivals rules =
    let count = s.rounds in
    let many : length r.rounds ≡ count = ap length rounds ∙ length-map-range_with_len (λ k. profiles_in_round k ps) 0 count in
    let equal = as-many ps S.profiles s.placings all are.all in
    let told = profiles-told es s.placings ps count equal so are.told in
    record {
      placed = ps;
      all = all;
      told = subst (λ (n : ℕ). ArePlaced es n ps) (sym many) told;
      split = profiles-split es s.placings ps equal so are.split;
      rounds = rounds ∙ ap (λ n. map (λ k. profiles_in_round k ps) (range_with_len 0 n)) (sym many);
      left = left ∙ left-outside es count ps told;
      used = λ k Ps at empty.
          let w = round-at count r.rounds (λ n. profiles_in_round n ps) k Ps rounds at in
          let u = are.used k w.0 in
          let v = profile-of s.placings ps u.0 u.1.0 equal so u.1.1 in
          used-members k ps u.0 v.0 v.1 (ap (is_in_round k) v.2 ∙ u.1.2) (sym w.1 ∙ empty);
      safe = λ k Ps at.
          let w = round-at count r.rounds (λ n. profiles_in_round n ps) k Ps rounds at in
          subst (λ (Qs : List Parts). IsSafeSet (record { profiles = Qs; rules = S.rules })) (sym w.1) (safe k w.0);
      rivals = subst (λ (ns : List ℕ). AreRivals es ps ns) (sym rivals) (profiles-rivals es s.placings ps s.rivals equal so are.rivals);
      whole = subst (λ (ns : List ℕ). AreWhole es ps ns) (sym rivals) (profiles-whole es s.placings ps s.rivals equal so are.whole);
      rules = rules;
    }

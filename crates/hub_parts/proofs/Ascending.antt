-- The pairs of the sweep, with the lower number first, sorted and once each.
use Rattle.std.proofs.Common.{◌≡◌, ◌≢◌, ◌⊎◌, inl, inr, ⊎_elim, subst, ◌<◌, ◌≤◌, ℕ, Bool, true, false, not, cond, List, [], ◌∷◌, map, get_or, refl, sym, ap, ◌∙◌, arith}
use Rattle.std.specs.Prelude.{Contains, slice_get, Some, ◌&&◌, ◌==◌, nat_lt, nat_eq, if◌then◌else◌}
use Rattle.std.specs.List.{filter, dedup}
use Rattle.std.specs.List.Sorted.{IsPermutation, IsSortedBy, IsSorted, IsStrictlySortedBy}
use Rattle.std.specs.Cmp.{IsTotalOrder, IsEquivalence, nat_cmp_total, nat_eq_equiv, on_total, then_total, on_equiv, and_equiv, both_tied, ranks, unsigned_ties}
use Rattle.std.specs.Ordering.{MatchOrdering, nat_cmp, ordering_then, eq_by_cmp}
use Rattle.std.specs.declared.cmp.Ordering.{Ordering}
use Rattle.std.specs.declared.cmp.Ordering.TheVariants.{Less, Equal, Greater}
use Rattle.std.proofs.lemmas.Bool.{and_parts, false≢true}
use Rattle.std.proofs.lemmas.Bool.Decides.{nat_tests}
use Rattle.std.proofs.lemmas.List.Kept.{Contains-dedup, Contains-from_dedup, IsStrictlySortedBy-dedup}
use Rattle.std.proofs.lemmas.List.Sorted.{Contains-permutation, IsPermutation-sym}
use Rattle.std.proofs.lemmas.Map.Keys.{Less-from_sorted}
use Rattle.std.proofs.lemmas.Option.{get_or_from_slice_get, same_Some, slice_get_within}
use Rattle.hub_text.specs.laws.List.{at-place, cons-cases, cons-here, cons-there, to-map}
use Rattle.hub_profile.specs.Parts.{Parts}
use Rattle.hub_parts.specs.Clashing.{AreNear, AreNearPairs, Precedes}
use Rattle.hub_parts.specs.Near.{HasPair, IsValueOver, are_different, lower_first, near_pairs}
use Rattle.hub_parts.specs.Values.{values}
use Rattle.hub_parts.specs.declared.kept_value.KeptValue.{KeptValue}
use Rattle.hub_parts.proofs.Items.{none-in, out-map}
use Rattle.hub_parts.proofs.Sorting.{in-order, is_before}
use Rattle.hub_parts.proofs.Swept.{complete, exact}

abbrev Pair : Type 0
Pair = ℕ × ℕ

abbrev pair : ℕ → ℕ → Pair
pair a b = (a, b)

abbrev pair_cmp : Pair → Pair → Ordering
pair_cmp p q = ordering_then (nat_cmp p.0 q.0) (nat_cmp p.1 q.1)

abbrev pair_eq : Pair → Pair → Bool
pair_eq p q = nat_eq p.0 q.0 && nat_eq p.1 q.1

-- What a filter leaves.
to-filter : {X : Type 0} (f : X → Bool) (xs : List X) (x : X) → f x ≡ true → Contains xs x → Contains (filter f xs) x
to-filter f [] x h m = m
to-filter f (y ∷ xs) x h m = go (f y) refl (to-filter f xs x h)
  where
    go : (b : Bool) → f y ≡ b → (Contains xs x → Contains (filter f xs) x) → Contains (cond b (y ∷ filter f xs) (filter f xs)) x
    go true e more = ⊎_elim
        (λ same. cons-here y x (filter f xs) same)
        (λ rest. cons-there y x (filter f xs) (more rest))
        (cons-cases y x xs m)
    go false e more = ⊎_elim
        (λ same. absurd (false≢true (sym e ∙ (ap f same ∙ h))))
        more
        (cons-cases y x xs m)

out-filter : {X : Type 0} (f : X → Bool) (xs : List X) (x : X) → Contains (filter f xs) x → (f x ≡ true) × Contains xs x
out-filter f [] x m = absurd (none-in x m)
out-filter f (y ∷ xs) x m = go (f y) refl (out-filter f xs x) m
  where
    go : (b : Bool) → f y ≡ b → (Contains (filter f xs) x → (f x ≡ true) × Contains xs x)
        → Contains (cond b (y ∷ filter f xs) (filter f xs)) x → (f x ≡ true) × Contains (y ∷ xs) x
    go true e more m = ⊎_elim
        (λ same. (subst (λ z. f z ≡ true) same e, cons-here y x xs same))
        (λ rest. let w = more rest in (w.0, cons-there y x xs w.1))
        (cons-cases y x (filter f xs) m)
    go false e more m = let w = more m in (w.0, cons-there y x xs w.1)

-- The lower number first.
apart : (i j : ℕ) → i ≢ j → not (i == j) ≡ true
apart i j off = grind (arith, nat_tests)

not-same : (i j : ℕ) → not (i == j) ≡ true → i ≢ j
not-same i j h e = grind (arith, nat_tests)

kept-lower : (i j : ℕ) → i < j → lower_first (i, j) ≡ (i, j)
kept-lower i j less = let e : nat_lt j i ≡ false = grind (arith, nat_tests) in ap (λ b. if b then (j, i) else (i, j)) e

turned-lower : (i j : ℕ) → i < j → lower_first (j, i) ≡ (i, j)
turned-lower i j less = let e : nat_lt i j ≡ true = grind (arith, nat_tests) in ap (λ b. if b then (i, j) else (j, i)) e

-- A pair of which the first is lower is one or the other way round.
lower-cases : (x y : ℕ) (i j : ℕ) → x ≢ y → lower_first (x, y) ≡ (i, j)
    → (i < j) × (((x ≡ i) × (y ≡ j)) ⊎ ((x ≡ j) × (y ≡ i)))
lower-cases x y i j off h = go (nat_lt y x) refl h
  where
    go : (b : Bool) → nat_lt y x ≡ b → (if b then pair y x else pair x y) ≡ pair i j
        → (i < j) × (((x ≡ i) × (y ≡ j)) ⊎ ((x ≡ j) × (y ≡ i)))
    go true e h =
        let a : y ≡ i = ap (λ (p : Pair). p.0) h in
        let b : x ≡ j = ap (λ (p : Pair). p.1) h in
        let l : y < x = grind (arith, nat_tests) in
        (omega arith, inr (b, a))
    go false e h =
        let a : x ≡ i = ap (λ (p : Pair). p.0) h in
        let b : y ≡ j = ap (λ (p : Pair). p.1) h in
        let l : x ≤ y = grind (arith, nat_tests) in
        (omega (arith, off), inl (a, b))

abbrev found : List KeptValue → List Pair
found ks = map lower_first (filter are_different (near_pairs ks))

listed : (ks : List KeptValue) (i j : ℕ) → i < j → HasPair (near_pairs ks) i j → Contains (found ks) (i, j)
listed ks i j less (inl m) =
    subst (λ p. Contains (found ks) p) (kept-lower i j less)
    (to-map lower_first (filter are_different (near_pairs ks)) (i, j)
    (to-filter are_different (near_pairs ks) (i, j) (apart i j (omega (arith, less))) m))
listed ks i j less (inr m) =
    subst (λ p. Contains (found ks) p) (turned-lower i j less)
    (to-map lower_first (filter are_different (near_pairs ks)) (j, i)
    (to-filter are_different (near_pairs ks) (j, i) (apart j i (omega (arith, less))) m))

over-listed : (ks : List KeptValue) → IsSortedBy is_before ks → (i j : ℕ) → i ≢ j → IsValueOver ks i j → HasPair (near_pairs ks) i j
over-listed ks up i j off v =
    let m = at-place ks v.0 v.2 in
    let n = at-place ks v.1 v.3 in
    let apart_at : m.0 ≢ n.0 = λ same. off (sym v.4 ∙ (ap (λ (x : KeptValue). x.profile)
    (same_Some v.0 v.1 (sym m.2 ∙ (ap (slice_get ks) same ∙ n.2))) ∙ v.5)) in
    subst (λ y. HasPair (near_pairs ks) i y) v.5
    (subst (λ x. HasPair (near_pairs ks) x v.1.profile) v.4
    (complete ks (in-order ks up) m.0 n.0 v.0 v.1 apart_at m.2 n.2 v.6))

turned-pair : (ps : List Pair) (i j : ℕ) → HasPair ps i j → HasPair ps j i
turned-pair ps i j (inl m) = inr m
turned-pair ps i j (inr m) = inl m

value-moved : (ks ls : List KeptValue) → IsPermutation ks ls → (i j : ℕ) → IsValueOver ks i j → IsValueOver ls i j
value-moved ks ls moved i j v =
    (v.0, v.1, Contains-permutation ks ls v.0 moved v.2, Contains-permutation ks ls v.1 moved v.3, v.4, v.5, v.6)

-- The pairs found are those of near profiles.
found-complete : (Ps : List Parts) (ks : List KeptValue) → IsPermutation (values Ps) ks → IsSortedBy is_before ks
    → (i j : ℕ) → i < j → AreNear Ps i j → Contains (found ks) (i, j)
found-complete Ps ks moved up i j less (inl v) =
    listed ks i j less (over-listed ks up i j (omega (arith, less)) (value-moved (values Ps) ks moved i j v))
found-complete Ps ks moved up i j less (inr v) =
    listed ks i j less (turned-pair (near_pairs ks) j i
    (over-listed ks up j i (omega (arith, less)) (value-moved (values Ps) ks moved j i v)))

found-exact : (Ps : List Parts) (ks : List KeptValue) → IsPermutation (values Ps) ks
    → (i j : ℕ) → Contains (found ks) (i, j) → (i < j) × AreNear Ps i j
found-exact Ps ks moved i j m =
    let w = out-map lower_first (filter are_different (near_pairs ks)) (i, j) m in
    let x : ℕ = w.0.0 in
    let y : ℕ = w.0.1 in
    let k = out-filter are_different (near_pairs ks) w.0 w.1 in
    let back : (a b : ℕ) → IsValueOver ks a b → IsValueOver (values Ps) a b =
    value-moved ks (values Ps) (IsPermutation-sym (values Ps) ks moved) in
    let v = exact ks x y k.1 in
    let c = lower-cases x y i j (not-same x y k.0) w.2 in (
      c.0,
      ⊎_elim
          (λ same. inl (subst (λ a. IsValueOver (values Ps) a j) same.0 (subst (λ b. IsValueOver (values Ps) x b) same.1 (back x y v))))
          (λ turned. inr (subst (λ a. IsValueOver (values Ps) a i) turned.0 (subst (λ b. IsValueOver (values Ps) x b) turned.1 (back x y v))))
          c.1,
    )

-- The order of pairs.
pair-total : IsTotalOrder pair_cmp
pair-total = then_total (on_total (λ (p : Pair). p.0) nat_cmp_total) (on_total (λ (p : Pair). p.1) nat_cmp_total)

pair-equal : IsEquivalence pair_eq
pair-equal = and_equiv (on_equiv (λ (p : Pair). p.0) nat_eq_equiv) (on_equiv (λ (p : Pair). p.1) nat_eq_equiv)

pair-ties : (p q : Pair) → pair_eq p q ≡ eq_by_cmp pair_cmp p q
pair-ties p q = both_tied _ _ (nat_cmp p.0 q.0) (nat_cmp p.1 q.1) (unsigned_ties p.0 q.0) (unsigned_ties p.1 q.1)

pair-exact : (p q : Pair) → pair_eq p q ≡ true → p ≡ q
pair-exact p q h =
    let parts = and_parts (nat_eq p.0 q.0) (nat_eq p.1 q.1) h in
    let a : p.0 ≡ q.0 = grind (arith, nat_tests) in
    let b : p.1 ≡ q.1 = grind (arith, nat_tests) in
    λ i. (a i, b i)

precedes : (p q : Pair) → pair_cmp p q ≡ Less → Precedes p q
precedes p q h = go (nat_cmp p.0 q.0) refl (ranks p.0 q.0) h
  where
    go : (o : Ordering) → nat_cmp p.0 q.0 ≡ o → MatchOrdering o (p.0 < q.0) (p.0 ≡ q.0) (q.0 < p.0)
        → ordering_then o (nat_cmp p.1 q.1) ≡ Less → Precedes p q
    go Less e r h = inl r
    go Equal e r h = inr (r, subst (λ o. MatchOrdering o (p.1 < q.1) (p.1 ≡ q.1) (q.1 < p.1)) h (ranks p.1 q.1))
    go Greater e r h = cc

ascending : (ps : List Pair) → IsStrictlySortedBy pair_cmp ps → (a b : ℕ) (p q : Pair) → a < b
    → slice_get ps a ≡ Some p → slice_get ps b ≡ Some q → Precedes p q
ascending ps up a b p q less at_a at_b =
    let far = Less-from_sorted pair_cmp ps a b p up less (slice_get_within ps b q at_b) in
    precedes p q
    (subst (λ x. pair_cmp x q ≡ Less) (get_or_from_slice_get ps a p p at_a)
    (subst (λ y. pair_cmp (get_or ps a p) y ≡ Less) (get_or_from_slice_get ps b q p at_b) far))

near-pairs : (Ps : List Parts) (ks : List KeptValue) (up ps : List Pair) → IsPermutation (values Ps) ks → IsSortedBy is_before ks
    → IsPermutation (found ks) up → IsSorted pair_cmp up → ps ≡ dedup pair_eq up → AreNearPairs Ps ps
near-pairs Ps ks up ps moved order again sorted e = subst (λ xs. AreNearPairs Ps xs) (sym e) (record {
  complete = λ i j less near.
      Contains-dedup pair-equal pair-exact up (i, j)
      (Contains-permutation (found ks) up (i, j) again (found-complete Ps ks moved order i j less near));
  exact = λ i j m.
      found-exact Ps ks moved i j
      (Contains-permutation up (found ks) (i, j) (IsPermutation-sym (found ks) up again) (Contains-from_dedup pair_eq up (i, j) m));
  ascending = ascending (dedup pair_eq up) (IsStrictlySortedBy-dedup pair-total pair-ties up sorted);
})

-- The steps that find them.
pub sorted_pairs : (Ps : List Parts) (start sorted slice : List KeptValue) (raw seen turned up ps : List Pair) → start ≡ values Ps
    → IsPermutation start sorted → IsSortedBy is_before sorted → slice ≡ sorted → raw ≡ near_pairs slice → seen ≡ raw
    → turned ≡ map lower_first (filter are_different seen) → IsPermutation turned up → IsSorted pair_cmp up → ps ≡ dedup pair_eq up
    → AreNearPairs Ps ps
sorted_pairs Ps start sorted slice raw seen turned up ps first moved order same found_by held lower again ascends once =
    near-pairs Ps sorted up ps
    (subst (λ xs. IsPermutation xs sorted) first moved) order
    (subst (λ xs. IsPermutation xs up) (lower ∙ ap (λ xs. map lower_first (filter are_different xs)) (held ∙ (found_by ∙ ap near_pairs same))) again)
    ascends once

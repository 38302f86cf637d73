-- Nested roots, among roots that equal no earlier one.
use Rattle.std.proofs.Common.{◌≡◌, ◌⊎◌, inl, inr, ⊎_elim, ◌∙◌, ℕ, ◌+◌, ◌<◌, ◌≤◌, Bool, true, false, not, cond, ◌&&◌, ◌||◌, List, [], ◌∷◌, ◌++◌, length, get_or, Some, refl, sym, ap, subst, arith}
use Rattle.std.specs.Prelude.{slice_get, nat_lt}
use Rattle.std.specs.Ordering.{is_eq}
use Rattle.std.proofs.lemmas.Bool.{false≢true}
use Rattle.std.proofs.lemmas.Bool.Decides.{nat_tests}
use Rattle.std.proofs.lemmas.Option.{same_Some, slice_get_read, slice_get_within}
use Rattle.std.proofs.lemmas.List.{get_or_default}
use denote.Ref.{Bor}
use Rattle.hub_text.specs.laws.List.{less-or-same, snoc-cases, snoc-new, snoc-old}
use Rattle.hub_path.specs.Path.{Path, path_cmp, path_eq, is_over}
use Rattle.hub_path.specs.laws.General.{path_cmp-exact, path_cmp-total, path_eq-decides, path_eq-turned}
use Rattle.hub_cert.specs.Refused.{AreFirstNested, AreDistinctRoots, AreNested, AreNestedAt, NoneNested, NoneNestedAfter, is_nested}
use Rattle.hub_cert.proofs.Seen.{AreKeys, keys-more}

-- Which of two nested roots comes first makes no difference. No root is nested with itself.
or-turned : (a b : Bool) → (a || b) ≡ (b || a)
or-turned true true = refl
or-turned true false = refl
or-turned false true = refl
or-turned false false = refl

nested-turned : (p q : Path) → is_nested p q ≡ is_nested q p
nested-turned p q = (λ i. not (path_eq-turned p q i) && or-turned (is_over p q) (is_over q p) i)

turned : (rs : List Path) (i j : ℕ) → AreNested rs i j → AreNested rs j i
turned rs i j h = record {
  first = h.second;
  second = h.first;
  at_first = h.at_second;
  at_second = h.at_first;
  nested = nested-turned h.second h.first ∙ h.nested;
}

not-itself : (rs : List Path) (i : ℕ) → AreNested rs i i → ⊥
not-itself rs i h =
    let same : h.first ≡ h.second = same_Some h.first h.second (sym h.at_first ∙ h.at_second) in
    let eq : path_eq h.first h.second ≡ true = (path_eq-decides h.first h.second).1 same in
    false≢true (ap (λ (b : Bool). not b && (is_over h.first h.second || is_over h.second h.first)) (sym eq) ∙ h.nested)

data Order (m n : ℕ) : Type 0 where
  less : m < n → Order m n
  same : m ≡ n → Order m n
  more : n < m → Order m n

order : (m n : ℕ) → Order m n
order m n = go (nat_lt m n) (nat_lt n m) refl refl
  where
    go : (a b : Bool) → nat_lt m n ≡ a → nat_lt n m ≡ b → Order m n
    go true b e f = less (grind (arith, nat_tests, e))
    go false true e f = more (grind (arith, nat_tests, f))
    go false false e f = same (grind (arith, nat_tests, e, f))

-- None of the distinct roots before that one is nested with a later one.
abbrev pub NoneNestedBelow : List Path → List ℕ → ℕ → Type 0
NoneNestedBelow rs ns below = (k l : ℕ) → k < l → k < below → AreNestedAt rs ns k l → ⊥

module _ (rs : List Path) (ns : List ℕ) (are : AreDistinctRoots rs ns) where
  at-once : (k l m n : ℕ) → k ≡ l → slice_get ns k ≡ Some m → slice_get ns l ≡ Some n → m ≡ n
  at-once k l m n e at_m at_n = same_Some m n (sym at_m ∙ (ap (slice_get ns) e ∙ at_n))

  lower : (k l m n : ℕ) → slice_get ns k ≡ Some m → slice_get ns l ≡ Some n → m < n → k < l
  lower k l m n at_m at_n l_mn = go (order k l)
    where
      go : Order k l → k < l
      go (less h) = h
      go (same h) = let e = at-once k l m n h at_m at_n in absurd (omega (arith, e, l_mn))
      go (more h) = let e = are.ascending l k n m h at_n at_m in absurd (omega (arith, e, l_mn))

  -- Two nested roots are nested where each first stands too.
  abbrev Earlier : ℕ → ℕ → Type 0
  Earlier i j = (k l m n : ℕ) × (k < l) × (slice_get ns k ≡ Some m) × (slice_get ns l ≡ Some n) × (m ≤ i) × (n ≤ j) × AreNested rs m n

  earlier : (i j : ℕ) → i < j → AreNested rs i j → Earlier i j
  earlier i j below h = go (order p.0 q.0)
    where
      p : (k n : ℕ) × (slice_get ns k ≡ Some n) × (n ≤ i) × (slice_get rs n ≡ Some h.first)
      p = are.each i h.first h.at_first

      q : (k n : ℕ) × (slice_get ns k ≡ Some n) × (n ≤ j) × (slice_get rs n ≡ Some h.second)
      q = are.each j h.second h.at_second

      nested : AreNested rs p.1 q.1
      nested = record { first = h.first; second = h.second; at_first = p.4; at_second = q.4; nested = h.nested }

      go : Order p.0 q.0 → Earlier i j
      go (less l) = (p.0, q.0, p.1, q.1, l, p.2, q.2, p.3, q.3, nested)
      go (same e) =
          let here : p.1 ≡ q.1 = at-once p.0 q.0 p.1 q.1 e p.2 q.2 in
          absurd (not-itself rs q.1 (subst (λ (n : ℕ). AreNested rs n q.1) here nested))
      go (more l) =
          let a : q.1 < p.1 = are.ascending q.0 p.0 q.1 p.1 l q.2 p.2 in
          let b : p.1 ≤ i = p.3 in
          let c : q.1 ≤ i = omega (arith, a, b) in
          let d : p.1 ≤ j = omega (arith, below, b) in
          (q.0, p.0, q.1, p.1, l, q.2, p.2, c, d, turned rs p.1 q.1 nested)

  pub none-below-more : (n : ℕ) → NoneNestedAfter rs ns n → NoneNestedBelow rs ns n → NoneNestedBelow rs ns (n + 1)
  none-below-more n after before k l below h are_nested =
      ⊎_elim
      (λ less. before k l below less are_nested)
      (λ same. after l (subst (λ (i : ℕ). i < l) same below) (subst (λ (i : ℕ). AreNestedAt rs ns i l) same are_nested))
      (less-or-same k n h)

  pub none-nested : (n : ℕ) → length ns ≤ n → NoneNestedBelow rs ns n → NoneNested rs
  none-nested n long none i j l h =
      let w = earlier i j l h in
      let k = slice_get_within ns w.0 w.2 w.5 in
      none w.0 w.1 w.4 (omega (arith, k, long)) (w.2, w.3, w.5, w.6, w.9)

  -- The first pair of distinct roots is the first pair of all.
  pub first-nested : (k l m n : ℕ) → slice_get ns k ≡ Some m → slice_get ns l ≡ Some n → k < l → AreNestedAt rs ns k l
      → ((o : ℕ) → k < o → o < l → AreNestedAt rs ns k o → ⊥) → NoneNestedBelow rs ns k → AreFirstNested rs m n
  first-nested k l m n at_m at_n below found after before = record {
    before = are.ascending k l m n below at_m at_n;
    nested = subst (λ (x : ℕ). AreNested rs m x) (same_Some found.1 n (sym found.3 ∙ at_n)) (subst (λ (x : ℕ). AreNested rs x found.1) (same_Some found.0 m (sym found.2 ∙ at_m)) found.4);
    none_before = none;
  }
    where
      here : (i j : ℕ) → (i < m) ⊎ ((i ≡ m) × (j < n)) → (w : Earlier i j) → Order w.0 k → ⊥
      here i j early w (less h) = before w.0 w.1 w.4 h (w.2, w.3, w.5, w.6, w.9)
      here i j early w (same h) =
          let at : w.2 ≡ m = at-once w.0 k w.2 m h w.5 at_m in
          let a : w.2 ≤ i = w.7 in
          let b : w.3 ≤ j = w.8 in
          ⊎_elim
          (λ less. absurd (omega (arith, at, a, less)))
          (λ equal.
          let c : j < n = equal.1 in
          let d : w.3 < n = omega (arith, b, c) in
          after w.1 (subst (λ (x : ℕ). x < w.1) h w.4) (lower w.1 l w.3 n w.6 at_n d) (subst (λ (x : ℕ). AreNestedAt rs ns x w.1) h (w.2, w.3, w.5, w.6, w.9)))
          early
      here i j early w (more h) =
          let up : m < w.2 = are.ascending k w.0 m w.2 h at_m w.5 in
          let a : w.2 ≤ i = w.7 in
          ⊎_elim (λ less. absurd (omega (arith, up, a, less))) (λ equal. let e : i ≡ m = equal.0 in absurd (omega (arith, up, a, e))) early

      none : (i j : ℕ) → i < j → (i < m) ⊎ ((i ≡ m) × (j < n)) → AreNested rs i j → ⊥
      none i j l early h = let w = earlier i j l h in here i j early w (order w.0 k)

-- The distinct ones of the roots before that number.
pub record AreDistinct (rs : List Path) (below : ℕ) (ns : List ℕ) : Type 0 where
  pub ascending : (k l m n : ℕ) → k < l → slice_get ns k ≡ Some m → slice_get ns l ≡ Some n → m < n
  pub within : (k n : ℕ) → slice_get ns k ≡ Some n → n < below
  pub each : (i : ℕ) (r : Path) → i < below → slice_get rs i ≡ Some r
      → (k n : ℕ) × (slice_get ns k ≡ Some n) × (n ≤ i) × (slice_get rs n ≡ Some r)

pub distinct-roots : (rs : List Path) (below : ℕ) (ns : List ℕ) → length rs ≤ below → below ≤ length rs → AreDistinct rs below ns → AreDistinctRoots rs ns
distinct-roots rs below ns all few are = record {
  ascending = are.ascending;
  within = λ k n at. let l = are.within k n at in omega (arith, l, few);
  each = λ i r at. let l = slice_get_within rs i r at in are.each i r (omega (arith, l, all)) at;
}

abbrev pub itself : Path → Path
itself r = r

-- One root more, which was there before or was not.
pub distinct-old : (rs : List Path) (n : ℕ) (ns : List ℕ) (x : Path) (own : Bor Path) (has : Bor Path → Bool) → slice_get rs n ≡ Some x → own.now ≡ x → AreKeys itself rs n has
    → has own ≡ true → AreDistinct rs n ns → AreDistinct rs (n + 1) ns
distinct-old rs n ns x own has at is keys there are = record {
  ascending = are.ascending;
  within = λ k m here. let l = are.within k m here in omega (arith, l);
  each = λ i r l here.
      ⊎_elim
      (λ less. are.each i r less here)
      (λ same.
      let w = (keys own).0 there in
      let equal : w.1 ≡ r = w.4 ∙ (is ∙ same_Some x r (sym at ∙ (ap (slice_get rs) (sym same) ∙ here))) in
      let v = are.each w.0 r w.2 (w.3 ∙ ap Some equal) in
      let a : w.0 < n = w.2 in
      let b : v.1 ≤ w.0 = v.3 in
      (v.0, v.1, v.2, omega (arith, a, b, same), v.4))
      (less-or-same i n l);
}

pub distinct-new : (rs : List Path) (n : ℕ) (ns ms : List ℕ) → ms ≡ ns ++ n ∷ [] → AreDistinct rs n ns → AreDistinct rs (n + 1) ms
distinct-new rs n ns ms is are = subst (AreDistinct rs (n + 1)) (sym is) (record {
  ascending = up;
  within = λ k m at. ⊎_elim (λ old. let l = are.within k m old in omega (arith, l)) (λ new. let e = new.1 in omega (arith, e)) (snoc-cases ns n m k at);
  each = λ i r l at.
      ⊎_elim
      (λ less. let v = are.each i r less at in (v.0, v.1, snoc-old ns n v.1 v.0 v.2, v.3, v.4))
      (λ same. (length ns, n, snoc-new ns n, omega (arith, same), ap (slice_get rs) (sym same) ∙ at))
      (less-or-same i n l);
})
  where
    up : (k l m o : ℕ) → k < l → slice_get (ns ++ n ∷ []) k ≡ Some m → slice_get (ns ++ n ∷ []) l ≡ Some o → m < o
    up k l m o kl at_m at_o = go (snoc-cases ns n m k at_m) (snoc-cases ns n o l at_o)
      where
        go : (slice_get ns k ≡ Some m) ⊎ ((k ≡ length ns) × (n ≡ m)) → (slice_get ns l ≡ Some o) ⊎ ((l ≡ length ns) × (n ≡ o)) → m < o
        go (inl a) (inl b) = are.ascending k l m o kl a b
        go (inl a) (inr b) = let w = are.within k m a in let e = b.1 in omega (arith, w, e)
        go (inr a) (inl b) = let w = slice_get_within ns l o b in let e = a.0 in absurd (omega (arith, w, e, kl))
        go (inr a) (inr b) = let e = a.0 in let f = b.0 in absurd (omega (arith, e, f, kl))

-- None of the distinct roots after one, before another, is nested with it.
abbrev pub NoneAfter : List Path → List ℕ → ℕ → ℕ → Type 0
NoneAfter rs ns k below = (l : ℕ) → k < l → l < below → AreNestedAt rs ns k l → ⊥

pub none-after-more : (rs : List Path) (ns : List ℕ) (k n : ℕ) → (AreNestedAt rs ns k n → ⊥) → NoneAfter rs ns k n → NoneAfter rs ns k (n + 1)
none-after-more rs ns k n here before l below h are = ⊎_elim (λ less. before l below less are) (λ same. here (subst (λ (j : ℕ). AreNestedAt rs ns k j) same are)) (less-or-same l n h)

pub none-at : (rs : List Path) (ns : List ℕ) (k l m n : ℕ) (p q : Path) → slice_get ns k ≡ Some m → slice_get ns l ≡ Some n → slice_get rs m ≡ Some p → slice_get rs n ≡ Some q
    → is_nested p q ≡ false → AreNestedAt rs ns k l → ⊥
none-at rs ns k l m n p q at_m at_n at_p at_q apart h =
    let is_m : h.0 ≡ m = same_Some h.0 m (sym h.2 ∙ at_m) in
    let is_n : h.1 ≡ n = same_Some h.1 n (sym h.3 ∙ at_n) in
    let is_p : h.4.first ≡ p = same_Some h.4.first p (sym h.4.at_first ∙ (ap (slice_get rs) is_m ∙ at_p)) in
    let is_q : h.4.second ≡ q = same_Some h.4.second q (sym h.4.at_second ∙ (ap (slice_get rs) is_n ∙ at_q)) in
    false≢true (sym apart ∙ ((λ i. is_nested (sym is_p i) (sym is_q i)) ∙ h.4.nested))

pub all-after : (rs : List Path) (ns : List ℕ) (k n : ℕ) → length ns ≤ n → NoneAfter rs ns k n → NoneNestedAfter rs ns k
all-after rs ns k n long none l below h = let w = slice_get_within ns l h.1 h.3 in none l below (omega (arith, w, long)) h

pub roots-more : (rs : List Path) (n : ℕ) (x : Path) (own : Bor Path) (old new : Bor Path → Bool) → slice_get rs n ≡ Some x → own.now ≡ x
    → ((q : Bor Path) → new q ≡ cond (is_eq (path_cmp own.now q.now)) true (old q)) → AreKeys itself rs n old → AreKeys itself rs (n + 1) new
roots-more rs n x own old new at is updates are = keys-more itself rs path_cmp path_cmp-exact path_cmp-total n x own old new at is updates are

-- What is read at a number.
pub number-at : (ns : List ℕ) (k : ℕ) → k < length ns → slice_get ns k ≡ Some (get_or ns k 0)
number-at ns k l = slice_get_read ns _ k (get_or ns k 0) refl l (get_or_default ns k 0 (get_or ns k 0) l)

pub root-at : (rs : List Path) (ns : List ℕ) (k : ℕ) (p : Path) → AreDistinctRoots rs ns → k < length ns → p ≡ get_or rs (get_or ns k 0) p → slice_get rs (get_or ns k 0) ≡ Some p
root-at rs ns k p are l is = slice_get_read rs _ (get_or ns k 0) p refl (are.within k (get_or ns k 0) (number-at ns k l)) is

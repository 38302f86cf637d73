-- Which paths of a list in order are near a path.
use Rattle.std.proofs.Common.{◌≡◌, ◌∙◌, ◌⊎◌, inl, inr, ℕ, zero, suc, ◌+◌, ◌<◌, ◌≤◌, arith, length, drop, get_or, Bool, true, false, not, ◌||◌, List, [], ◌∷◌, refl, sym, ap, subst}
use Rattle.std.specs.Prelude.{IsTrue}
use Rattle.std.specs.List.{list_all, list_any}
use Rattle.std.specs.List.Sorted.{IsPermutation, IsSortedBy}
use Rattle.std.specs.Cmp.{IsStrictWeakOrder}
use Rattle.std.specs.Ordering.{is_lt, ordering_then, ordering_reverse}
use Rattle.std.specs.declared.cmp.Ordering.{Ordering}
use Rattle.std.specs.declared.cmp.Ordering.TheVariants.{Less, Equal, Greater}
use Rattle.std.proofs.lemmas.Bool.{and_parts, and_from, false_from_ne_true, false≢true}
use Rattle.std.proofs.lemmas.Cmp.{tied_itself}
use Rattle.std.proofs.lemmas.List.Sorted.{ranks_by, sorted_far, list_any-IsPermutation, IsPermutation-map}
use denote.Ref.{Bor}
use Rattle.hub_text.specs.laws.List.{next-drop}
use Rattle.hub_text.specs.laws.Test.{any-alike, any-false, any-or}
use Rattle.hub_path.specs.Path.{Name, Path, is_over, name_cmp, name_eq, path_cmp, path_eq}
use Rattle.hub_path.specs.laws.General.{is_over-reflexive, name_cmp-exact, name_cmp-total, name_eq-decides, path_cmp-over, path_cmp-total, path_eq-decides}
use Rattle.hub_reach.specs.Apart.{are_near, is_near, is_near_one}
use Rattle.hub_cert.specs.Nearness.{AreSorted, are_in_order, is_first_over, paths_at}

-- By the first names m of q, n of p and r: m isn't less than n, nor n less than m.
by-first : (n m : Name) (c d o : Ordering) → name_cmp m n ≡ o → is_lt (ordering_then (name_cmp m n) c) ≡ false
    → is_lt (ordering_then (name_cmp n m) d) ≡ false → (name_eq n m ≡ true) × (is_lt c ≡ false) × (is_lt d ≡ false)
by-first n m c d Less e h k = cc
by-first n m c d Equal e h k =
    let same = name_cmp-exact m n e in
    let turned : name_cmp n m ≡ Equal = name_cmp-total.antisymm n m ∙ ap ordering_reverse e in
    ((name_eq-decides n m).1 (sym same), sym (ap (λ x. is_lt (ordering_then x c)) e) ∙ h, sym (ap (λ x. is_lt (ordering_then x d)) turned) ∙ k)
by-first n m c d Greater e h k =
    let turned : name_cmp n m ≡ Less = name_cmp-total.antisymm n m ∙ ap ordering_reverse e in cc

-- In the order of paths, only paths below a path come between it and one below it.
between : (p q r : Path) → is_lt (path_cmp q p) ≡ false → is_lt (path_cmp r q) ≡ false → IsTrue (is_over p r) → IsTrue (is_over p q)
between [] q r h k over = refl
between (n ∷ p) [] r h k over = cc
between (n ∷ p) (m ∷ q) [] h k over = cc
between (n ∷ p) (m ∷ q) (l ∷ r) h k over =
    let heads = and_parts (name_eq n l) (is_over p r) over in
    let e : n ≡ l = (name_eq-decides n l).0 heads.0 in
    let first = by-first n m (path_cmp q p) (path_cmp r q) (name_cmp m n) refl h
    (subst (λ x. is_lt (ordering_then (name_cmp x m) (path_cmp r q)) ≡ false) (sym e) k) in
    and_from (name_eq n m) (is_over p q) first.0 (between p q r first.1 first.2 heads.1)

strict : IsStrictWeakOrder (λ (p q : Path). is_lt (path_cmp p q))
strict = ranks_by path_cmp-total (λ (p : Path). p)

-- A path that is over another one and doesn't come before it is the same.
over-late : (p q : Path) → is_over p q ≡ true → is_lt (path_cmp p q) ≡ false → p ≡ q
over-late p q over late = go (path_eq p q) refl
  where
    go : (b : Bool) → path_eq p q ≡ b → p ≡ q
    go true e = (path_eq-decides p q).0 e
    go false e =
        let less : path_cmp p q ≡ Less = path_cmp-over p q over (λ same. false≢true (sym e ∙ (path_eq-decides p q).1 same)) in
        absurd (false≢true (sym late ∙ ap is_lt less))

-- s comes first, then t, then r: if s and r are near, then s is over t.
near-late : (s t r : Path) → is_lt (path_cmp t s) ≡ false → is_lt (path_cmp r t) ≡ false → is_near s r ≡ true → is_over s t ≡ true
near-late s t r h k near = go (is_over s r) refl near
  where
    go : (b : Bool) → is_over s r ≡ b → (b || is_over r s) ≡ true → is_over s t ≡ true
    go true e near = between s t r h k e
    go false e near =
        let same : r ≡ s = over-late r s near (strict.chain r t s k h) in
        between s t r h k (subst (λ (x : Path). IsTrue (is_over s x)) (sym same) (is_over-reflexive s))

none-late : (s t : Path) (rs : List Path) → is_lt (path_cmp t s) ≡ false → is_over s t ≡ false → list_all (λ r. not (is_lt (path_cmp r t))) rs ≡ true
    → list_any (is_near s) rs ≡ false
none-late s t [] h e late = refl
none-late s t (r ∷ rs) h e late =
    let parts = and_parts (not (is_lt (path_cmp r t))) (list_all (λ q. not (is_lt (path_cmp q t))) rs) late in
    let first : is_near s r ≡ false = false_from_ne_true (is_near s r) (λ near. false≢true (sym e ∙ near-late s t r h (turned (is_lt (path_cmp r t)) parts.0) near)) in
    ap (λ b. b || list_any (is_near s) rs) first ∙ none-late s t rs h e parts.1
  where
    turned : (b : Bool) → not b ≡ true → b ≡ false
    turned true h = cc
    turned false h = refl

-- A path that comes no later than the first one of a list in order is near one of them exactly when it is over that first one.
first-near : (s t : Path) (ts : List Path) → is_lt (path_cmp t s) ≡ false → are_in_order (t ∷ ts) ≡ true → is_near_one s (t ∷ ts) ≡ is_over s t
first-near s t ts h order = go (is_over s t) refl
  where
    go : (b : Bool) → is_over s t ≡ b → is_near_one s (t ∷ ts) ≡ b
    go true e = ap (λ b. (b || is_over t s) || list_any (is_near s) ts) e
    go false e =
        let itself : not (is_lt (path_cmp t t)) ≡ true = ap (λ o. not (is_lt o)) (tied_itself path_cmp-total t) in
        let parts = and_parts (list_all (λ q. not (is_lt (path_cmp q t))) ts) (are_in_order ts) order in
        none-late s t (t ∷ ts) h e (and_from (not (is_lt (path_cmp t t))) (list_all (λ q. not (is_lt (path_cmp q t))) ts) itself parts.0)

-- Nearness goes both ways.
or-turned : (a b : Bool) → (a || b) ≡ (b || a)
or-turned true true = refl
or-turned true false = refl
or-turned false true = refl
or-turned false false = refl

pub near-turned : (ss ts : List Path) → are_near ss ts ≡ are_near ts ss
near-turned [] ts = any-false ts
near-turned (s ∷ ss) ts =
    ap (λ b. is_near_one s ts || b) (near-turned ss ts)
    ∙ (ap (λ b. b || are_near ts ss) (any-alike (is_near s) (λ t. is_near t s) ts (λ t. or-turned (is_over s t) (is_over t s)))
    ∙ any-or (λ t. is_near t s) (λ t. is_near_one t ss) ts)

-- One step through two lists in order.
stepped : (s t : Path) (ss ts : List Path) → is_lt (path_cmp t s) ≡ false → are_in_order (t ∷ ts) ≡ true
    → are_near (s ∷ ss) (t ∷ ts) ≡ (is_over s t || are_near ss (t ∷ ts))
stepped s t ss ts h order = ap (λ b. b || are_near ss (t ∷ ts)) (first-near s t ts h order)

pub step-first : (s t : Path) (ss ts : List Path) → is_lt (path_cmp t s) ≡ false → are_in_order (t ∷ ts) ≡ true
    → is_over s t ≡ false → are_near ss (t ∷ ts) ≡ are_near (s ∷ ss) (t ∷ ts)
step-first s t ss ts h order e = sym (stepped s t ss ts h order ∙ ap (λ b. b || are_near ss (t ∷ ts)) e)

pub step-second : (s t : Path) (ss ts : List Path) → is_lt (path_cmp t s) ≡ true → are_in_order (s ∷ ss) ≡ true
    → is_over t s ≡ false → are_near (s ∷ ss) ts ≡ are_near (s ∷ ss) (t ∷ ts)
step-second s t ss ts h order e =
    near-turned (s ∷ ss) ts ∙ (step-first t s ts ss (strict.one_way t s h) order e ∙ near-turned (t ∷ ts) (s ∷ ss))

pub found-over : (s t : Path) (ss ts : List Path) (later : Bool) → is_first_over s t later ≡ true → are_near (s ∷ ss) (t ∷ ts) ≡ true
found-over s t ss ts true e =
    ap (λ b. (b || list_any (is_near s) ts) || are_near ss (t ∷ ts)) (ap (λ b. is_over s t || b) e ∙ or-turned (is_over s t) true)
found-over s t ss ts false e =
    ap (λ b. ((b || is_over t s) || list_any (is_near s) ts) || are_near ss (t ∷ ts)) e

-- Sorted lists are near exactly when the lists are.
pub near-sorted : (ps qs us vs : List Path) → AreSorted ps us → AreSorted qs vs → are_near us vs ≡ are_near ps qs
near-sorted ps qs us vs first second =
    sym (list_any-IsPermutation (λ p. is_near_one p vs) ps us first.same)
    ∙ any-alike (λ p. is_near_one p vs) (λ p. is_near_one p qs) ps (λ p. sym (list_any-IsPermutation (is_near p) qs vs second.same))

-- Paths that a sort has put in order.
rising : (ps : List Path) → ((i j : ℕ) (d : Path) → i ≤ j → j < length ps → is_lt (path_cmp (get_or ps j d) (get_or ps i d)) ≡ false) → are_in_order ps ≡ true
rising [] up = refl
rising (p ∷ ps) up =
    and_from (list_all (λ q. not (is_lt (path_cmp q p))) ps) (are_in_order ps)
    (all-late p ps (λ j d within. up 0 (suc j) d (omega arith) (omega (arith, within))))
    (rising ps (λ i j d least within. up (suc i) (suc j) d (omega (arith, least)) (omega (arith, within))))
  where
    all-late : (p : Path) (qs : List Path) → ((j : ℕ) (d : Path) → j < length qs → is_lt (path_cmp (get_or qs j d) p) ≡ false)
        → list_all (λ q. not (is_lt (path_cmp q p))) qs ≡ true
    all-late p [] up = refl
    all-late p (q ∷ qs) up =
        and_from (not (is_lt (path_cmp q p))) (list_all (λ r. not (is_lt (path_cmp r p))) qs)
        (ap not (up 0 q (omega arith)))
        (all-late p qs (λ j d within. up (suc j) d (omega (arith, within))))

sorted-rising : (ps : List Path) → IsSortedBy (λ (p q : Path). is_lt (path_cmp p q)) ps → are_in_order ps ≡ true
sorted-rising ps up = rising ps (λ i j d least within. sorted_far (λ (p q : Path). is_lt (path_cmp p q)) strict ps up i j d least within)

-- The same of references to them.
at-place : (rs : List (Bor Path)) (k : ℕ) → k < length (paths_at rs)
    → (r : Bor Path) × ((d : Path) → get_or (paths_at rs) k d ≡ r.now) × ((e : Bor Path) → get_or rs k e ≡ r)
at-place [] k within = absurd (omega (arith, within))
at-place (r ∷ rs) zero within = (r, λ d. refl, λ e. refl)
at-place (r ∷ rs) (suc k) within = at-place rs k (omega (arith, within))

same-length : (rs : List (Bor Path)) → length (paths_at rs) ≡ length rs
same-length [] = refl
same-length (r ∷ rs) = ap suc (same-length rs)

late-at : (rs : List (Bor Path)) → IsSortedBy (λ (r s : Bor Path). is_lt (path_cmp r.now s.now)) rs → IsSortedBy (λ (p q : Path). is_lt (path_cmp p q)) (paths_at rs)
late-at rs up k d low high =
    let next = at-place rs (k + 1) high in
    let here = at-place rs k (omega (arith, high)) in
    let up_here = up k here.0 low (subst (λ (n : ℕ). k + 1 < n) (same-length rs) high) in
    ap (λ (p : Path). is_lt (path_cmp p (get_or (paths_at rs) k d))) (next.1 d)
    ∙ (ap (λ (p : Path). is_lt (path_cmp next.0.now p)) (here.1 d)
    ∙ (sym (ap (λ (r : Bor Path). is_lt (path_cmp r.now here.0.now)) (next.2 here.0))
    ∙ (sym (ap (λ (r : Bor Path). is_lt (path_cmp (get_or rs (k + 1) here.0).now r.now)) (here.2 here.0)) ∙ up_here)))

pub are-sorted : (ps : List Path) (rs ss : List (Bor Path)) → paths_at rs ≡ ps → IsPermutation rs ss → IsSortedBy (λ (r s : Bor Path). is_lt (path_cmp r.now s.now)) ss
    → AreSorted ps (paths_at ss)
are-sorted ps rs ss is moved up = record {
  same = subst (λ (qs : List Path). IsPermutation qs (paths_at ss)) is (IsPermutation-map (λ (r : Bor Path). r.now) rs ss moved);
  order = sorted-rising (paths_at ss) (late-at ss up);
}

-- What is left of two lists in order, from these places on, is near exactly when the lists are.
pub record AreMerged (us vs : List (Bor Path)) (i j : ℕ) : Type 0 where
  pub first : i ≤ length us
  pub second : j ≤ length vs
  pub these : are_in_order (paths_at (drop i us)) ≡ true
  pub those : are_in_order (paths_at (drop j vs)) ≡ true
  pub same : are_near (paths_at (drop i us)) (paths_at (drop j vs)) ≡ are_near (paths_at us) (paths_at vs)

pub merged-start : (us vs : List (Bor Path)) → are_in_order (paths_at us) ≡ true → are_in_order (paths_at vs) ≡ true → AreMerged us vs 0 0
merged-start us vs first second = record { first = omega arith; second = omega arith; these = first; those = second; same = refl }

in-rest : (p : Path) (ps : List Path) → are_in_order (p ∷ ps) ≡ true → are_in_order ps ≡ true
in-rest p ps order = (and_parts (list_all (λ q. not (is_lt (path_cmp q p))) ps) (are_in_order ps) order).1

pub merged-first : (us vs : List (Bor Path)) (i j : ℕ) (u v : Bor Path) → AreMerged us vs i j → i < length us → u ≡ get_or us i u
    → j < length vs → v ≡ get_or vs j v → is_lt (path_cmp v.now u.now) ≡ false → is_over u.now v.now ≡ false → AreMerged us vs (i + 1) j
merged-first us vs i j u v m below at within is later apart =
    let rest : List (Bor Path) = drop (i + 1) us in
    let others : List (Bor Path) = drop (j + 1) vs in
    let one : drop i us ≡ u ∷ rest = next-drop us i u below at in
    let other : drop j vs ≡ v ∷ others = next-drop vs j v within is in
    let these : are_in_order (u.now ∷ paths_at rest) ≡ true = sym (ap (λ (rs : List (Bor Path)). are_in_order (paths_at rs)) one) ∙ m.these in
    let those : are_in_order (v.now ∷ paths_at others) ≡ true = sym (ap (λ (rs : List (Bor Path)). are_in_order (paths_at rs)) other) ∙ m.those in
    record {
      first = omega (arith, below);
      second = m.second;
      these = in-rest u.now (paths_at rest) these;
      those = m.those;
      same = ap (λ (rs : List (Bor Path)). are_near (paths_at rest) (paths_at rs)) other
          ∙ (step-first u.now v.now (paths_at rest) (paths_at others) later those apart
          ∙ (sym (ap (λ (rs : List (Bor Path)). are_near (u.now ∷ paths_at rest) (paths_at rs)) other)
          ∙ (sym (ap (λ (rs : List (Bor Path)). are_near (paths_at rs) (paths_at (drop j vs))) one) ∙ m.same)));
    }

pub merged-second : (us vs : List (Bor Path)) (i j : ℕ) (u v : Bor Path) → AreMerged us vs i j → i < length us → u ≡ get_or us i u
    → j < length vs → v ≡ get_or vs j v → is_lt (path_cmp v.now u.now) ≡ true → is_over v.now u.now ≡ false → AreMerged us vs i (j + 1)
merged-second us vs i j u v m below at within is later apart =
    let rest : List (Bor Path) = drop (i + 1) us in
    let others : List (Bor Path) = drop (j + 1) vs in
    let one : drop i us ≡ u ∷ rest = next-drop us i u below at in
    let other : drop j vs ≡ v ∷ others = next-drop vs j v within is in
    let these : are_in_order (u.now ∷ paths_at rest) ≡ true = sym (ap (λ (rs : List (Bor Path)). are_in_order (paths_at rs)) one) ∙ m.these in
    let those : are_in_order (v.now ∷ paths_at others) ≡ true = sym (ap (λ (rs : List (Bor Path)). are_in_order (paths_at rs)) other) ∙ m.those in
    record {
      first = m.first;
      second = omega (arith, within);
      these = m.these;
      those = in-rest v.now (paths_at others) those;
      same = ap (λ (rs : List (Bor Path)). are_near (paths_at rs) (paths_at others)) one
          ∙ (step-second u.now v.now (paths_at rest) (paths_at others) later these apart
          ∙ (sym (ap (λ (rs : List (Bor Path)). are_near (u.now ∷ paths_at rest) (paths_at rs)) other)
          ∙ (sym (ap (λ (rs : List (Bor Path)). are_near (paths_at rs) (paths_at (drop j vs))) one) ∙ m.same)));
    }

pub merged-found : (us vs : List (Bor Path)) (i j : ℕ) (u v : Bor Path) (later : Bool) → AreMerged us vs i j → i < length us → u ≡ get_or us i u
    → j < length vs → v ≡ get_or vs j v → is_first_over u.now v.now later ≡ true → true ≡ are_near (paths_at us) (paths_at vs)
merged-found us vs i j u v later m below at within is found =
    let one : drop i us ≡ u ∷ drop (i + 1) us = next-drop us i u below at in
    let other : drop j vs ≡ v ∷ drop (j + 1) vs = next-drop vs j v within is in
    sym (found-over u.now v.now (paths_at (drop (i + 1) us)) (paths_at (drop (j + 1) vs)) later found)
    ∙ (sym (ap (λ (rs : List (Bor Path)). are_near (u.now ∷ paths_at (drop (i + 1) us)) (paths_at rs)) other)
    ∙ (sym (ap (λ (rs : List (Bor Path)). are_near (paths_at rs) (paths_at (drop j vs))) one) ∙ m.same))

gone : {X : Type 0} (xs : List X) (n : ℕ) → length xs ≤ n → drop n xs ≡ []
gone [] zero h = refl
gone [] (suc n) h = refl
gone (x ∷ xs) zero h = absurd (omega (arith, h))
gone (x ∷ xs) (suc n) h = gone xs n (omega (arith, h))

pub merged-end : (us vs : List (Bor Path)) (i j : ℕ) → AreMerged us vs i j → (length us ≤ i) ⊎ (length vs ≤ j) → false ≡ are_near (paths_at us) (paths_at vs)
merged-end us vs i j m (inl h) =
    sym (ap (λ (rs : List (Bor Path)). are_near (paths_at rs) (paths_at (drop j vs))) (gone us i h)) ∙ m.same
merged-end us vs i j m (inr h) =
    any-false (paths_at (drop i us))
    ∙ (sym (ap (λ (rs : List (Bor Path)). are_near (paths_at (drop i us)) (paths_at rs)) (gone vs j h)) ∙ m.same)

-- Which pairs of profiles are among those that share an archive.
use Rattle.std.proofs.Common.{◌≡◌, ◌≢◌, ◌∙◌, ◌⊎◌, ⊎_elim, inl, inr, ◌<◌, ◌+◌, ◌||◌, ℕ, zero, suc, Bool, true, false, cond, List, [], ◌∷◌, ◌++◌, Option, Some, None, refl, sym, ap, subst, arith}
use Rattle.std.specs.Prelude.{Contains, slice_get}
use Rattle.std.proofs.lemmas.Bool.{or_right}
use Rattle.std.proofs.lemmas.Option.{none-some, same_Some}
use Rattle.hub_text.specs.laws.List.{cons-cases, cons-here, cons-there}
use Rattle.hub_profile.specs.Parts.{Parts}
use Rattle.hub_reach.specs.Safe.{share_archive}
use Rattle.hub_unison.specs.Shared.{ShareNoArchive, is_shared, pairs_from, pairs_with, shared_pairs}

-- Items of a list are items of it with others.
before-others : {X : Type 0} (xs ys : List X) (x : X) → Contains xs x → Contains (xs ++ ys) x
before-others [] ys x has = absurd (omega (arith, has.1))
before-others (z ∷ xs) ys x has = ⊎_elim
    (λ here. cons-here z x (xs ++ ys) here)
    (λ there. cons-there z x (xs ++ ys) (before-others xs ys x there))
    (cons-cases z x xs has)

pub behind-others : {X : Type 0} (xs ys : List X) (x : X) → Contains ys x → Contains (xs ++ ys) x
behind-others [] ys x has = has
behind-others (z ∷ xs) ys x has = cons-there z x (xs ++ ys) (behind-others xs ys x has)

-- Each two profiles that share an archive are among the pairs: one with later ones,
with-each : (i j k : ℕ) (P Q : Parts) (Qs : List Parts) → slice_get Qs k ≡ Some Q → is_shared P Q ≡ true → Contains (pairs_with i P j Qs) (i, j + k)
with-each i j k P Q [] at is = absurd (none-some Q at)
with-each i j zero P Q (R ∷ Qs) at is =
    let same : R ≡ Q = same_Some R Q at in
    let zeroth : j ≡ j + 0 = omega arith in
    subst (λ b. Contains (cond b ((i, j) ∷ []) [] ++ pairs_with i P (j + 1) Qs) (i, j + 0)) (sym (ap (is_shared P) same ∙ is))
    (cons-here (i, j) (i, j + 0) (pairs_with i P (j + 1) Qs) (ap (λ (n : ℕ). (i, n)) zeroth))
with-each i j (suc k) P Q (R ∷ Qs) at is =
    let next : (j + 1) + k ≡ j + suc k = omega arith in
    behind-others (cond (is_shared P R) ((i, j) ∷ []) []) (pairs_with i P (j + 1) Qs) (i, j + suc k)
    (subst (λ (n : ℕ). Contains (pairs_with i P (j + 1) Qs) (i, n)) next (with-each i (j + 1) k P Q Qs at is))

-- and all of them.
all-from : (a i j : ℕ) (P Q : Parts) (Ps : List Parts) → i < j → slice_get Ps i ≡ Some P → slice_get Ps j ≡ Some Q → is_shared P Q ≡ true
    → Contains (pairs_from a Ps) (a + i, a + j)
all-from a i j P Q [] l at_i at_j is = absurd (none-some P at_i)
all-from a i zero P Q (R ∷ Ps) l at_i at_j is = absurd (omega (arith, l))
all-from a zero (suc j) P Q (R ∷ Ps) l at_i at_j is =
    let same : P ≡ R = sym (same_Some R P at_i) in
    let first : a ≡ a + 0 = omega arith in
    let second : (a + 1) + j ≡ a + suc j = omega arith in
    before-others (pairs_with a R (a + 1) Ps) (pairs_from (a + 1) Ps) (a + 0, a + suc j)
    (subst (λ (n : ℕ). Contains (pairs_with a R (a + 1) Ps) (n, a + suc j)) first
    (subst (λ (n : ℕ). Contains (pairs_with a R (a + 1) Ps) (a, n)) second
    (with-each a (a + 1) j R Q Ps at_j (subst (λ S. is_shared S Q ≡ true) same is))))
all-from a (suc i) (suc j) P Q (R ∷ Ps) l at_i at_j is =
    let first : (a + 1) + i ≡ a + suc i = omega arith in
    let second : (a + 1) + j ≡ a + suc j = omega arith in
    behind-others (pairs_with a R (a + 1) Ps) (pairs_from (a + 1) Ps) (a + suc i, a + suc j)
    (subst (λ (n : ℕ). Contains (pairs_from (a + 1) Ps) (n, a + suc j)) first
    (subst (λ (n : ℕ). Contains (pairs_from (a + 1) Ps) ((a + 1) + i, n)) second
    (all-from (a + 1) i j P Q Ps (omega (arith, l)) at_i at_j is)))

pub all-shared : (Ps : List Parts) (i j : ℕ) (P Q : Parts) → i < j → slice_get Ps i ≡ Some P → slice_get Ps j ≡ Some Q → is_shared P Q ≡ true
    → Contains (shared_pairs Ps) (i, j)
all-shared Ps i j P Q l at_i at_j is =
    let first : 0 + i ≡ i = omega arith in
    let second : 0 + j ≡ j = omega arith in
    subst (λ (n : ℕ). Contains (shared_pairs Ps) (n, j)) first
    (subst (λ (n : ℕ). Contains (shared_pairs Ps) (0 + i, n)) second (all-from 0 i j P Q Ps l at_i at_j is))

-- A pair of places, counted from here on, of which the profiles share an archive.
pub record IsPairFrom (a : ℕ) (Ps : List Parts) (x : ℕ × ℕ) : Type 0 where
  pub i : ℕ
  pub j : ℕ
  pub P : Parts
  pub Q : Parts
  pub is : x ≡ (a + i, a + j)
  pub before : i < j
  pub at_first : slice_get Ps i ≡ Some P
  pub at_second : slice_get Ps j ≡ Some Q
  pub shared : is_shared P Q ≡ true

record IsPairWith (i : ℕ) (P : Parts) (j : ℕ) (Qs : List Parts) (x : ℕ × ℕ) : Type 0 where
  k : ℕ
  Q : Parts
  is : x ≡ (i, j + k)
  at : slice_get Qs k ≡ Some Q
  shared : is_shared P Q ≡ true

-- The first pair is one: of one with later ones,
first-with : (i j : ℕ) (P : Parts) (Qs : List Parts) (more : List (ℕ × ℕ)) (x : ℕ × ℕ) (later : List (ℕ × ℕ)) → pairs_with i P j Qs ++ more ≡ x ∷ later
    → IsPairWith i P j Qs x ⊎ (more ≡ x ∷ later)
first-with i j P [] more x later e = inr e
first-with i j P (R ∷ Qs) more x later e = go (is_shared P R) refl e (λ f. first-with i (j + 1) P Qs more x later f)
  where
    next : IsPairWith i P (j + 1) Qs x ⊎ (more ≡ x ∷ later) → IsPairWith i P j (R ∷ Qs) x ⊎ (more ≡ x ∷ later)
    next (inl w) =
        let same : (j + 1) + w.k ≡ j + suc w.k = omega arith in
        inl (record { k = suc w.k; Q = w.Q; is = w.is ∙ ap (λ (n : ℕ). (i, n)) same; at = w.at; shared = w.shared })
    next (inr f) = inr f

    go : (b : Bool) → is_shared P R ≡ b → (cond b ((i, j) ∷ []) [] ++ pairs_with i P (j + 1) Qs) ++ more ≡ x ∷ later
        → (pairs_with i P (j + 1) Qs ++ more ≡ x ∷ later → IsPairWith i P (j + 1) Qs x ⊎ (more ≡ x ∷ later)) → IsPairWith i P j (R ∷ Qs) x ⊎ (more ≡ x ∷ later)
    go true is f rest =
        let same : (i, j) ≡ x = cc in
        let zeroth : j ≡ j + 0 = omega arith in
        inl (record { k = 0; Q = R; is = sym same ∙ ap (λ (n : ℕ). (i, n)) zeroth; at = refl; shared = is })
    go false is f rest = next (rest f)

-- and of all.
first-from : (a : ℕ) (Ps : List Parts) (x : ℕ × ℕ) (later : List (ℕ × ℕ)) → pairs_from a Ps ≡ x ∷ later → IsPairFrom a Ps x
first-from a [] x later e = cc
first-from a (P ∷ Ps) x later e = go (first-with a (a + 1) P Ps (pairs_from (a + 1) Ps) x later e) (λ f. first-from (a + 1) Ps x later f)
  where
    go : IsPairWith a P (a + 1) Ps x ⊎ (pairs_from (a + 1) Ps ≡ x ∷ later) → (pairs_from (a + 1) Ps ≡ x ∷ later → IsPairFrom (a + 1) Ps x) → IsPairFrom a (P ∷ Ps) x
    go (inl w) rest =
        let first : a ≡ a + 0 = omega arith in
        let second : (a + 1) + w.k ≡ a + suc w.k = omega arith in
        record {
          i = 0;
          j = suc w.k;
          P = P;
          Q = w.Q;
          is = w.is ∙ (λ t. (first t, second t));
          before = omega arith;
          at_first = refl;
          at_second = w.at;
          shared = w.shared;
        }
    go (inr f) rest =
        let w = rest f in
        let first : (a + 1) + w.i ≡ a + suc w.i = omega arith in
        let second : (a + 1) + w.j ≡ a + suc w.j = omega arith in
        let l = w.before in
        record {
          i = suc w.i;
          j = suc w.j;
          P = w.P;
          Q = w.Q;
          is = w.is ∙ (λ t. (first t, second t));
          before = omega (arith, l);
          at_first = w.at_first;
          at_second = w.at_second;
          shared = w.shared;
        }

-- The two profiles of the first pair.
pub record ArePair (Ps : List Parts) (x : ℕ × ℕ) : Type 0 where
  pub P : Parts
  pub Q : Parts
  pub before : x.0 < x.1
  pub at_first : slice_get Ps x.0 ≡ Some P
  pub at_second : slice_get Ps x.1 ≡ Some Q
  pub shared : is_shared P Q ≡ true

pub first-shared : (Ps : List Parts) (x : ℕ × ℕ) (later : List (ℕ × ℕ)) → shared_pairs Ps ≡ x ∷ later → ArePair Ps x
first-shared Ps x later e =
    let w = first-from 0 Ps x later e in
    let first : x.0 ≡ w.i = ap (λ (y : ℕ × ℕ). y.0) w.is ∙ omega arith in
    let second : x.1 ≡ w.j = ap (λ (y : ℕ × ℕ). y.1) w.is ∙ omega arith in
    let l = w.before in
    record {
      P = w.P;
      Q = w.Q;
      before = omega (arith, l, first, second);
      at_first = ap (slice_get Ps) first ∙ w.at_first;
      at_second = ap (slice_get Ps) second ∙ w.at_second;
      shared = w.shared;
    }

-- Of two different places one is the lower one.
pub two-places : (i j : ℕ) → i ≢ j → (i < j) ⊎ (j < i)
two-places zero zero differ = absurd (differ refl)
two-places zero (suc j) differ = inl (omega arith)
two-places (suc i) zero differ = inr (omega arith)
two-places (suc i) (suc j) differ = ⊎_elim (λ l. inl (omega (arith, l))) (λ l. inr (omega (arith, l))) (two-places i j (λ e. differ (ap suc e)))

pub first-roots : (P Q : Parts) → share_archive P Q ≡ true → is_shared P Q ≡ true
first-roots P Q is = ap (λ b. b || share_archive Q P) is

pub second-roots : (P Q : Parts) → share_archive P Q ≡ true → is_shared Q P ≡ true
second-roots P Q is = or_right (share_archive Q P) (share_archive P Q) is

-- Profiles of which no two that share an archive stand in a list share none.
pub no-archive : (Ps : List Parts) → ((i j : ℕ) (P Q : Parts) → i < j → slice_get Ps i ≡ Some P → slice_get Ps j ≡ Some Q → is_shared P Q ≡ true → ⊥) → ShareNoArchive Ps
no-archive Ps never = λ i j P Q at_i at_j other. go i j P Q at_i at_j (two-places i j other) (share_archive P Q) refl
  where
    go : (i j : ℕ) (P Q : Parts) → slice_get Ps i ≡ Some P → slice_get Ps j ≡ Some Q → (i < j) ⊎ (j < i) → (b : Bool) → share_archive P Q ≡ b → b ≡ false
    go i j P Q at_i at_j order false is = refl
    go i j P Q at_i at_j (inl l) true is = absurd (never i j P Q l at_i at_j (first-roots P Q is))
    go i j P Q at_i at_j (inr l) true is = absurd (never j i Q P l at_j at_i (second-roots P Q is))

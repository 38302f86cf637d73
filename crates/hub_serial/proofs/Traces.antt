-- Equivalent schedules leave the same.
use Rattle.std.proofs.Common.{◌≡◌, ◌≢◌, inl, inr, Bool, true, false, cond, ◌||◌, List, [], ◌∷◌, refl, ap, sym, ◌∙◌, subst, eq-eqb}
use Rattle.std.specs.Prelude.{◌⊎◌, ◌==◌, ℕ}
use Rattle.std.proofs.lemmas.Bool.{false≢true, or_left, or_right, false_from_ne_true}
use borrow.Author.Tests.{eqb-true}
use Rattle.hub_serial.specs.Schedule.{after_turns, turns_of_two, AreEquivalent}

pub itself : (i : ℕ) → (i == i) ≡ true
itself i = eq-eqb i i refl

pub apart : (i k : ℕ) → i ≢ k → (i == k) ≡ false
apart i k off = false_from_ne_true (i == k) (λ e. off (eqb-true i k e))

pub head_of : (d : ℕ) → List ℕ → ℕ
head_of d [] = d
head_of d (x ∷ xs) = x

pub tail_of : List ℕ → List ℕ
tail_of [] = []
tail_of (x ∷ xs) = xs

pub same_head : (x y : ℕ) (xs ys : List ℕ) → x ∷ xs ≡ y ∷ ys → x ≡ y
unfolding head_of
same_head x y xs ys e = ap (head_of 0) e

pub same_tail : (x y : ℕ) (xs ys : List ℕ) → x ∷ xs ≡ y ∷ ys → xs ≡ ys
unfolding tail_of
same_tail x y xs ys e = ap tail_of e

pub not_empty : (x : ℕ) (xs : List ℕ) → [] ≡ x ∷ xs → ⊥
not_empty x xs e = cc

-- A turn that passes the test is kept, any other isn't.
kept_if : (x : ℕ) (xs : List ℕ) (b : Bool) → b ≡ true → cond b (x ∷ xs) xs ≡ x ∷ xs
kept_if x xs true e = refl
kept_if x xs false e = absurd (false≢true e)

left_if : (x : ℕ) (xs : List ℕ) (b : Bool) → b ≡ false → cond b (x ∷ xs) xs ≡ xs
left_if x xs true e = absurd (false≢true (sym e))
left_if x xs false e = refl

pub same_rest : (x : ℕ) (xs ys : List ℕ) (b : Bool) → cond b (x ∷ xs) xs ≡ cond b (x ∷ ys) ys → xs ≡ ys
same_rest x xs ys true e = same_tail x x xs ys e
same_rest x xs ys false e = e

pub both_rest : (x : ℕ) (xs ys : List ℕ) (b : Bool) → xs ≡ ys → cond b (x ∷ xs) xs ≡ cond b (x ∷ ys) ys
both_rest x xs ys b e = ap (λ zs. cond b (x ∷ zs) zs) e

-- Two turns of which one isn't kept can be exchanged.
swapped : (x y : ℕ) (xs : List ℕ) (b c : Bool) → (b ≡ true → c ≡ true → ⊥)
    → cond b (x ∷ cond c (y ∷ xs) xs) (cond c (y ∷ xs) xs) ≡ cond c (y ∷ cond b (x ∷ xs) xs) (cond b (x ∷ xs) xs)
swapped x y xs true true h = absurd (h refl refl)
swapped x y xs true false h = refl
swapped x y xs false true h = refl
swapped x y xs false false h = refl

either_of : (i k t : ℕ) (b c : Bool) → (t == i) ≡ b → (t == k) ≡ c → (b || c) ≡ true → (t ≡ i) ⊎ (t ≡ k)
either_of i k t true c e f h = inl (eqb-true t i e)
either_of i k t false true e f h = inr (eqb-true t k f)
either_of i k t false false e f h = absurd (false≢true h)

pub one_of : (i k t : ℕ) → (t == i || t == k) ≡ true → (t ≡ i) ⊎ (t ≡ k)
one_of i k t h = either_of i k t (t == i) (t == k) refl refl h

pub is_first : (i k : ℕ) → (i == i || i == k) ≡ true
is_first i k = or_left (i == i) (i == k) (itself i)

pub is_second : (i k : ℕ) → (k == i || k == k) ≡ true
is_second i k = or_right (k == i) (k == k) (itself k)

module _ (Clashes : ℕ → ℕ → Type 0) (turned : (i k : ℕ) → Clashes i k → Clashes k i) where
  -- The schedule's turns of the job and of any that clashes with it begin with one of the job.
  abbrev Starts : ℕ → List ℕ → Type 0
  Starts j ks = (k : ℕ) → (j ≡ k) ⊎ Clashes j k → (xs : List ℕ) × (turns_of_two j k ks ≡ j ∷ xs)

  -- Two different jobs that don't clash aren't both among two that are the same or clash.
  not_both : (i l j k : ℕ) → (i ≡ l) ⊎ Clashes i l → j ≢ k → (Clashes j k → ⊥)
      → (j ≡ i) ⊎ (j ≡ l) → (k ≡ i) ⊎ (k ≡ l) → ⊥
  not_both i l j k (inl same) off free (inl a) (inl b) = off (a ∙ sym b)
  not_both i l j k (inl same) off free (inl a) (inr b) = off (a ∙ (same ∙ sym b))
  not_both i l j k (inl same) off free (inr a) (inl b) = off (a ∙ (sym same ∙ sym b))
  not_both i l j k (inl same) off free (inr a) (inr b) = off (a ∙ sym b)
  not_both i l j k (inr clash) off free (inl a) (inl b) = off (a ∙ sym b)
  not_both i l j k (inr clash) off free (inl a) (inr b) =
      free (subst (λ x. Clashes x k) (sym a) (subst (λ y. Clashes i y) (sym b) clash))
  not_both i l j k (inr clash) off free (inr a) (inl b) =
      free (turned k j (subst (λ x. Clashes x j) (sym b) (subst (λ y. Clashes i y) (sym a) clash)))
  not_both i l j k (inr clash) off free (inr a) (inr b) = off (a ∙ sym b)

  exchanged : (j k : ℕ) (xs : List ℕ) → j ≢ k → (Clashes j k → ⊥)
      → AreEquivalent Clashes (j ∷ k ∷ xs) (k ∷ j ∷ xs)
  exchanged j k xs off free i l h =
      swapped j k (turns_of_two i l xs) (j == i || j == l) (k == i || k == l)
      (λ a b. not_both i l j k h off free (one_of i l j a) (one_of i l k b))

  go_on : (j : ℕ) (xs ys : List ℕ) → AreEquivalent Clashes xs ys → AreEquivalent Clashes (j ∷ xs) (j ∷ ys)
  go_on j xs ys e i k h = both_rest j (turns_of_two i k xs) (turns_of_two i k ys) (j == i || j == k) (e i k h)

  rest_of : (j : ℕ) (xs ys : List ℕ) → AreEquivalent Clashes (j ∷ xs) (j ∷ ys) → AreEquivalent Clashes xs ys
  rest_of j xs ys e i k h = same_rest j (turns_of_two i k xs) (turns_of_two i k ys) (j == i || j == k) (e i k h)

  starts : (j : ℕ) (js ks : List ℕ) → AreEquivalent Clashes (j ∷ js) ks → Starts j ks
  starts j js ks e k h =
      (turns_of_two j k js, sym (e j k h) ∙ kept_if j (turns_of_two j k js) (j == j || j == k) (is_first j k))

  -- What comes first of another job that clashes isn't a turn of the job.
  free_of : (j k : ℕ) (ks : List ℕ) → j ≢ k → Starts j (k ∷ ks) → Clashes j k → ⊥
  free_of j k ks off s clash =
      let w = s k (inr clash) in
      off (sym (same_head k j (turns_of_two j k ks) w.0 (sym (kept_if k (turns_of_two j k ks) (k == j || k == k) (is_second j k)) ∙ w.1)))

  neither : (j k l : ℕ) → j ≢ k → (Clashes j k → ⊥) → (j ≡ l) ⊎ Clashes j l → (k ≡ j) ⊎ (k ≡ l) → ⊥
  neither j k l off free h (inl a) = off (sym a)
  neither j k l off free (inl same) (inr b) = off (same ∙ sym b)
  neither j k l off free (inr clash) (inr b) = free (subst (λ x. Clashes j x) (sym b) clash)

  starts_later : (j k : ℕ) (ks : List ℕ) → j ≢ k → Starts j (k ∷ ks) → Starts j ks
  starts_later j k ks off s l h =
      let free = free_of j k ks off s in
      let w = s l h in
      (w.0, sym (left_if k (turns_of_two j l ks) (k == j || k == l) (false_from_ne_true (k == j || k == l) (λ e. neither j k l off free h (one_of j l k e)))) ∙ w.1)

  module _ (W : Type 0) (turn : ℕ → W → W)
      (commute : (j k : ℕ) (w : W) → j ≢ k → (Clashes j k → ⊥) → turn j (turn k w) ≡ turn k (turn j w)) where
    -- The first turn of a job can be had first of all.
    abbrev Pulled : ℕ → List ℕ → Type 0
    Pulled j ks = (zs : List ℕ) × ((w : W) → after_turns turn ks w ≡ after_turns turn zs (turn j w)) × AreEquivalent Clashes (j ∷ zs) ks

    pull_by : (j k : ℕ) (ks : List ℕ) (b : Bool) → (k == j) ≡ b → Starts j (k ∷ ks) → (Starts j ks → Pulled j ks) → Pulled j (k ∷ ks)
    pull_by j k ks true e s more =
        let same : k ≡ j = eqb-true k j e in
        (ks, λ w. ap (λ x. after_turns turn ks (turn x w)) same, λ i l h. ap (λ x. turns_of_two i l (x ∷ ks)) (sym same))
    pull_by j k ks false e s more =
        let off : j ≢ k = λ same. false≢true (sym e ∙ (ap (λ x. k == x) same ∙ itself k)) in
        let free = free_of j k ks off s in
        let m = more (starts_later j k ks off s) in (
          k ∷ m.0,
          λ w. m.1 (turn k w) ∙ ap (after_turns turn m.0) (commute j k w off free),
          λ i l h. exchanged j k m.0 off free i l h ∙ go_on k (j ∷ m.0) ks m.2 i l h,
        )

    pull : (j : ℕ) (ks : List ℕ) → Starts j ks → Pulled j ks
    pull j [] s = absurd (not_empty j (s j (inl refl)).0 (s j (inl refl)).1)
    pull j (k ∷ ks) s = pull_by j k ks (k == j) refl s (pull j ks)

    pub same_left : (js ks : List ℕ) (w : W) → AreEquivalent Clashes js ks → after_turns turn js w ≡ after_turns turn ks w
    same_left [] [] w e = refl
    same_left [] (k ∷ ks) w e =
        absurd (not_empty k (turns_of_two k k ks) (e k k (inl refl) ∙ kept_if k (turns_of_two k k ks) (k == k || k == k) (is_first k k)))
    same_left (j ∷ js) ks w e =
        let p = pull j ks (starts j js ks e) in
        same_left js p.0 (turn j w) (rest_of j js p.0 (λ i k h. e i k h ∙ sym (p.2 i k h))) ∙ sym (p.1 w)

-- Which jobs are among which.
use Rattle.std.proofs.Common.{◌≡◌, ◌≢◌, ◌⊎◌, inl, inr, Bool, true, false, cond, ◌||◌, ◌+◌, List, [], ◌∷◌, ◌++◌, None, refl, ap, sym, ◌∙◌, arith, eq-eqb}
use Rattle.std.specs.Prelude.{◌==◌, ◌<◌, ◌≤◌, ℕ, zero, suc, filter, find, replicate, slice_get, Some}
use Rattle.std.specs.List.{list_any, range_with_len}
use Rattle.std.proofs.lemmas.Bool.{false≢true, or_left, or_right, or_parts, or_cases, false_from_ne_true}
use Rattle.std.proofs.lemmas.Option.{same_Some}
use borrow.Author.Tests.{eqb-true}
use Rattle.hub_schedule.specs.laws.Lists.{any-at, one_with}
use Rattle.hub_serial.specs.RunRecord.{StandsBefore}
use Rattle.hub_serial.specs.Schedule.{serial_turns}

pub itself : (i : ℕ) → (i == i) ≡ true
itself i = eq-eqb i i refl

pub unlike : (i k : ℕ) → i ≢ k → (i == k) ≡ false
unlike i k off = false_from_ne_true (i == k) (λ e. off (eqb-true i k e))

-- Whether a job is among these.
abbrev pub has : ℕ → List ℕ → Bool
has j js = list_any (λ i. i == j) js

-- None is there twice.
abbrev pub Distinct : List ℕ → Type 0
Distinct [] = Unit {0}
Distinct (j ∷ L) = (has j L ≡ false) × Distinct L

pub has_here : (j : ℕ) (L : List ℕ) → has j (j ∷ L) ≡ true
has_here j L = or_left (j == j) (has j L) (itself j)

pub has_later : (l j : ℕ) (L : List ℕ) → has l L ≡ true → has l (j ∷ L) ≡ true
has_later l j L h = or_right (j == l) (has l L) h

pub has_not_both : (j l : ℕ) (L : List ℕ) → has j L ≡ false → has l L ≡ true → (l == j) ≡ false
has_not_both j l L e h =
    false_from_ne_true (l == j)
    (λ g. false≢true (sym e ∙ (ap (λ x. has x L) (sym (eqb-true l j g)) ∙ h)))

pub has_append : (l : ℕ) (xs ys : List ℕ) → has l xs ≡ false → has l ys ≡ false
    → has l (xs ++ ys) ≡ false
has_append l [] ys e f = f
has_append l (x ∷ xs) ys e f =
    let two = or_parts (x == l) (has l xs) e in
    ap (λ b. b || has l (xs ++ ys)) two.0 ∙ has_append l xs ys two.1 f

pub has_either : (l : ℕ) (xs ys : List ℕ) → has l (xs ++ ys) ≡ true
    → (has l xs ≡ true) ⊎ (has l ys ≡ true)
has_either l [] ys g = inr g
has_either l (x ∷ xs) ys g =
    elim (or_cases (x == l) (has l (xs ++ ys)) g) [
      | inl same ↦ inl (or_left (x == l) (has l xs) same)
      | inr more ↦ elim (has_either l xs ys more) [
        | inl a ↦ inl (or_right (x == l) (has l xs) a)
        | inr b ↦ inr b
      ]
    ]

turned_unlike : (j l : ℕ) → (l == j) ≡ false → (j == l) ≡ false
turned_unlike j l e =
    false_from_ne_true (j == l)
    (λ g. false≢true (sym e ∙ (ap (λ x. l == x) (eqb-true j l g) ∙ itself l)))

pub has_replicated : (j l n : ℕ) → (l == j) ≡ false → has l (replicate n j) ≡ false
has_replicated j l zero e = refl
has_replicated j l (suc n) e =
    ap (λ b. b || has l (replicate n j)) (turned_unlike j l e) ∙ has_replicated j l n e

pub all_replicated : (j l n : ℕ) → has l (replicate n j) ≡ true → l ≡ j
all_replicated j l zero e = absurd (false≢true e)
all_replicated j l (suc n) e =
    elim (or_cases (j == l) (has l (replicate n j)) e) [
      | inl same ↦ sym (eqb-true j l same)
      | inr more ↦ all_replicated j l n more
    ]

pub has_serial_turns : (n : ℕ → ℕ) (l : ℕ) (L : List ℕ) → has l L ≡ false
    → has l (serial_turns n L) ≡ false
has_serial_turns n l [] e = refl
has_serial_turns n l (j ∷ L) e =
    let two = or_parts (j == l) (has l L) e in
    has_append l (replicate (n j) j) (serial_turns n L)
    (has_replicated j l (n j) (turned_unlike l j two.0))
    (has_serial_turns n l L two.1)

-- A job whose turn comes is among those whose turns come.
pub of_serial_turns : (n : ℕ → ℕ) (l : ℕ) (L : List ℕ) → has l (serial_turns n L) ≡ true
    → has l L ≡ true
of_serial_turns n l L h =
    elim (has l L) as (λ b. has l L ≡ b → b ≡ true) [
      | true ↦ λ e. refl
      | false ↦ λ e. absurd (false≢true (sym (has_serial_turns n l L e) ∙ h))
    ] refl

pub has_filtered : (f : ℕ → Bool) (l : ℕ) (xs : List ℕ) → has l (filter f xs) ≡ true
    → (has l xs ≡ true) × (f l ≡ true)
has_filtered f l [] e = absurd (false≢true e)
has_filtered f l (x ∷ xs) e =
    elim (f x) as (λ b. f x ≡ b → has l (cond b (x ∷ filter f xs) (filter f xs)) ≡ true
    → (has l (x ∷ xs) ≡ true) × (f l ≡ true)) [
      | true ↦ λ is h. elim (or_cases (x == l) (has l (filter f xs)) h) [
        | inl same ↦ (
          or_left (x == l) (has l xs) same,
          ap f (sym (eqb-true x l same)) ∙ is,
        )
        | inr more ↦
            let w = has_filtered f l xs more in (or_right (x == l) (has l xs) w.0, w.1)
      ]
      | false ↦ λ no h. let w = has_filtered f l xs h in (or_right (x == l) (has l xs) w.0, w.1)
    ] refl e

pub filtered_has : (f : ℕ → Bool) (l : ℕ) (xs : List ℕ) → has l xs ≡ true → f l ≡ true
    → has l (filter f xs) ≡ true
filtered_has f l [] e is = e
filtered_has f l (x ∷ xs) e is =
    elim (or_cases (x == l) (has l xs) e) [
      | inl same ↦
          let here : f x ≡ true = ap f (eqb-true x l same) ∙ is in
          ap (λ b. has l (cond b (x ∷ filter f xs) (filter f xs))) here
          ∙ or_left (x == l) (has l (filter f xs)) same
      | inr more ↦
          let h = filtered_has f l xs more is in
          elim (f x) as (λ b. has l (cond b (x ∷ filter f xs) (filter f xs)) ≡ true) [
            | true ↦ or_right (x == l) (has l (filter f xs)) h
            | false ↦ h
          ]
    ]

pub distinct_filtered : (f : ℕ → Bool) (xs : List ℕ) → Distinct xs → Distinct (filter f xs)
distinct_filtered f [] d = tt
distinct_filtered f (x ∷ xs) d =
    elim (f x) as (λ b. Distinct (cond b (x ∷ filter f xs) (filter f xs))) [
      | true ↦ (
        false_from_ne_true (has x (filter f xs))
            (λ h. false≢true (sym d.0 ∙ (has_filtered f x xs h).0)),
        distinct_filtered f xs d.1,
      )
      | false ↦ distinct_filtered f xs d.1
    ]

-- The numbers of a range.
pub has_range : (a n l : ℕ) → has l (range_with_len a n) ≡ true → (a ≤ l) × (l < a + n)
has_range a zero l h = absurd (false≢true h)
has_range a (suc n) l h =
    elim (or_cases (a == l) (has l (range_with_len (a + 1) n)) h) [
      | inl same ↦ let e = eqb-true a l same in (omega (arith, e), omega (arith, e))
      | inr more ↦
          let w = has_range (a + 1) n l more in
          let x = w.0 in let y = w.1 in (omega (arith, x), omega (arith, y))
    ]

pub range_has : (a n l : ℕ) → a ≤ l → l < a + n → has l (range_with_len a n) ≡ true
range_has a zero l x y = absurd (omega (arith, x, y))
range_has a (suc n) l x y =
    elim (a == l) as (λ b. (a == l) ≡ b → (b || has l (range_with_len (a + 1) n)) ≡ true) [
      | true ↦ λ e. refl
      | false ↦ λ e.
          let off : a ≢ l = λ same. false≢true (sym e ∙ (ap (λ z. a == z) (sym same) ∙ itself a)) in
          range_has (a + 1) n l (omega (arith, x, off)) (omega (arith, y))
    ] refl

pub distinct_range : (a n : ℕ) → Distinct (range_with_len a n)
distinct_range a zero = tt
distinct_range a (suc n) = (
  false_from_ne_true (has a (range_with_len (a + 1) n))
      (λ h. let w = has_range (a + 1) n a h in let x = w.0 in omega (arith, x)),
  distinct_range (a + 1) n,
)

-- One that is there at a place.
pub has_at : (L : List ℕ) (b j : ℕ) → slice_get L b ≡ Some j → has j L ≡ true
has_at L b j f = any-at (λ i. i == j) L b j f (itself j)

pub placed_once : (L : List ℕ) → Distinct L → (a b j : ℕ) → slice_get L a ≡ Some j
    → slice_get L b ≡ Some j → a ≡ b
placed_once [] d a b j e f = cc
placed_once (x ∷ L) d zero zero j e f = refl
placed_once (x ∷ L) d zero (suc b) j e f =
    absurd (false≢true (sym d.0 ∙ (ap (λ y. has y L) (same_Some x j e) ∙ has_at L b j f)))
placed_once (x ∷ L) d (suc a) zero j e f =
    absurd (false≢true (sym d.0 ∙ (ap (λ y. has y L) (same_Some x j f) ∙ has_at L a j e)))
placed_once (x ∷ L) d (suc a) (suc b) j e f = ap suc (placed_once L d.1 a b j e f)

-- The first one that passes a test.
pub none_found : (t : ℕ → Bool) (xs : List ℕ) → find t xs ≡ None → (j : ℕ) → has j xs ≡ true
    → t j ≡ true → ⊥
none_found t [] none j g e = false≢true g
none_found t (x ∷ xs) none j g e =
    elim (t x) as (λ b. t x ≡ b → cond b (Some x) (find t xs) ≡ None → ⊥) [
      | true ↦ λ f n. cc
      | false ↦ λ f n. elim (or_cases (x == j) (has j xs) g) [
        | inl same ↦ false≢true (sym f ∙ (ap t (eqb-true x j same) ∙ e))
        | inr more ↦ none_found t xs n j more e
      ]
    ] refl none

pub found_passes : (t : ℕ → Bool) (xs : List ℕ) (j : ℕ) → find t xs ≡ Some j → t j ≡ true
found_passes t [] j e = cc
found_passes t (x ∷ xs) j e =
    elim (t x) as (λ b. t x ≡ b → cond b (Some x) (find t xs) ≡ Some j → t j ≡ true) [
      | true ↦ λ f g. ap t (sym (same_Some x j g)) ∙ f
      | false ↦ λ f g. found_passes t xs j g
    ] refl e

-- What is before or after one is among all.
has_parts : (l : ℕ) (xs ys : List ℕ) (j : ℕ) → (has l xs ≡ true) ⊎ (has l ys ≡ true)
    → has l (xs ++ j ∷ ys) ≡ true
has_parts l [] ys j (inl g) = absurd (false≢true g)
has_parts l [] ys j (inr g) = or_right (j == l) (has l ys) g
has_parts l (x ∷ xs) ys j (inl g) =
    elim (or_cases (x == l) (has l xs) g) [
      | inl same ↦ or_left (x == l) (has l (xs ++ j ∷ ys)) same
      | inr more ↦ or_right (x == l) (has l (xs ++ j ∷ ys)) (has_parts l xs ys j (inl more))
    ]
has_parts l (x ∷ xs) ys j (inr g) =
    or_right (x == l) (has l (xs ++ j ∷ ys)) (has_parts l xs ys j (inr g))

pub has_cut : (l : ℕ) (xs ys : List ℕ) (j : ℕ) (L : List ℕ) → L ≡ xs ++ j ∷ ys
    → (has l xs ≡ true) ⊎ (has l ys ≡ true) → has l L ≡ true
has_cut l xs ys j L e g = ap (has l) e ∙ has_parts l xs ys j g

-- In what a filter leaves of a range the lower number stands first.
place_of : (j : ℕ) (L : List ℕ) → has j L ≡ true → (b : ℕ) × (slice_get L b ≡ Some j)
place_of j L h =
    let w = one_with (λ i. i == j) L h in (w.0, w.2 ∙ ap (λ i. Some i) (eqb-true w.1 j w.3))

after_first : (a i k : ℕ) (L : List ℕ) → i < k → ((j : ℕ) → has j L ≡ true → a < j)
    → (has i L ≡ true → has k L ≡ true → StandsBefore L i k)
    → ((a == i) ≡ true) ⊎ (has i L ≡ true) → ((a == k) ≡ true) ⊎ (has k L ≡ true)
    → StandsBefore (a ∷ L) i k
after_first a i k L l above rest (inl e) (inl f) =
    let x = eqb-true a i e in let y = eqb-true a k f in absurd (omega (arith, l, x, y))
after_first a i k L l above rest (inl e) (inr f) =
    let w = place_of k L f in
    (0, suc w.0, omega arith, ap (λ x. Some x) (eqb-true a i e), w.1)
after_first a i k L l above rest (inr e) (inl f) =
    let x = above i e in let y = eqb-true a k f in absurd (omega (arith, l, x, y))
after_first a i k L l above rest (inr e) (inr f) =
    let w = rest e f in
    let up = w.2 in
    (suc w.0, suc w.1, omega (arith, up), w.3, w.4)

pub lower_first : (t : ℕ → Bool) (a n i k : ℕ) → i < k
    → has i (filter t (range_with_len a n)) ≡ true → has k (filter t (range_with_len a n)) ≡ true
    → StandsBefore (filter t (range_with_len a n)) i k
lower_first t a zero i k l h g = absurd (false≢true h)
lower_first t a (suc n) i k l h g =
    let L = filter t (range_with_len (a + 1) n) in
    elim (t a) as (λ b. has i (cond b (a ∷ L) L) ≡ true → has k (cond b (a ∷ L) L) ≡ true
    → StandsBefore (cond b (a ∷ L) L) i k) [
      | true ↦ λ x y. after_first a i k L l
          (λ j z. let r = (has_range (a + 1) n j (has_filtered t j (range_with_len (a + 1) n) z).0).0 in
          omega (arith, r))
          (λ e f. lower_first t (a + 1) n i k l e f) (or_cases (a == i) (has i L) x)
          (or_cases (a == k) (has k L) y)
      | false ↦ λ x y. lower_first t (a + 1) n i k l x y
    ] h g

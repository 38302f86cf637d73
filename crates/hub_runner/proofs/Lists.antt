-- Elements of lists, and how many of them pass a test.
use Rattle.std.proofs.Common.{◌≡◌, ◌<◌, ◌≤◌, ◌+◌, Bool, true, false, cond, ◌||◌, List, [], ◌∷◌, ◌++◌, length, map, filter, Some, None, refl, ap, sym, ◌∙◌, subst, arith}
use Rattle.std.specs.Prelude.{ℕ, zero, suc, All, slice_get, find}
use Rattle.std.specs.List.{flat_map, list_any, range_with_len}
use Rattle.std.proofs.lemmas.Option.{same_Some, slice_get_within}
use Rattle.std.proofs.lemmas.List.Elements.{All-nil, All-cons, All-head, All-tail}

-- Each element.
pub all_at : {X : Type 0} (Q : X → Type 0) (xs : List X) (k : ℕ) (x : X) → All Q xs → slice_get xs k ≡ Some x → Q x
all_at Q [] k x all e = cc
all_at Q (y ∷ xs) zero x all e = subst Q (same_Some y x e) (All-head Q y xs all)
all_at Q (y ∷ xs) (suc k) x all e = all_at Q xs k x (All-tail Q y xs all) e

pub all_front : {X : Type 0} (Q : X → Type 0) (xs ys : List X) → All Q (xs ++ ys) → All Q xs
all_front Q [] ys all = All-nil Q
all_front Q (x ∷ xs) ys all = All-cons Q x xs (All-head Q x (xs ++ ys) all) (all_front Q xs ys (All-tail Q x (xs ++ ys) all))

pub all_rest : {X : Type 0} (Q : X → Type 0) (xs ys : List X) → All Q (xs ++ ys) → All Q ys
all_rest Q [] ys all = all
all_rest Q (x ∷ xs) ys all = all_rest Q xs ys (All-tail Q x (xs ++ ys) all)

pub all_flat : {A X : Type 0} (Q : X → Type 0) (f : A → List X) (items : List A) (k : ℕ) (a : A) → All Q (flat_map f items) → slice_get items k ≡ Some a → All Q (f a)
all_flat Q f [] k a all e = cc
all_flat Q f (b ∷ items) zero a all e = subst (λ c. All Q (f c)) (same_Some b a e) (all_front Q (f b) (flat_map f items) all)
all_flat Q f (b ∷ items) (suc k) a all e = all_flat Q f items k a (all_rest Q (f b) (flat_map f items) all) e

pub all_range : {X : Type 0} (Q : X → Type 0) (f : ℕ → X) (a n j : ℕ) → All Q (map f (range_with_len a n)) → j < n → Q (f (a + j))
all_range Q f a zero j all h = absurd (omega (arith, h))
all_range Q f a (suc n) zero all h = let same : a ≡ a + 0 = omega arith in subst (λ i. Q (f i)) same (All-head Q (f a) (map f (range_with_len (a + 1) n)) all)
all_range Q f a (suc n) (suc j) all h =
    let same : a + 1 + j ≡ a + suc j = omega arith in
    subst (λ i. Q (f i)) same (all_range Q f (a + 1) n j (All-tail Q (f a) (map f (range_with_len (a + 1) n)) all) (omega (arith, h)))

-- Elements that pass a test.
module _ {X : Type 0} (p : X → Bool) where
  abbrev IsPassed : List X → X → Type 0
  IsPassed xs x = ((i : ℕ) × (slice_get xs i ≡ Some x)) × (p x ≡ true)

  one_later : (y : X) (xs : List X) (x : X) → IsPassed xs x → IsPassed (y ∷ xs) x
  one_later y xs x w = ((suc w.0.0, w.0.1), w.1)

  here_or_later : (y : X) (xs : List X) (k : ℕ) (x : X) → p y ≡ true → slice_get (y ∷ filter p xs) k ≡ Some x → ((i : ℕ) → slice_get (filter p xs) i ≡ Some x → IsPassed xs x) → IsPassed (y ∷ xs) x
  here_or_later y xs zero x is h later = ((0, h), subst (λ z. p z ≡ true) (same_Some y x h) is)
  here_or_later y xs (suc k) x is h later = one_later y xs x (later k h)

  pub passed : (xs : List X) (k : ℕ) (x : X) → slice_get (filter p xs) k ≡ Some x → ((i : ℕ) × (slice_get xs i ≡ Some x)) × (p x ≡ true)
  passed [] k x e = cc
  passed (y ∷ xs) k x e =
      elim (p y) as (λ b. p y ≡ b → slice_get (cond b (y ∷ filter p xs) (filter p xs)) k ≡ Some x → IsPassed (y ∷ xs) x) [
        | true ↦ λ is h. here_or_later y xs k x is h (λ i e. passed xs i x e)
        | false ↦ λ no h. one_later y xs x (passed xs k x h)
      ] refl e

  pub passes : (xs : List X) (k : ℕ) (x : X) → slice_get xs k ≡ Some x → p x ≡ true → (i : ℕ) × (slice_get (filter p xs) i ≡ Some x)
  passes [] k x e is = cc
  passes (y ∷ xs) zero x e is =
      let here : p y ≡ true = subst (λ z. p z ≡ true) (sym (same_Some y x e)) is in
      (0, ap (λ b. slice_get (cond b (y ∷ filter p xs) (filter p xs)) 0) here ∙ e)
  passes (y ∷ xs) (suc k) x e is =
      let w = passes xs k x e is in
      elim (p y) as (λ b. (i : ℕ) × (slice_get (cond b (y ∷ filter p xs) (filter p xs)) i ≡ Some x)) [
        | true ↦ (suc w.0, w.1)
        | false ↦ w
      ]

  pub found_first : (xs : List X) → find p xs ≡ slice_get (filter p xs) 0
  found_first [] = refl
  found_first (y ∷ xs) =
      elim (p y) as (λ b. cond b (Some y) (find p xs) ≡ slice_get (cond b (y ∷ filter p xs) (filter p xs)) 0) [
        | true ↦ refl
        | false ↦ found_first xs
      ]

  -- Just one element passes.
  single : (ys : List X) → length ys ≡ 1 → (y : X) × (ys ≡ y ∷ [])
  single [] e = absurd (omega (arith, e))
  single (y ∷ []) e = (y, refl)
  single (y ∷ z ∷ ys) e = absurd (omega (arith, e))

  pub only : (xs : List X) → length (filter p xs) ≡ 1 → (y : X) × (filter p xs ≡ y ∷ [])
  only xs e = single (filter p xs) e

  in_single : (ys : List X) (y x : X) (i : ℕ) → ys ≡ y ∷ [] → slice_get ys i ≡ Some x → y ≡ x
  in_single ys y x zero e h = same_Some y x (sym (ap (λ zs. slice_get zs 0) e) ∙ h)
  in_single ys y x (suc i) e h = let no : None ≡ Some x = sym (ap (λ zs. slice_get zs (suc i)) e) ∙ h in cc

  pub is_only : (xs : List X) (y : X) (k : ℕ) (x : X) → filter p xs ≡ y ∷ [] → slice_get xs k ≡ Some x → p x ≡ true → y ≡ x
  is_only xs y k x e at is = let w = passes xs k x at is in in_single (filter p xs) y x w.0 e w.1

  pub none_passes : (xs : List X) (k : ℕ) (x : X) → length (filter p xs) ≡ 0 → slice_get xs k ≡ Some x → p x ≡ true → ⊥
  none_passes xs k x none e is =
      let w = passes xs k x e is in
      let h = slice_get_within (filter p xs) w.0 x w.1 in
      omega (arith, none, h)

  none_else : (z : X) (xs : List X) → p z ≡ true → length (filter p (z ∷ xs)) ≤ 1 → length (filter p xs) ≡ 0
  none_else z xs is few =
      let one : length (z ∷ filter p xs) ≤ 1 = subst (λ b. length (cond b (z ∷ filter p xs) (filter p xs)) ≤ 1) is few in
      omega (arith, one)

  less : (z : X) (xs : List X) → length (filter p (z ∷ xs)) ≤ 1 → length (filter p xs) ≤ 1
  less z xs few =
      elim (p z) as (λ b. length (cond b (z ∷ filter p xs) (filter p xs)) ≤ 1 → length (filter p xs) ≤ 1) [
        | true ↦ λ h. omega (arith, h)
        | false ↦ λ h. h
      ] few

  -- Where at most one element passes, it has one place.
  pub same_place : (xs : List X) (i k : ℕ) (x y : X) → length (filter p xs) ≤ 1 → slice_get xs i ≡ Some x → p x ≡ true → slice_get xs k ≡ Some y → p y ≡ true → i ≡ k
  same_place [] i k x y few e is f too = cc
  same_place (z ∷ xs) zero zero x y few e is f too = refl
  same_place (z ∷ xs) zero (suc k) x y few e is f too =
      let here : p z ≡ true = subst (λ w. p w ≡ true) (sym (same_Some z x e)) is in
      absurd (none_passes xs k y (none_else z xs here few) f too)
  same_place (z ∷ xs) (suc i) zero x y few e is f too =
      let here : p z ≡ true = subst (λ w. p w ≡ true) (sym (same_Some z y f)) too in
      absurd (none_passes xs i x (none_else z xs here few) e is)
  same_place (z ∷ xs) (suc i) (suc k) x y few e is f too = ap suc (same_place xs i k x y (less z xs few) e is f too)

-- A filter leaves no more that pass.
pub count_filter : {X : Type 0} (p d : X → Bool) (xs : List X) → length (filter p (filter d xs)) ≤ length (filter p xs)
count_filter p d [] = omega arith
count_filter p d (x ∷ xs) =
    let rest = count_filter p d xs in
    elim (d x) as (λ b. length (filter p (cond b (x ∷ filter d xs) (filter d xs))) ≤ length (cond (p x) (x ∷ filter p xs) (filter p xs))) [
      | true ↦ elim (p x) as (λ b. length (cond b (x ∷ filter p (filter d xs)) (filter p (filter d xs))) ≤ length (cond b (x ∷ filter p xs) (filter p xs))) [
        | true ↦ omega (arith, rest)
        | false ↦ rest
      ]
      | false ↦ elim (p x) as (λ b. length (filter p (filter d xs)) ≤ length (cond b (x ∷ filter p xs) (filter p xs))) [
        | true ↦ omega (arith, rest)
        | false ↦ rest
      ]
    ]

pub count_map : {X Y : Type 0} (p : Y → Bool) (f : X → Y) (xs : List X) → length (filter p (map f xs)) ≡ length (filter (λ x. p (f x)) xs)
count_map p f [] = refl
count_map p f (x ∷ xs) =
    let rest = count_map p f xs in
    elim (p (f x)) as (λ b. length (cond b (f x ∷ filter p (map f xs)) (filter p (map f xs))) ≡ length (cond b (x ∷ filter (λ y. p (f y)) xs) (filter (λ y. p (f y)) xs))) [
      | true ↦ omega (arith, rest)
      | false ↦ rest
    ]

-- No element passes.
pub none_any : {X : Type 0} (t : X → Bool) (xs : List X) → ((k : ℕ) (x : X) → slice_get xs k ≡ Some x → t x ≡ false) → list_any t xs ≡ false
none_any t [] none = refl
none_any t (x ∷ xs) none = ap (λ b. b || list_any t xs) (none 0 x refl) ∙ none_any t xs (λ k y e. none (suc k) y e)

-- Elements of lists.
use Rattle.std.proofs.Common.{◌≡◌, ◌≢◌, ◌<◌, inl, inr, List, [], ◌∷◌, length, Some, refl, ap, sym, ◌∙◌, subst, ◌+◌, drop, Bool, true, false, ◌||◌, map}
use Rattle.std.specs.Prelude.{ℕ, zero, suc, slice_get, slice_set}
use Rattle.std.specs.List.{list_any}
use Rattle.std.proofs.lemmas.Bool.{cases_eq, false≢true, or_left, or_right}
use Rattle.std.proofs.lemmas.Option.{slice_get_within, get_or_from_slice_get, same_Some, slice_get-map}
use Rattle.hub_text.specs.laws.List.{has-item, next-drop, put-here}
use Rattle.hub_profile.specs.Parts.{some_passes}
use Rattle.std.specs.Option.{option_map}

pub set_there : {X : Type 0} (xs : List X) (i j : ℕ) (y : X) → i ≢ j
    → slice_get (slice_set xs j y) i ≡ slice_get xs i
set_there [] i j y off = refl
set_there (z ∷ xs) zero zero y off = absurd (off refl)
set_there (z ∷ xs) zero (suc j) y off = refl
set_there (z ∷ xs) (suc i) zero y off = refl
set_there (z ∷ xs) (suc i) (suc j) y off = set_there xs i j y (λ e. off (ap suc e))

-- Of a list with another value at one place, each property of all.
pub each_set : {X : Type 0} (Q : ℕ → X → Type 0) (xs : List X) (j : ℕ) (x y : X)
    → slice_get xs j ≡ Some x → Q j y → ((i : ℕ) (z : X) → i ≢ j → slice_get xs i ≡ Some z → Q i z)
    → (i : ℕ) (z : X) → slice_get (slice_set xs j y) i ≡ Some z → Q i z
each_set Q xs j x y is here there i z e =
    elim (cases_eq i j) [
      | inl same ↦
          subst (λ k. Q k z) (sym same)
          (subst (Q j)
          (same_Some y z (sym (put-here xs j y (slice_get_within xs j x is))
          ∙ (ap (slice_get (slice_set xs j y)) (sym same) ∙ e))) here)
      | inr off ↦ there i z off (sym (set_there xs i j y off) ∙ e)
    ]

pub drop_at : {X : Type 0} (xs : List X) (n : ℕ) (x : X) → slice_get xs n ≡ Some x
    → drop n xs ≡ x ∷ drop (n + 1) xs
drop_at xs n x e =
    next-drop xs n x (slice_get_within xs n x e) (sym (get_or_from_slice_get xs n x x e))

-- Lists.
pub map_get : {X Y : Type 0} (f : X → Y) (xs : List X) (j : ℕ) (y : Y)
    → slice_get (map f xs) j ≡ Some y → (x : X) × (slice_get xs j ≡ Some x) × (y ≡ f x)
map_get f [] j y e = cc
map_get f (x ∷ xs) zero y e = (x, refl, sym (same_Some (f x) y e))
map_get f (x ∷ xs) (suc j) y e = map_get f xs j y e

pub map_at : {X Y : Type 0} (f : X → Y) (xs : List X) (j : ℕ) (x : X) → slice_get xs j ≡ Some x
    → slice_get (map f xs) j ≡ Some (f x)
map_at f xs j x e = slice_get-map f xs j ∙ ap (option_map f) e

pub as_long : {X Y : Type 0} (xs : List X) (ys : List Y) (j : ℕ) (y : Y) → length xs ≡ length ys
    → slice_get ys j ≡ Some y → (x : X) × (slice_get xs j ≡ Some x)
as_long xs ys j y e h = has-item xs j (subst (λ n. j < n) (sym e) (slice_get_within ys j y h))

pub any-at : {X : Type 0} (t : X → Bool) (xs : List X) (j : ℕ) (x : X) → slice_get xs j ≡ Some x
    → t x ≡ true → list_any t xs ≡ true
any-at t [] j x is h = cc
any-at t (y ∷ xs) zero x is h = or_left (t y) (list_any t xs) (ap (some_passes t) is ∙ h)
any-at t (y ∷ xs) (suc j) x is h = or_right (t y) (list_any t xs) (any-at t xs j x is h)

pub one_with : {X : Type 0} (t : X → Bool) (xs : List X) → list_any t xs ≡ true → (j : ℕ) × (x : X)
    × (slice_get xs j ≡ Some x) × (t x ≡ true)
one_with t [] h = absurd (false≢true h)
one_with {X} t (y ∷ xs) h =
    elim (t y) as (λ b. t y ≡ b → (b || list_any t xs) ≡ true → (j : ℕ) × (x : X)
    × (slice_get (y ∷ xs) j ≡ Some x) × (t x ≡ true)) [
      | true ↦ λ e g. (0, y, refl, e)
      | false ↦ λ e g. let w = one_with t xs g in (suc w.0, w.1, w.2, w.3)
    ] refl h

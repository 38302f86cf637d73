-- Items of lists, and tests of them.
use Rattle.std.proofs.Common.{◌≡◌, ◌≢◌, ◌⊎◌, ⊎_elim, inl, inr, ◌∙◌, ◌==◌, ℕ, zero, suc, Bool, true, false, List, [], ◌∷◌, ◌++◌, length, Some, refl, sym, ap, subst, arith}
use Rattle.std.specs.Prelude.{Contains, slice_get}
use Rattle.std.specs.List.{list_all, list_any}
use Rattle.std.proofs.lemmas.Bool.{and_from, and_parts, false≢true, or_cases, or_left, or_right}
use Rattle.std.proofs.lemmas.Bool.Decides.{nat_tests}
use Rattle.std.proofs.lemmas.Option.{none-some, same_Some}
use Rattle.hub_text.specs.laws.List.{cons-cases}

-- An item that passes, and tests of all items.
pub passing : {X : Type 0} (f : X → Bool) (xs : List X) → list_any f xs ≡ true → (k : ℕ) × (x : X) × (slice_get xs k ≡ Some x) × (f x ≡ true)
passing f [] h = cc
passing f (x ∷ xs) h = ⊎_elim
    (λ here. (0, x, refl, here))
    (λ there. let w = passing f xs there in (suc w.0, w.1, w.2, w.3))
    (or_cases (f x) (list_any f xs) h)

pub some-at : {X : Type 0} (f : X → Bool) (xs : List X) (k : ℕ) (x : X) → slice_get xs k ≡ Some x → f x ≡ true → list_any f xs ≡ true
some-at f [] k x at h = absurd (none-some x at)
some-at f (y ∷ xs) zero x at h = or_left (f y) (list_any f xs) (ap f (same_Some y x at) ∙ h)
some-at f (y ∷ xs) (suc k) x at h = or_right (f y) (list_any f xs) (some-at f xs k x at h)

pub all-of : {X : Type 0} (f : X → Bool) (xs : List X) → ((k : ℕ) (x : X) → slice_get xs k ≡ Some x → f x ≡ true) → list_all f xs ≡ true
all-of f [] each = refl
all-of f (x ∷ xs) each = and_from (f x) (list_all f xs) (each 0 x refl) (all-of f xs (λ k y at. each (suc k) y at))

pub at-each : {X : Type 0} (f : X → Bool) (xs : List X) (k : ℕ) (x : X) → list_all f xs ≡ true → slice_get xs k ≡ Some x → f x ≡ true
at-each f [] k x h at = absurd (none-some x at)
at-each f (y ∷ xs) zero x h at = ap f (sym (same_Some y x at)) ∙ (and_parts (f y) (list_all f xs) h).0
at-each f (y ∷ xs) (suc k) x h at = at-each f xs k x (and_parts (f y) (list_all f xs) h).1 at

pub not-true : (b : Bool) → (b ≡ true → ⊥) → b ≡ false
not-true true h = absurd (h refl)
not-true false h = refl

pub none-at : {X : Type 0} (f : X → Bool) (xs : List X) (k : ℕ) (x : X) → list_any f xs ≡ false → slice_get xs k ≡ Some x → f x ≡ false
none-at f xs k x h at = not-true (f x) (λ passes. false≢true (sym h ∙ some-at f xs k x at passes))

pub at-middle : {X : Type 0} (xs ys : List X) (x : X) → slice_get (xs ++ x ∷ ys) (length xs) ≡ Some x
at-middle [] ys x = refl
at-middle (y ∷ xs) ys x = at-middle xs ys x

pub at-left : {X : Type 0} (xs ys : List X) (k : ℕ) (x : X) → slice_get xs k ≡ Some x → slice_get (xs ++ ys) k ≡ Some x
at-left [] ys k x at = absurd (none-some x at)
at-left (y ∷ xs) ys zero x at = at
at-left (y ∷ xs) ys (suc k) x at = at-left xs ys k x at

pub same-or-not : (i n : ℕ) → (i ≡ n) ⊎ (i ≢ n)
same-or-not i n = go (i == n) refl
  where
    go : (b : Bool) → (i == n) ≡ b → (i ≡ n) ⊎ (i ≢ n)
    go true e = inl (grind (arith, nat_tests, e))
    go false e = inr (λ same. grind (arith, nat_tests, e, same))

-- An item of a list that passes, where all do.
pub passes : {X : Type 0} (f : X → Bool) (xs : List X) (x : X) → list_all f xs ≡ true → Contains xs x → f x ≡ true
passes f [] x h m = let l = m.1 in absurd (omega (arith, l))
passes f (y ∷ xs) x h m =
    let parts = and_parts (f y) (list_all f xs) h in
    ⊎_elim (λ here. subst (λ z. f z ≡ true) here parts.0) (λ there. passes f xs x parts.1 there) (cons-cases y x xs m)

pub all-append : {X : Type 0} (f : X → Bool) (xs ys : List X) → list_all f xs ≡ true → list_all f ys ≡ true → list_all f (xs ++ ys) ≡ true
all-append f [] ys h k = k
all-append f (x ∷ xs) ys h k =
    let parts = and_parts (f x) (list_all f xs) h in
    and_from (f x) (list_all f (xs ++ ys)) parts.0 (all-append f xs ys parts.1 k)

-- Items of lists, and two different places.
use Rattle.std.proofs.Common.{◌≡◌, subst, ◌⊎◌, inl, inr, ⊎_elim, ◌<◌, ℕ, zero, suc, Bool, true, List, [], ◌∷◌, map, refl, sym, ap, arith}
use Rattle.std.specs.Prelude.{Contains}
use Rattle.std.specs.List.{flat_map, list_any}
use Rattle.std.proofs.lemmas.Bool.{or_cases}
use Rattle.std.proofs.lemmas.List.Elements.{Contains-append_left, Contains-append_right, Contains-append_cases}
use Rattle.hub_text.specs.laws.List.{cons-cases, cons-here, cons-there}

-- Two places are one, or one is before the other.
pub places : (i j : ℕ) → (i < j) ⊎ ((i ≡ j) ⊎ (j < i))
places zero zero = inr (inl refl)
places zero (suc j) = inl (omega arith)
places (suc i) zero = inr (inr (omega arith))
places (suc i) (suc j) = ⊎_elim
    (λ less. inl (omega (arith, less)))
    (λ other. ⊎_elim (λ e. inr (inl (ap (λ n. suc n) e))) (λ more. inr (inr (omega (arith, more)))) other)
    (places i j)

pub none-in : {X : Type 0} (x : X) → Contains [] x → ⊥
none-in x m = let l = m.1 in omega (arith, l)

-- What is an item of the list of an item, is one of the lists together.
pub in-flat : {X Y : Type 0} (f : X → List Y) (xs : List X) (x : X) (y : Y) → Contains xs x → Contains (f x) y → Contains (flat_map f xs) y
in-flat f [] x y m h = absurd (none-in x m)
in-flat f (z ∷ xs) x y m h = ⊎_elim
    (λ same. Contains-append_left (f z) (flat_map f xs) y (subst (λ w. Contains (f w) y) (sym same) h))
    (λ rest. Contains-append_right (f z) (flat_map f xs) y (in-flat f xs x y rest h))
    (cons-cases z x xs m)

pub out-flat : {X Y : Type 0} (f : X → List Y) (xs : List X) (y : Y) → Contains (flat_map f xs) y → (x : X) × Contains xs x × Contains (f x) y
out-flat f [] y m = absurd (none-in y m)
out-flat f (z ∷ xs) y m = ⊎_elim
    (λ here. (z, cons-here z z xs refl, here))
    (λ there. let w = out-flat f xs y there in (w.0, cons-there z w.0 xs w.1, w.2))
    (Contains-append_cases (f z) (flat_map f xs) y m)

pub out-map : {X Y : Type 0} (f : X → Y) (xs : List X) (y : Y) → Contains (map f xs) y → (x : X) × Contains xs x × (f x ≡ y)
out-map f [] y m = absurd (none-in y m)
out-map f (z ∷ xs) y m = ⊎_elim
    (λ here. (z, cons-here z z xs refl, here))
    (λ there. let w = out-map f xs y there in (w.0, cons-there z w.0 xs w.1, w.2))
    (cons-cases (f z) y (map f xs) m)

-- An item that passes.
pub passing-item : {X : Type 0} (f : X → Bool) (xs : List X) → list_any f xs ≡ true → (x : X) × Contains xs x × (f x ≡ true)
passing-item f [] h = cc
passing-item f (z ∷ xs) h = ⊎_elim
    (λ here. (z, cons-here z z xs refl, here))
    (λ there. let w = passing-item f xs there in (w.0, cons-there z w.0 xs w.1, w.2))
    (or_cases (f z) (list_any f xs) h)

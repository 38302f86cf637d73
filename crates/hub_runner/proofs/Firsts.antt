-- The first place that is wrong, found list by list.
use Rattle.std.proofs.Common.{◌≡◌, ◌≤◌, ◌+◌, List, ◌∷◌, ◌++◌, length, drop, Some, ap, sym, ◌∙◌, subst, append_assoc}
use Rattle.std.specs.Prelude.{ℕ, All, slice_get}
use Rattle.std.specs.List.{flat_map}
use Rattle.std.proofs.lemmas.List.{append-nil, drop_all}
use Rattle.std.proofs.lemmas.List.Elements.{All-append}
use Rattle.hub_schedule.specs.laws.Lists.{drop_at}

-- The element is the first of a list that is wrong: those before it are right.
abbrev pub IsFirst : {X : Type 0} → (X → Type 0) → (X → Type 0) → List X → X → Type 0
IsFirst {X} Right Wrong xs x = (front : List X) × (rest : List X) × (xs ≡ front ++ x ∷ rest) × Wrong x × All Right front

-- The lists made of the first elements have right elements alone.
abbrev pub RightBefore : {A X : Type 0} → (A → List X) → (X → Type 0) → List A → ℕ → Type 0
RightBefore {A} {X} f Right xs n = (front : List X) × (front ++ flat_map f (drop n xs) ≡ flat_map f xs) × All Right front

-- one list more
module _ {A X : Type 0} (f : A → List X) (Right Wrong : X → Type 0) (xs : List A) (n : ℕ) (a : A) (at : slice_get xs n ≡ Some a) (before : RightBefore f Right xs n) where
  split : before.0 ++ (f a ++ flat_map f (drop (n + 1) xs)) ≡ flat_map f xs
  split = ap (λ ys. before.0 ++ flat_map f ys) (sym (drop_at xs n a at)) ∙ before.1

  pub right_more : All Right (f a) → RightBefore f Right xs (n + 1)
  right_more right = (
    before.0 ++ f a,
    append_assoc before.0 (f a) (flat_map f (drop (n + 1) xs)) ∙ split,
    All-append Right before.0 (f a) before.2 right,
  )

  pub first_more : (x : X) → IsFirst Right Wrong (f a) x → IsFirst Right Wrong (flat_map f xs) x
  first_more x first = (
    before.0 ++ first.0,
    first.1 ++ flat_map f (drop (n + 1) xs),
    sym split ∙ (ap (λ ys. before.0 ++ (ys ++ flat_map f (drop (n + 1) xs))) first.2
        ∙ (ap (λ ys. before.0 ++ ys) (append_assoc first.0 (x ∷ first.1) (flat_map f (drop (n + 1) xs)))
        ∙ sym (append_assoc before.0 first.0 (x ∷ (first.1 ++ flat_map f (drop (n + 1) xs)))))),
    first.3,
    All-append Right before.0 first.0 before.2 first.4,
  )

-- all lists
pub right_in_all : {A X : Type 0} (f : A → List X) (Right : X → Type 0) (xs : List A) (n : ℕ) → length xs ≤ n → RightBefore f Right xs n → All Right (flat_map f xs)
right_in_all f Right xs n h before =
    let whole : before.0 ≡ flat_map f xs = sym (append-nil before.0) ∙ (ap (λ ys. before.0 ++ flat_map f ys) (sym (drop_all n xs h)) ∙ before.1) in
    subst (All Right) whole before.2

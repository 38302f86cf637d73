-- What holds of each item of a list.
use Rattle.std.proofs.Common.{◌≡◌, Bool, true, false, cond, not, ◌||◌, List, [], ◌∷◌, ◌++◌, map, refl, ap, ◌∙◌}
use Rattle.std.specs.Prelude.{filter}
use Rattle.std.specs.List.{flat_map, list_all, list_any}
use Rattle.std.specs.Ordering.{eq_by_cmp}
use Rattle.std.proofs.lemmas.Bool.{false≢true, and_parts, not-true, or_left, or_right}
use Rattle.hub_text.specs.laws.Test.{list_all-not}
use Rattle.hub_path.specs.Path.{Path, path_cmp}
use Rattle.hub_tree.specs.laws.Between.{among}
use Rattle.hub_tree.specs.laws.Order.{path_itself, same_path}

abbrev pub Each : {X : Type 0} → (X → Type 0) → List X → Type 0
Each f [] = Unit {0}
Each f (x ∷ xs) = f x × Each f xs

pub Each-append : {X : Type 0} (f : X → Type 0) (xs ys : List X) → Each f xs → Each f ys
    → Each f (xs ++ ys)
Each-append f [] ys a b = b
Each-append f (x ∷ xs) ys a b = (a.0, Each-append f xs ys a.1 b)

pub each-front : {X : Type 0} (f : X → Type 0) (xs ys : List X) → Each f (xs ++ ys) → Each f xs
each-front f [] ys a = tt
each-front f (x ∷ xs) ys a = (a.0, each-front f xs ys a.1)

pub each-back : {X : Type 0} (f : X → Type 0) (xs ys : List X) → Each f (xs ++ ys) → Each f ys
each-back f [] ys a = a
each-back f (x ∷ xs) ys a = each-back f xs ys a.1

pub each-map : {X Y : Type 0} (f : Y → Type 0) (h : X → Y) (xs : List X) → Each (λ x. f (h x)) xs
    → Each f (map h xs)
each-map f h [] a = tt
each-map f h (x ∷ xs) a = (a.0, each-map f h xs a.1)

pub each-flat_map : {X Y : Type 0} (f : Y → Type 0) (h : X → List Y) (xs : List X)
    → Each (λ x. Each f (h x)) xs → Each f (flat_map h xs)
each-flat_map f h [] a = tt
each-flat_map f h (x ∷ xs) a = Each-append f (h x) (flat_map h xs) a.0 (each-flat_map f h xs a.1)

pub each-among : (f : Path → Type 0) (xs : List Path) → ((q : Path) → among q xs ≡ true → f q)
    → Each f xs
each-among f [] h = tt
each-among f (x ∷ xs) h = (
  h x (or_left _ (among x xs) (path_itself x)),
  each-among f xs (λ q e. h q (or_right (eq_by_cmp path_cmp q x) _ e)),
)

-- What all items of a list pass, and what none passes.
pub all_at : (f : Path → Bool) (xs : List Path) (q : Path) → list_all f xs ≡ true
    → among q xs ≡ true → f q ≡ true
all_at f [] q e h = absurd (false≢true h)
all_at f (x ∷ xs) q e h =
    let two = and_parts (f x) (list_all f xs) e in
    elim (eq_by_cmp path_cmp q x) as (λ b. eq_by_cmp path_cmp q x ≡ b → (b || among q xs) ≡ true
    → f q ≡ true) [
      | true ↦ λ g i. ap f (same_path q x g) ∙ two.0
      | false ↦ λ g i. all_at f xs q two.1 i
    ] refl h

pub none_at : (f : Path → Bool) (xs : List Path) (q : Path) → list_any f xs ≡ false
    → among q xs ≡ true → f q ≡ false
none_at f xs q e h =
    not-true (f q) (all_at (λ x. not (f x)) xs q (list_all-not f xs ∙ ap not e) h)

pub each-filter : {X : Type 0} (f : X → Type 0) (b : X → Bool) (xs : List X) → Each f xs
    → Each (λ x. (b x ≡ true) × f x) (filter b xs)
each-filter f b [] a = tt
each-filter {X = X} f b (x ∷ xs) a =
    elim (b x) as (λ v. b x ≡ v
    → Each (λ (y : X). (b y ≡ true) × f y) (cond v (x ∷ filter b xs) (filter b xs))) [
      | true ↦ λ e. ((e, a.0), each-filter f b xs a.1)
      | false ↦ λ e. each-filter f b xs a.1
    ] refl

pub each-weaker : {X : Type 0} (f g : X → Type 0) (xs : List X) → ((x : X) → f x → g x) → Each f xs
    → Each g xs
each-weaker f g [] h a = tt
each-weaker f g (x ∷ xs) h a = (h x a.0, each-weaker f g xs h a.1)

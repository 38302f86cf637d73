-- Laws of tests, and of the tests whether some or all items of a list pass.
use Rattle.std.proofs.Common.{◌≡◌, Bool, true, false, not, ◌&&◌, ◌||◌, T, List, [], ◌∷◌, ◌++◌, map, refl, sym, ap, ◌∙◌}
use Rattle.std.specs.List.{list_all, list_any}
use Rattle.std.proofs.lemmas.Bool.{and_parts, false≢true, or_right}
use Rattle.std.specs.Ordering.{is_eq, is_lt}
use Rattle.std.specs.declared.cmp.Ordering.{Ordering}
use Rattle.std.specs.declared.cmp.Ordering.TheVariants.{Less, Equal, Greater}

-- The first of some tests, false where there is none, and the others.
abbrev pub head : List Bool → Bool
head [] = false
head (b ∷ bs) = b

abbrev pub tail : List Bool → List Bool
tail [] = []
tail (b ∷ bs) = bs

-- Equations of tests by trying all values: `same _ _ (every4 (λ a b c d. agree LEFT RIGHT) refl a b
-- c d)`.
abbrev pub every : (Bool → Bool) → Bool
every f = f true && f false

pub every_is : (f : Bool → Bool) → every f ≡ true → (b : Bool) → f b ≡ true
every_is f h true = left (f true) (f false) h where
  left : (a b : Bool) → (a && b) ≡ true → a ≡ true
  left true b h = refl
  left false b h = h
every_is f h false = right (f true) (f false) h where
  right : (a b : Bool) → (a && b) ≡ true → b ≡ true
  right true b h = h
  right false true h = refl
  right false false h = h

abbrev pub agree : Bool → Bool → Bool
agree true b = b
agree false b = not b

pub same : (a b : Bool) → agree a b ≡ true → a ≡ b
same true b h = sym h
same false false h = refl
same false true h = h

pub every4 : (f : Bool → Bool → Bool → Bool → Bool)
    → every (λ a. every (λ b. every (λ c. every (λ d. f a b c d)))) ≡ true → (a b c d : Bool)
    → f a b c d ≡ true
every4 f h a b c d =
    every_is (f a b c)
    (every_is (λ b'. every (λ d'. f a b b' d'))
    (every_is (λ b'. every (λ c'. every (λ d'. f a b' c' d')))
    (every_is (λ a'. every (λ b'. every (λ c'. every (λ d'. f a' b' c' d')))) h a) b) c) d

pub or-assoc : (a b c : Bool) → (a || (b || c)) ≡ ((a || b) || c)
or-assoc true b c = refl
or-assoc false b c = refl

pub and-assoc : (a b c : Bool) → (a && (b && c)) ≡ ((a && b) && c)
and-assoc true b c = refl
and-assoc false b c = refl

pub or-swap : (a b c : Bool) → (a || (b || c)) ≡ (b || (a || c))
or-swap true true c = refl
or-swap true false c = refl
or-swap false b c = refl

pub or-mixed : (a b c d : Bool) → ((a || b) || (c || d)) ≡ ((a || c) || (b || d))
or-mixed true b c d = refl
or-mixed false true true d = refl
or-mixed false true false d = refl
or-mixed false false c d = refl

pub or-then : (a b c : Bool) → (a || b) ≡ true → (b ≡ true → c ≡ true) → (a || c) ≡ true
or-then true b c h then = refl
or-then false b c h then = then h

pub not-not : (b : Bool) → not (not b) ≡ b
not-not true = refl
not-not false = refl

pub not-weaker : (a b : Bool) → (a ≡ true → b ≡ true) → not b ≡ true → not a ≡ true
not-weaker true true w h = h
not-weaker true false w h = absurd (false≢true (w refl))
not-weaker false b w h = refl

pub second_of_four : (a b c d : Bool) → not (a || b || c || d) ≡ true → not b ≡ true
second_of_four true b c d h = cc
second_of_four false true c d h = cc
second_of_four false false c d h = refl

-- Whether some item of a list passes.
pub any-false : {X : Type 0} (xs : List X) → false ≡ list_any (λ x. false) xs
any-false [] = refl
any-false (x ∷ xs) = any-false xs

pub any-and : {X : Type 0} (b : Bool) (f : X → Bool) (xs : List X)
    → (b && list_any f xs) ≡ list_any (λ x. b && f x) xs
any-and true f xs = refl
any-and false f xs = any-false xs

pub any-or : {X : Type 0} (f g : X → Bool) (xs : List X)
    → (list_any f xs || list_any g xs) ≡ list_any (λ x. f x || g x) xs
any-or f g [] = refl
any-or f g (x ∷ xs) =
    or-mixed (f x) (list_any f xs) (g x) (list_any g xs)
    ∙ ap (λ b. (f x || g x) || b) (any-or f g xs)

pub any-alike : {X : Type 0} (f g : X → Bool) (xs : List X) → ((x : X) → f x ≡ g x)
    → list_any f xs ≡ list_any g xs
any-alike f g [] same = refl
any-alike f g (x ∷ xs) same = rw (same x) (ap (λ b. g x || b) (any-alike f g xs same))

pub any-map : {X Y : Type 0} (f : Y → Bool) (h : X → Y) (xs : List X)
    → list_any (λ x. f (h x)) xs ≡ list_any f (map h xs)
any-map f h [] = refl
any-map f h (x ∷ xs) = ap (λ b. f (h x) || b) (any-map f h xs)

pub any-append : {X : Type 0} (f : X → Bool) (xs ys : List X)
    → (list_any f xs || list_any f ys) ≡ list_any f (xs ++ ys)
any-append f [] ys = refl
any-append f (x ∷ xs) ys =
    sym (or-assoc (f x) (list_any f xs) (list_any f ys)) ∙ ap (λ b. f x || b) (any-append f xs ys)

any-cons : {X : Type 0} (f g : X → Bool) (x : X) (xs : List X) → (f x ≡ true → g x ≡ true)
    → (list_any f xs ≡ true → list_any g xs ≡ true) → (b : Bool) → f x ≡ b
    → (b || list_any f xs) ≡ true → list_any g (x ∷ xs) ≡ true
any-cons f g x xs here there true e h = rw (here e) refl
any-cons f g x xs here there false e h = or_right (g x) (list_any g xs) (there h)

pub any-weaker : {X : Type 0} (f g : X → Bool) (xs : List X) → ((x : X) → f x ≡ true → g x ≡ true)
    → list_any f xs ≡ true → list_any g xs ≡ true
any-weaker f g [] w h = cc
any-weaker f g (x ∷ xs) w h = any-cons f g x xs (w x) (any-weaker f g xs w) (f x) refl h

-- An item that passes two tests, where all pass the one and some the other.
pub some-of : {X : Type 0} (f h : X → Bool) (xs : List X) → list_all f xs ≡ true
    → list_any h xs ≡ true → (x : X) × (f x ≡ true) × (h x ≡ true)
some-of f h [] all any = cc
some-of {X} f h (x ∷ xs) all any =
    go (h x) refl (λ rest. some-of f h xs (and_parts (f x) (list_all f xs) all).1 rest)
  where
    go : (b : Bool) → h x ≡ b
        → (list_any h xs ≡ true → (y : X) × (f y ≡ true) × (h y ≡ true))
        → (y : X) × (f y ≡ true) × (h y ≡ true)
    go true e rest = (x, (and_parts (f x) (list_all f xs) all).0, e)
    go false e rest = rest (sym (ap (λ c. c || list_any h xs) e) ∙ any)

-- No item passes a test exactly when each fails it.
pub list_all-not : {X : Type 0} (p : X → Bool) (xs : List X)
    → list_all (λ x. not (p x)) xs ≡ not (list_any p xs)
list_all-not p [] = refl
list_all-not p (x ∷ xs) =
    elim (p x) as (λ b. (not b && list_all (λ y. not (p y)) xs)
    ≡ not (b || list_any p xs)) [ true ↦ refl | false ↦ list_all-not p xs ]

-- Facts of tests.
pub T-first : (a b : Bool) → T (a && b) → T a
T-first true b p = tt
T-first false b p = p

pub T-second : (a b : Bool) → T (a && b) → T b
T-second true b p = p
T-second false b p = absurd p

pub T-less : (o : Ordering) → T (is_lt o) → o ≡ Less
T-less Less p = refl
T-less Equal p = absurd p
T-less Greater p = absurd p

pub is_eq-equal : (o : Ordering) → is_eq o ≡ true → o ≡ Equal
is_eq-equal Less h = cc
is_eq-equal Equal h = refl
is_eq-equal Greater h = cc

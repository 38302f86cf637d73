-- Two lists are compared item by item.
use Rattle.std.proofs.Common.{◌≡◌, Bool, true, false, not, Option, Some, None, List, [], ◌∷◌, sym, ap, ◌∙◌, refl, subst}
use Rattle.std.specs.Prelude.{IsTrue, ◌↔◌}
use Rattle.std.specs.Map.Iter.{TakesFirst}
use Rattle.std.specs.Option.{is_some}

-- How far two lists were compared: what is left is the same exactly where the whole is.
pub record IsSoFar {X : Type 0} (all others left rest : List X) : Type 0 where
  pub then : all ≡ others → left ≡ rest
  pub back : left ≡ rest → all ≡ others

head_or : {X : Type 0} → X → List X → X
head_or d [] = d
head_or d (x ∷ xs) = x

head-cons : {X : Type 0} (d x : X) (xs : List X) → head_or d (x ∷ xs) ≡ x
unfolding head_or
head-cons d x xs = refl

tail : {X : Type 0} → List X → List X
tail [] = []
tail (x ∷ xs) = xs

tail-cons : {X : Type 0} (x : X) (xs : List X) → tail (x ∷ xs) ≡ xs
unfolding tail
tail-cons x xs = refl

same_heads : {X : Type 0} (x y : X) (xs ys : List X) → x ∷ xs ≡ y ∷ ys → x ≡ y
same_heads x y xs ys e = sym (head-cons x x xs) ∙ ap (head_or x) e ∙ head-cons x y ys

same_tails : {X : Type 0} (x y : X) (xs ys : List X) → x ∷ xs ≡ y ∷ ys → xs ≡ ys
same_tails x y xs ys e = sym (tail-cons x xs) ∙ ap tail e ∙ tail-cons y ys

none_is_some : {X : Type 0} (x : X) (xs : List X) → [] ≡ x ∷ xs → ⊥
none_is_some x xs e = cc

pub one_less : {X : Type 0} (all others left rest xs ys : List X) (x y : X) → IsSoFar all others left rest → left ≡ x ∷ xs → rest ≡ y ∷ ys → x ≡ y → IsSoFar all others xs ys
one_less all others left rest xs ys x y so e f same = record {
  then = λ g. same_tails x y xs ys (sym e ∙ so.then g ∙ f);
  back = λ g. so.back (e ∙ ap (λ z. z ∷ xs) same ∙ ap (λ zs. y ∷ zs) g ∙ sym f);
}

pub other_items : {X : Type 0} (all others left rest xs ys : List X) (x y : X) → IsSoFar all others left rest → left ≡ x ∷ xs → rest ≡ y ∷ ys → (x ≡ y → ⊥) → all ≡ others → ⊥
other_items all others left rest xs ys x y so e f other g = other (same_heads x y xs ys (sym e ∙ so.then g ∙ f))

pub too_few : {X : Type 0} (all others left rest xs : List X) (x : X) → IsSoFar all others left rest → left ≡ x ∷ xs → rest ≡ [] → all ≡ others → ⊥
too_few all others left rest xs x so e f g = none_is_some x xs (sym (sym e ∙ so.then g ∙ f))

pub too_many : {X : Type 0} (all others left rest ys : List X) (y : X) → IsSoFar all others left rest → left ≡ [] → rest ≡ y ∷ ys → all ≡ others → ⊥
too_many all others left rest ys y so e f g = none_is_some y ys (sym e ∙ so.then g ∙ f)

pub all_same : {X : Type 0} (all others left rest : List X) → IsSoFar all others left rest → left ≡ [] → rest ≡ [] → all ≡ others
all_same all others left rest so e f = so.back (e ∙ sym f)

-- Tests that say no and yes.
pub refuted : (P : Type 0) → (P → ⊥) → IsTrue false ↔ P
refuted P never = (λ t. cc, λ p. absurd (never p))

pub shown : (P : Type 0) → P → IsTrue true ↔ P
shown P p = (λ t. p, λ q. refl)

pub unequal : (b : Bool) (P : Type 0) → (P → b ≡ true) → not b ≡ true → P → ⊥
unequal true P f h p = cc
unequal false P f h p = let w : false ≡ true = f p in cc

pub by_none : {X : Type 0} (P : Type 0) (o : Option X) (b : Bool) → is_some o ≡ not b → (o ≡ None → P) → ((x : X) → o ≡ Some x → P → ⊥) → IsTrue b ↔ P
by_none P None true e f g = shown P (f refl)
by_none P None false e f g = cc
by_none P (Some x) true e f g = cc
by_none P (Some x) false e f g = refuted P (g x refl)

-- A step whose result is known.
pub step_none : {A X : Type 0} (shows : A → X) (s t : List X) (r : Option A) → TakesFirst shows s r t → r ≡ None → s ≡ []
step_none {A} shows s t r h e = (subst (λ (o : Option A). TakesFirst shows s o t) e h).0

pub step_some : {A X : Type 0} (shows : A → X) (s t : List X) (r : Option A) (x : A) → TakesFirst shows s r t → r ≡ Some x → s ≡ shows x ∷ t
step_some {A} shows s t r x h e = subst (λ (o : Option A). TakesFirst shows s o t) e h

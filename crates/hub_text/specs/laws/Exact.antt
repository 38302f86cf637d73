-- Tests of numbers, lists, structs and enums hold exactly when the values are the same.
use Rattle.std.specs.Prelude.{◌≡◌, ◌&&◌, ◌⊎◌, Bool, true, false, List, [], ◌∷◌, Some, None, is_some, Decides, nat_eq, ⊤}
use Rattle.std.specs.Bool.{beq}
use Rattle.std.specs.Cmp.{unsigned_Decides, booleans_Decides}
use Rattle.std.specs.Cmp.Derive.{of_values}
use Rattle.std.specs.Cmp.Lexicographic.{pointwise, pointwise_decides}
use Rattle.std.specs.Option.{option_eq, unwrap_or}
use Rattle.std.proofs.Common.{refl, sym, ap, subst, true≢false}
use mathlib.Core.Logic.{inl, inr}
use denote.Struct.Field.{Field}
use denote.Enum.Bare.{Bare, sameb, same_true, true_same}
use denote.Enum.Compared.{Each, by}
use denote.Enum.Declared.{Record, Choice, declared, values_one}
use Rattle.hub_text.specs.Exact.{IsExact}

pub nat_exact : IsExact nat_eq
nat_exact = unsigned_Decides

pub bool_exact : IsExact beq
bool_exact = booleans_Decides

pub items_exact : {A : Type 0} {E : A → A → Bool} → IsExact E → IsExact (pointwise E)
items_exact f = pointwise_decides f

pub option_exact : {A : Type 0} {E : A → A → Bool} → IsExact E → IsExact (option_eq E)
option_exact f None None = (λ _. refl, λ _. refl)
option_exact f None (Some y) =
    (λ e. absurd (true≢false (sym e)), λ e. absurd (true≢false (ap is_some (sym e))))
option_exact f (Some x) None =
    (λ e. absurd (true≢false (sym e)), λ e. absurd (true≢false (ap is_some e)))
option_exact f (Some x) (Some y) =
    (λ e. ap Some ((f x y).0 e), λ e. (f x y).1 (ap (λ o. unwrap_or o x) e))

-- ---- the fields of a struct

both : (s t : Bool) → (s && t) ≡ true → (s ≡ true) × (t ≡ true)
both true t e = (refl, e)
both false t e = absurd (true≢false (sym e))

-- Two tests decide two facts, so their conjunction decides both.
pub both_exact : {P Q : Type 0} {s t : Bool} → Decides s P → Decides t Q → Decides (s && t) (P × Q)
both_exact {s = s} {t} f g = (
  λ e. let two = both s t e in (f.0 two.0, g.0 two.1),
  λ p i. f.1 p.0 i && g.1 p.1 i,
)

-- ---- the fields of a variant, from the last one to the first

pub no_field : IsExact {A = Unit {0}} (λ x y. true)
no_field x y = (λ e. refl, λ e. refl)

pub last_field : {A : Type 0} {E : A → A → Bool} → IsExact E
    → IsExact (λ (x y : A × Unit {0}). E x.0 y.0)
last_field f x y = (λ e i. ((f x.0 y.0).0 e i, tt), λ e. (f x.0 y.0).1 (λ i. (e i).0))

pub next_field : {A B : Type 0} {E : A → A → Bool} {F : B → B → Bool} → IsExact E → IsExact F
    → IsExact (λ (x y : A × B). E x.0 y.0 && F x.1 y.1)
next_field f g x y =
    let two = both_exact (f x.0 y.0) (g x.1 y.1) in
    (λ e i. ((two.0 e).0 i, (two.0 e).1 i), λ e. two.1 (λ i. (e i).0, λ i. (e i).1))

-- ---- the variants of an enum

abbrev pub AreExact : (Fss : List (List Field)) → Each Bool Fss → Type 0
AreExact [] es = ⊤
AreExact (Fs ∷ Fss) es = IsExact es.0 × AreExact Fss es.1

abbrev IsLeft : {A B : Type 0} → A ⊎ B → Type 0
IsLeft (inl x) = ⊤
IsLeft (inr y) = ⊥

abbrev left_or : {A B : Type 0} → A → A ⊎ B → A
left_or a (inl x) = x
left_or a (inr y) = a

abbrev right_or : {A B : Type 0} → B → A ⊎ B → B
right_or b (inl x) = b
right_or b (inr y) = y

by_exact : (Fss : List (List Field)) (es : Each Bool Fss) → AreExact Fss es → (c d : Choice Fss)
    → Decides (by false false Fss es c d) (c ≡ d)
by_exact [] es all c d = absurd c
by_exact (Fs ∷ Fss) es all (inl x) (inl y) =
    (λ e. ap inl ((all.0 x y).0 e), λ e. (all.0 x y).1 (ap (left_or x) e))
by_exact (Fs ∷ Fss) es all (inl x) (inr y) =
    (λ e. absurd (true≢false (sym e)), λ e. absurd (subst IsLeft e tt))
by_exact (Fs ∷ Fss) es all (inr x) (inl y) =
    (λ e. absurd (true≢false (sym e)), λ e. absurd (subst IsLeft (sym e) tt))
by_exact (Fs ∷ Fss) es all (inr x) (inr y) =
    let rest = by_exact Fss es.1 all.1 x y in
    (λ e. ap inr (rest.0 e), λ e. rest.1 (ap (right_or x) e))

module _ (N : Record) where
  -- An enum with the derived `==`: `variants_exact enum _ (first, (second, (.., tt)))`, with the
  -- fields of each variant.
  pub variants_exact : (es : Each Bool N.parts) → AreExact N.parts es
      → IsExact (of_values N false false es)
  variants_exact es all x y =
      let those = by_exact N.parts es all (N.as_values x) (N.as_values y) in
      (λ e. values_one N x y (those.0 e), λ e. those.1 (ap N.as_values e))

  -- An enum whose variants have no fields, with the derived `==`: `tags_exact enum tt`.
  pub tags_exact : Bare N.parts → IsExact (sameb (declared N))
  tags_exact bare x y = (same_true (declared N) bare x y, true_same (declared N) x y)

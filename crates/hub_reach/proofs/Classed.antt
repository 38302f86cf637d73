-- Which characters have classes: those that may stand in a path's text, and none else.
use Rattle.std.proofs.Common.{◌≡◌, ◌∙◌, ◌==◌, ℕ, Bool, true, false, not, ◌&&◌, ◌||◌, cond, List, [], ◌∷◌, Some, None, ⊎_elim, refl, sym, ap, subst}
use Rattle.std.specs.Prelude.{IsTrue, unwrap_or}
use Rattle.std.specs.List.{position_from}
use Rattle.std.specs.Str.{all_scalars}
use Rattle.std.proofs.lemmas.Bool.{or_cases}
use lib.Utf8.{scalar}
use borrow.Author.Tests.{eqb-true}
use Rattle.hub_automaton.specs.Alphabet.{class_of, is_never_mentioned, is_path_character}
use Rattle.hub_reach.specs.Shape.{is_text_character}

some-bits : (b : Bool) (n k : ℕ) → cond b None (Some n) ≡ Some k → b ≡ false
some-bits true n k h = cc
some-bits false n k h = refl

none-bits : (b : Bool) (n : ℕ) → cond b None (Some n) ≡ None → b ≡ true
none-bits true n h = refl
none-bits false n h = cc

text-bits : (s slash l : Bool) → (s && true) ≡ true → l ≡ false → ((s && true) && not ((l || slash) && not slash)) ≡ true
text-bits true true false e f = refl
text-bits true false false e f = refl
text-bits true slash true e f = cc
text-bits false slash l e f = cc

pub classed-text : (ms : List ℕ) (x k : ℕ) → IsTrue (all_scalars (x ∷ [])) → class_of ms x ≡ Some k → IsTrue (is_text_character x)
classed-text ms x k s h = text-bits (scalar x) (x == 47) (is_never_mentioned x) s (some-bits (is_never_mentioned x) (unwrap_or (position_from (λ m. m == x) 1 ms) 0) k h)

not-slash : (x : ℕ) → is_never_mentioned x ≡ true → (x == 47) ≡ false
not-slash x h =
    ⊎_elim
    (λ e. ⊎_elim (λ f. ap (λ y. y == 47) (eqb-true x 0 f)) (λ f. ap (λ y. y == 47) (eqb-true x 10 f)) (or_cases (x == 0) (x == 10) e))
    (λ e. ap (λ y. y == 47) (eqb-true x 13 e))
    (or_cases (x == 0 || x == 10) (x == 13) h)

bad-bits : (a l slash : Bool) → l ≡ true → slash ≡ false → (a && not ((l || slash) && not slash)) ≡ false
bad-bits true true false e f = refl
bad-bits false true false e f = refl
bad-bits a true true e f = cc
bad-bits a false slash e f = cc

pub unclassed-text : (ms : List ℕ) (x : ℕ) → class_of ms x ≡ None → is_text_character x ≡ false
unclassed-text ms x h =
    let l = none-bits (is_never_mentioned x) (unwrap_or (position_from (λ m. m == x) 1 ms) 0) h in
    bad-bits (all_scalars (x ∷ [])) (is_never_mentioned x) (x == 47) l (not-slash x l)

same-bits : (s l : Bool) → (s && not ((l || false) && true)) ≡ (s && not l)
same-bits s true = refl
same-bits s false = refl

pub text-path : (x : ℕ) → is_text_character x ≡ is_path_character x
text-path x = go (x == 47) refl
  where
    go : (b : Bool) → (x == 47) ≡ b → is_text_character x ≡ is_path_character x
    go true e = subst (λ y. is_text_character y ≡ is_path_character y) (sym (eqb-true x 47 e)) refl
    go false e = (λ i. all_scalars (x ∷ []) && not ((is_never_mentioned x || e i) && not (e i))) ∙ same-bits (all_scalars (x ∷ [])) (is_never_mentioned x)

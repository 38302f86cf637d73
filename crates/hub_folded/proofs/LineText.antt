-- What an `ignore` line with a text in it spells.
use Rattle.std.proofs.Common.{◌≡◌, ℕ, Bool, true, false, List, [], ◌∷◌, ◌++◌, Option, Some, None, refl, sym, ap, ◌∙◌, chars, encode_utf8_all}
use Rattle.std.specs.Prelude.{if◌then◌else◌, codes, reverse, not, ◌&&◌, nat_eq}
use Rattle.std.specs.List.{starts_with}
use Rattle.hub_text.specs.laws.List.{some-item}
use Rattle.std.specs.Result.{result_ok}
use Rattle.std.specs.Str.{IsUtf8}
use Rattle.std.proofs.lemmas.List.{reverse-append}
use Rattle.std.proofs.lemmas.Str.{chars_from_encodes, encodes-IsAscii, encodes-append}
use Rattle.hub_text.specs.Blanks.{is_blank, skip_blanks}
use Rattle.hub_text.specs.Lines.{without_last}
use Rattle.hub_text.specs.laws.AsciiWords.{IsAscii-from_test}
use Rattle.hub_glob.specs.Specification.{Specification}
use Rattle.hub_glob.specs.Writing.{spec_text}
use Rattle.hub_profile.specs.Lines.{is_setting, setting, trimmed, trimmed_line}
use Rattle.hub_unison.specs.Lines.{line_spec, setting_spec}
use Rattle.hub_glob.specs.contracts.path_spec.PathSpecPartialEq.TheImpl as tested
use Rattle.hub_glob.specs.contracts.path_spec.PathSpecExact.TheImpl.Laws as tested_laws
use Rattle.hub_profile.specs.Parts.{some_passes}
use Rattle.hub_folded.specs.Lines.{if_spelled, line_of}
use Rattle.hub_folded.specs.OneLine.{value_spelled}

-- Blanks behind a character that is none.
skip-front : (xs ys : List ℕ) → skip_blanks (xs ++ 61 ∷ ys) ≡ skip_blanks xs ++ 61 ∷ ys
skip-front [] ys = refl
skip-front (x ∷ xs) ys = go (is_blank x) (skip-front xs ys)
  where
    go : (b : Bool) → skip_blanks (xs ++ 61 ∷ ys) ≡ skip_blanks xs ++ 61 ∷ ys
        → (if b then skip_blanks (xs ++ 61 ∷ ys) else x ∷ xs ++ 61 ∷ ys)
        ≡ (if b then skip_blanks xs else x ∷ xs) ++ 61 ∷ ys
    go true h = h
    go false h = refl

abbrev front : List ℕ
front = codes "ignore ="

trimmed-front : (w : List ℕ)
    → trimmed (front ++ w) ≡ front ++ reverse (skip_blanks (reverse w))
trimmed-front w =
    ap (λ t. reverse (skip_blanks t)) (reverse-append front w)
    ∙ (ap reverse (skip-front (reverse w) (codes " erongi"))
    ∙ reverse-append (skip_blanks (reverse w)) (61 ∷ codes " erongi"))

-- Such a line sets `ignore`.
set-value : (x : List ℕ)
    → setting_spec (if is_setting (front ++ x) then result_ok (setting (front ++ x)) else None)
    ≡ value_spelled (front ++ x)
set-value x =
    ap (λ b. setting_spec (if not b && not (starts_with nat_eq (front ++ x) (codes "#"))
    then result_ok (setting (front ++ x)) else None)) (some-item 105 (codes "gnore =" ++ x))

pub line-value : (t : List ℕ)
    → line_spec (codes "ignore = " ++ t) ≡ value_spelled (trimmed_line (codes "ignore = " ++ t))
line-value t =
    ap (λ m. setting_spec (if is_setting m then result_ok (setting m) else None)) (trimmed-front w)
    ∙ (set-value (reverse (skip_blanks (reverse w))) ∙ ap value_spelled (sym (trimmed-front w)))
  where
    w : List ℕ
    w = without_last 13 (32 ∷ t)

-- The text that is read in place of it.
pub value-read : (s : Specification) (bs line cs : List ℕ) (o : Option Specification)
    → IsUtf8 bs → line ≡ encode_utf8_all (line_of s) → bs ≡ line
    → cs ≡ trimmed_line (chars bs) → o ≡ value_spelled cs → o ≡ line_spec (line_of s)
value-read s bs line cs o valid written same is read =
    read
    ∙ (ap value_spelled (is
    ∙ ap trimmed_line (sym (chars_from_encodes (line_of s) bs valid (sym (same ∙ written)))))
    ∙ sym (line-value (spec_text s)))

-- A line is written.
pub line-written : (t : List ℕ) (a b c : List ℕ) → a ≡ codes "ignore = " → b ≡ encode_utf8_all t
    → c ≡ a ++ b → c ≡ encode_utf8_all (codes "ignore = " ++ t)
line-written t a b c first second more =
    more
    ∙ ((λ i. (first ∙ sym (encodes-IsAscii (codes "ignore = ") (IsAscii-from_test (codes "ignore = ") refl))) i ++ second i)
    ∙ sym (encodes-append (codes "ignore = ") t))

-- What is read of it is the specification, or isn't.
passed : (s : Specification) (o : Option Specification) (b : Bool) → o ≡ line_spec (line_of s)
    → some_passes (λ t. tested.eq-value.it t s) o ≡ b → if_spelled s ≡ (if b then Some s else None)
passed s o b e h =
    ap (λ c. if c then Some s else None)
    (ap (some_passes (λ t. tested.eq-value.it t s)) (sym e) ∙ h)

pub read-some : (s t : Specification) (o : Option Specification) → o ≡ Some t
    → o ≡ line_spec (line_of s) → tested.eq-value.it t s ≡ true → Some t ≡ if_spelled s
read-some s t o is e h =
    ap Some ((tested_laws.exact-law t s).0 h)
    ∙ sym (passed s o true e (ap (some_passes (λ t. tested.eq-value.it t s)) is ∙ h))

pub read-other : (s t : Specification) (o : Option Specification) → o ≡ Some t
    → o ≡ line_spec (line_of s) → tested.eq-value.it t s ≡ false → None ≡ if_spelled s
read-other s t o is e h =
    sym (passed s o false e (ap (some_passes (λ t. tested.eq-value.it t s)) is ∙ h))

pub read-none : (s : Specification) (o : Option Specification) → o ≡ None
    → o ≡ line_spec (line_of s) → None ≡ if_spelled s
read-none s o is e = sym (passed s o false e (ap (some_passes (λ t. tested.eq-value.it t s)) is))

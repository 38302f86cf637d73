-- What follows a text at the start of another one, by characters.
use Rattle.std.proofs.Common.{◌≡◌, ℕ, Bool, true, false, List, ◌++◌, Option, Some, None, MatchOption, length, drop, nat_eq, refl, sym, ap, ◌∙◌}
use Rattle.std.specs.List.{starts_with}
use Rattle.std.specs.Str.{IsUtf8, chars, encode_utf8_all}
use Rattle.std.specs.Str.Pattern.{FindsTextPrefix, StripsPrefix}
use Rattle.std.proofs.lemmas.Str.{encodes-chars, encodes-append, chars-append}
use Rattle.std.proofs.lemmas.List.{drop_at}
use Rattle.std.proofs.lemmas.Slice.Eq.{starts_is}
use Rattle.std.proofs.lemmas.Bool.Decides.{Decides-eqb}
use denote.Ref.{Bor}
use Rattle.hub_source.specs.Covering.{IsRestAfter}

-- The bytes begin so if the characters do.
front-bytes : (n s rest : List ℕ) → IsUtf8 n → IsUtf8 s → chars s ≡ chars n ++ rest → s ≡ n ++ encode_utf8_all rest
front-bytes n s rest u v e =
    sym (encodes-chars s v) ∙ ap encode_utf8_all e ∙ encodes-append (chars n) rest ∙ ap (λ t. t ++ encode_utf8_all rest) (encodes-chars n u)

-- The characters begin so if the bytes do.
front-chars : (n s rest : List ℕ) → IsUtf8 n → s ≡ n ++ rest → chars s ≡ chars n ++ chars rest
front-chars n s rest u e = ap chars e ∙ chars-append n rest u

-- What `strip_prefix` leaves of a text.
pub follows : (n s : List ℕ) (r : Option (Bor (List ℕ))) → IsUtf8 n → IsUtf8 s
    → MatchOption r (FindsTextPrefix n s None) (λ x. StripsPrefix (FindsTextPrefix n) s x.now) → IsRestAfter (chars n) (chars s) r
follows n s None u v h = by (starts_with nat_eq (chars s) (chars n)) refl
  where
    by : (b : Bool) → starts_with nat_eq (chars s) (chars n) ≡ b → b ≡ false
    by false e = refl
    by true e =
        let begun = (starts_is Decides-eqb (chars s) (chars n) (starts_with nat_eq (chars s) (chars n)) refl).0 e in
        absurd (h (encode_utf8_all (drop (length (chars n)) (chars s))) (front-bytes n s (drop (length (chars n)) (chars s)) u v begun))
follows n s (Some x) u v h =
    let whole : chars s ≡ chars n ++ chars x.now = front-chars n s (drop h.0 s) u h.1.1 ∙ ap (λ t. chars n ++ chars t) (sym h.2) in (
      (starts_is Decides-eqb (chars s) (chars n) (starts_with nat_eq (chars s) (chars n)) refl).1 (chars x.now) whole,
      sym (ap (drop (length (chars n))) whole ∙ drop_at (chars n) (chars x.now) (length (chars n)) refl),
    )

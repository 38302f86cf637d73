-- Words of ASCII characters.
use Rattle.std.proofs.Common.{◌≡◌, ℕ, suc, zero, ◌<◌, true, List, [], ◌∷◌, ◌++◌, lit<, refl, sym, ap, ◌∙◌, arith, get_or, length, bytes_eq, nat_lt, nat_eq, Decides, MatchBool, None, encode_utf8, Bool}
use Rattle.std.specs.List.{list_all, starts_with}
use Rattle.std.specs.Str.{IsUtf8, IsAscii, chars, encode_utf8_all}
use Rattle.std.specs.Str.Pattern.{HasPrefixMatch, FindsCharPrefix}
use Rattle.std.proofs.lemmas.Str.{encodes-chars, byte_from_char, char_from_byte, length-le-encodes}
use Rattle.std.proofs.lemmas.Str.Pattern.{starts_char}
use Rattle.std.proofs.lemmas.Bool.{and_parts, and_from, ltb-true, eqb-true, eq-eqb, false≢true}
use Rattle.std.proofs.lemmas.Bool.Decides.{same_from_decides, Decides-like}
use Rattle.std.proofs.lemmas.Slice.Eq.{bytes_eq-Decides}
use Rattle.hub_text.specs.laws.Texts.{bytes_eq-chars}

pub IsAscii-from_test : (t : List ℕ) → list_all (λ c. nat_lt c 128) t ≡ true → IsAscii t
IsAscii-from_test [] h i = lit< tt
IsAscii-from_test (c ∷ cs) h zero = ltb-true c 128 (and_parts _ _ h).0
IsAscii-from_test (c ∷ cs) h (suc i) = IsAscii-from_test cs (and_parts _ _ h).1 i

-- A text is such a word exactly when its characters are.
pub is_word : (bs t : List ℕ) → IsUtf8 bs → list_all (λ c. nat_lt c 128) t ≡ true
    → bytes_eq bs t ≡ bytes_eq (chars bs) t
is_word bs t u a = bytes_eq-chars bs t u (IsAscii-from_test t a)

-- A text that is compared with such a word is it exactly when its characters are.
pub word_is : (t bs : List ℕ) → IsUtf8 bs → list_all (λ c. nat_lt c 128) t ≡ true
    → bytes_eq t bs ≡ bytes_eq (chars bs) t
word_is t bs u a =
    same_from_decides (bytes_eq t bs) (bytes_eq bs t) (bytes_eq-Decides t bs)
    (Decides-like (bytes_eq bs t) sym sym (bytes_eq-Decides bs t)) ∙ is_word bs t u a

begins_by : (c : ℕ) → 0 < c → c < 128 → (cs bs : List ℕ) → encode_utf8_all cs ≡ bs
    → Decides (starts_with nat_eq cs (c ∷ [])) (get_or bs 0 0 ≡ c)
begins_by c over low [] bs e =
    (λ f. absurd (false≢true f), λ g. absurd (omega (arith, ap (λ t. get_or t 0 0) e, g)))
begins_by c over low (d ∷ ds) bs e = (
  λ f. let same =
      eqb-true c d (and_parts _ _ f).0 in byte_from_char bs (encode_utf8_all ds) c
      (sym e ∙ ap (λ x. encode_utf8 x ++ encode_utf8_all ds) (sym same)) low,
  λ g. let same : d ≡ get_or bs 0 0 =
      char_from_byte bs (encode_utf8_all ds) d (sym e) (omega arith)
      (omega (arith, length-le-encodes (d ∷ ds), ap length e))
      in and_from (nat_eq c d) true (eq-eqb c d (omega arith)) refl,
)

-- Whether a text begins with an ASCII character.
pub begins-ascii : (c : ℕ) (bs : List ℕ) (r : Bool) → 0 < c → c < 128 → IsUtf8 bs
    → MatchBool r (HasPrefixMatch (FindsCharPrefix c) bs) (FindsCharPrefix c bs None)
    → r ≡ starts_with nat_eq (chars bs) (c ∷ [])
begins-ascii c bs r over low u h =
    same_from_decides r (starts_with nat_eq (chars bs) (c ∷ [])) (starts_char c bs r h low over)
    (begins_by c over low (chars bs) bs (encodes-chars bs u))

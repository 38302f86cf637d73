-- Tests on the bytes of a text, as tests on its characters.
use Rattle.std.proofs.Common.{◌≡◌, ◌==◌, ℕ, suc, zero, List, [], ◌∷◌, length, refl, sym, ap, ◌∙◌, arith, lit<, ◌+◌, length-append}
use Rattle.std.specs.Prelude.{sum_by}
use Rattle.std.specs.Char.{len_utf8, encode_utf8}
use Rattle.std.specs.Str.{IsUtf8, IsAscii, chars, encode_utf8_all, bytes_eq}
use Rattle.std.proofs.lemmas.Str.{encodes-chars, encodes-IsAscii, chars-IsAscii, length-encode}
use Rattle.std.proofs.lemmas.List.Sums.{sum_by-cons}
use Rattle.std.proofs.lemmas.Bool.Decides.{same_from_decides, Decides-like, nat_tests}
use Rattle.std.proofs.lemmas.Slice.Eq.{bytes_eq-Decides}

pub bytes_eq-chars : (bs t : List ℕ) → IsUtf8 bs → IsAscii t → bytes_eq bs t ≡ bytes_eq (chars bs) t
bytes_eq-chars bs t u a =
    same_from_decides _ _ (bytes_eq-Decides bs t)
    (Decides-like (bytes_eq (chars bs) t)
    (λ e. sym (encodes-chars bs u) ∙ (ap encode_utf8_all e ∙ encodes-IsAscii t a))
    (λ e. ap chars e ∙ chars-IsAscii t a) (bytes_eq-Decides (chars bs) t))

pub nil_ascii : IsAscii []
nil_ascii i = lit< tt

pub dot_ascii : IsAscii (46 ∷ [])
dot_ascii zero = lit< tt
dot_ascii (suc i) = lit< tt

pub dots_ascii : IsAscii (46 ∷ 46 ∷ [])
dots_ascii zero = lit< tt
dots_ascii (suc zero) = lit< tt
dots_ascii (suc (suc i)) = lit< tt

pub is_nil : (xs : List ℕ) → (length xs == 0) ≡ bytes_eq xs []
is_nil [] = refl
is_nil (x ∷ xs) = grind (arith, nat_tests)

-- Two texts are the same where their characters are.
pub same_texts : (a b : List ℕ) → IsUtf8 a → IsUtf8 b → bytes_eq a b ≡ bytes_eq (chars a) (chars b)
same_texts a b u v =
    same_from_decides _ _ (bytes_eq-Decides a b)
    (Decides-like (bytes_eq (chars a) (chars b))
    (λ e. sym (encodes-chars a u) ∙ (ap encode_utf8_all e ∙ encodes-chars b v))
    (λ e. ap chars e) (bytes_eq-Decides (chars a) (chars b)))

-- How many bytes characters take.
pub length-encodes : (cs : List ℕ) → length (encode_utf8_all cs) ≡ sum_by len_utf8 cs
length-encodes [] = refl
length-encodes (c ∷ cs) =
    length-append (encode_utf8 c) (encode_utf8_all cs)
    ∙ (ap (λ n. n + length (encode_utf8_all cs)) (length-encode c)
    ∙ (ap (λ n. len_utf8 c + n) (length-encodes cs) ∙ sym (sum_by-cons len_utf8 c cs)))

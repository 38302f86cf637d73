-- What digits are read as.
use Rattle.std.proofs.Common.{◌≡◌, ◌∙◌, ◌==◌, cond, Bool, true, false, not, ◌&&◌, ℕ, List, [], length, bytes_eq, chars, IsUtf8, Some, None, Ok, refl, ap}
use Rattle.std.specs.Prelude.{codes}
use Rattle.std.specs.Str.{is_utf8}
use Rattle.std.proofs.lemmas.Str.{IsUtf8-from_is_utf8, is_utf8-from_IsUtf8}
use Rattle.hex.specs.Hex.{decode_of}
use Rattle.hub_cert.specs.Reading.{decoded_text, text_in}

pub read-empty : (ds : List ℕ) → bytes_eq ds (codes "-") ≡ true → text_in ds ≡ Some []
read-empty ds h = ap (λ b. cond b (Some []) (decoded_text (decode_of ds))) h

read-decoded : (ds bs : List ℕ) → bytes_eq ds (codes "-") ≡ false → decode_of ds ≡ Ok bs → text_in ds ≡ decoded_text (Ok bs)
read-decoded ds bs h d = λ i. cond (h i) (Some []) (decoded_text (d i))

pub read-some : (ds bs : List ℕ) → bytes_eq ds (codes "-") ≡ false → decode_of ds ≡ Ok bs → (length bs == 0) ≡ false → IsUtf8 bs → text_in ds ≡ Some (chars bs)
read-some ds bs h d some valid =
    let v = is_utf8-from_IsUtf8 bs valid in
    read-decoded ds bs h d ∙ (λ i. cond (not (some i) && v i) (Some (chars bs)) None)

unless : (b : Bool) (e : Bool) (t : List ℕ) → (b ≡ true → ⊥) → cond (not e && b) (Some t) None ≡ None
unless true e t never = absurd (never refl)
unless false true t never = refl
unless false false t never = refl

pub read-none : (ds bs : List ℕ) → bytes_eq ds (codes "-") ≡ false → decode_of ds ≡ Ok bs → (IsUtf8 bs → ⊥) → text_in ds ≡ None
read-none ds bs h d broken = read-decoded ds bs h d ∙ unless (is_utf8 bs) (length bs == 0) (chars bs) (λ v. broken (IsUtf8-from_is_utf8 bs v))

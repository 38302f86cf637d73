-- Paths, roots and bytes as fields of a line: they read as what was written.
use Rattle.std.proofs.Common.{◌≡◌, ℕ, zero, suc, ◌*◌, ◌<◌, Bool, true, false, not, ◌==◌, cond, List, [], ◌∷◌, length, refl, sym, ap, ◌∙◌, arith, subst}
use Rattle.std.specs.Prelude.{codes, None, Ok, nat_lt, bytes_eq, slice_index}
use Rattle.std.specs.List.{list_all}
use Rattle.std.specs.Str.{IsUtf8, IsAscii}
use Rattle.std.proofs.lemmas.Str.{chars-encodes, IsUtf8-from_ascii}
use Rattle.std.proofs.lemmas.Bool.Decides.{nat_tests}
use Rattle.hex.specs.Hex.{IsBytes, encode_with, encode_lower, lower_digits, decode_of}
use Rattle.hex.proofs.HexLemmas.{decode_of-encode_lower, IsAscii-encode_with, length-encode_with}
use lib.Utf8.{encode}
use Rattle.hub_text.specs.laws.List.{some-item}
use Rattle.hub_text.specs.laws.Test.{second_of_four}
use Rattle.hub_path.specs.Path.{Name, Path, is_place, is_path, is_forbidden, text_of}
use Rattle.hub_path.specs.Reading.{names_fault, path_reading, root_reading}
use Rattle.hub_path.specs.laws.NameFacts.{name_parts}
use Rattle.hub_path.specs.laws.ReadBack.{path-place, path_reading-names, root_reading-names}
use Rattle.std.proofs.lemmas.Bool.{and_parts, and_from}
use Rattle.std.proofs.Math.Bool.{and-false}
use Rattle.hub_state.specs.State.{root_chars, root_text}
use Rattle.hub_state.specs.Writing.{path_bytes, hex_field}
use Rattle.hub_state.specs.Reading.{path_field, root_field, bytes_field, digest_field, or_else, unless}
use Rattle.hub_state.specs.declared.fault.Fault.TheVariants.{BadPath, BadHex}
use Rattle.hub_state.proofs.Lines.{in_line, in_field, encodes-in_line, digits-in_line, digits-in_field}
use Rattle.hub_path.specs.laws.Text.{joined-pass, scalars-text}

allowed-pass : (f : ℕ → Bool) → ((c : ℕ) → not (is_forbidden c) ≡ true → f c ≡ true) → (n : Name) → list_all (λ c. not (is_forbidden c)) n ≡ true → list_all f n ≡ true
allowed-pass f one [] h = refl
allowed-pass f one (c ∷ n) h =
    let parts = and_parts (not (is_forbidden c)) (list_all (λ c. not (is_forbidden c)) n) h in
    and_from (f c) (list_all f n) (one c parts.0) (allowed-pass f one n parts.1)

pub text-in_line : (p : Path) → is_place p ≡ true → list_all in_line (text_of p) ≡ true
text-in_line p h =
    joined-pass in_line refl (λ n k. allowed-pass in_line (λ c g. second_of_four (c == 0) (c == 10) (c == 13) (c == 47) g) n (name_parts n k).allowed) p h

pub path-in_line : (p : Path) → is_place p ≡ true → list_all in_line (path_bytes p) ≡ true
path-in_line p h = encodes-in_line (text_of p) (text-in_line p h)

pub root-in_line : (r : Path) → is_place r ≡ true → list_all in_line (root_text r) ≡ true
root-in_line r h = encodes-in_line (root_chars r) (text-in_line r h)

pub IsUtf8-path : (p : Path) → is_place p ≡ true → IsUtf8 (path_bytes p)
IsUtf8-path p h = (text_of p, (scalars-text p h, refl))

pub IsUtf8-root : (r : Path) → is_place r ≡ true → IsUtf8 (root_text r)
IsUtf8-root r h = (root_chars r, (scalars-text r h, refl))

-- A path, and a root, reads as itself.
pub path_field-written : (p : Path) → is_path p ≡ true → names_fault 0 p ≡ None → path_field (path_bytes p) ≡ Ok p
path_field-written p h fine =
    ap (λ t. or_else BadPath (path_reading t)) (chars-encodes (text_of p) (scalars-text p (path-place p h)))
    ∙ ap (or_else BadPath) (path_reading-names p h fine)

pub root_field-written : (r : Path) → is_place r ≡ true → names_fault 0 r ≡ None → root_field (root_text r) ≡ Ok r
root_field-written r h fine =
    ap (λ t. or_else BadPath (root_reading t)) (chars-encodes (root_chars r) (scalars-text r h))
    ∙ ap (or_else BadPath) (root_reading-names r h fine)

-- Bytes read as themselves.
no_dash-digits : (b : ℕ) (bytes : List ℕ) → bytes_eq (encode_lower (b ∷ bytes)) (codes "-") ≡ false
unfolding encode_with
no_dash-digits b bytes = and-false _

some_digits : (b : ℕ) (bytes : List ℕ) → (length (encode_lower (b ∷ bytes)) == 0) ≡ false
unfolding encode_with
some_digits b bytes = grind (arith, nat_tests)

some_bytes : (b : ℕ) (bytes : List ℕ) → hex_field (b ∷ bytes) ≡ encode_lower (b ∷ bytes)
some_bytes b bytes = rw (some-item b bytes) refl

digits_read : (b : ℕ) (bytes : List ℕ) → IsBytes (b ∷ bytes) → bytes_field (encode_lower (b ∷ bytes)) ≡ Ok (b ∷ bytes)
digits_read b bytes h =
    ap (λ t. cond t (Ok []) (unless (length (encode_lower (b ∷ bytes)) == 0) BadHex (or_else BadHex (decode_of (encode_lower (b ∷ bytes)))))) (no_dash-digits b bytes)
    ∙ ap (λ t. unless t BadHex (or_else BadHex (decode_of (encode_lower (b ∷ bytes))))) (some_digits b bytes)
    ∙ ap (or_else BadHex) (decode_of-encode_lower (b ∷ bytes) h)

pub bytes_field-written : (bytes : List ℕ) → IsBytes bytes → bytes_field (hex_field bytes) ≡ Ok bytes
bytes_field-written [] h = refl
bytes_field-written (b ∷ bytes) h = ap bytes_field (some_bytes b bytes) ∙ digits_read b bytes h

pub digest_field-written : (digest : List ℕ) → length digest ≡ 32 → IsBytes digest → digest_field (encode_lower digest) ≡ Ok digest
digest_field-written digest l h =
    let n : length (encode_lower digest) ≡ 64 = length-encode_with lower_digits digest ∙ ap (λ n. 2 * n) l in
    ap (λ n. unless (not (n == 64)) BadHex (or_else BadHex (decode_of (encode_lower digest)))) n ∙ ap (or_else BadHex) (decode_of-encode_lower digest h)

-- Such fields are text, in a line and without a space.
digits_ascii : IsAscii lower_digits
digits_ascii i = small lower_digits i refl
  where
    small : (t : List ℕ) (i : ℕ) → list_all (λ b. nat_lt b 128) t ≡ true → slice_index t i < 128
    small [] i h = omega arith
    small (b ∷ t) zero h = let k = (and_parts (nat_lt b 128) (list_all (λ b. nat_lt b 128) t) h).0 in grind (arith, nat_tests)
    small (b ∷ t) (suc i) h = small t i (and_parts (nat_lt b 128) (list_all (λ b. nat_lt b 128) t) h).1

pub IsUtf8-digits : (bytes : List ℕ) → IsUtf8 (encode_lower bytes)
IsUtf8-digits bytes = IsUtf8-from_ascii (encode_lower bytes) (IsAscii-encode_with lower_digits bytes digits_ascii)

dash_utf8 : IsUtf8 (codes "-")
unfolding encode
dash_utf8 = (codes "-", (refl, refl))

pub IsUtf8-hex : (bytes : List ℕ) → IsUtf8 (hex_field bytes)
IsUtf8-hex [] = dash_utf8
IsUtf8-hex (b ∷ bytes) = subst IsUtf8 (sym (some_bytes b bytes)) (IsUtf8-digits (b ∷ bytes))

pub hex-in_line : (bytes : List ℕ) → list_all in_line (hex_field bytes) ≡ true
hex-in_line [] = refl
hex-in_line (b ∷ bytes) = ap (list_all in_line) (some_bytes b bytes) ∙ digits-in_line (b ∷ bytes)

pub hex-in_field : (bytes : List ℕ) → list_all in_field (hex_field bytes) ≡ true
hex-in_field [] = refl
hex-in_field (b ∷ bytes) = ap (list_all in_field) (some_bytes b bytes) ∙ digits-in_field (b ∷ bytes)

-- Loops over hexadecimal digits, which go on past a wrong one.
use Rattle.std.proofs.Common.{◌≡◌, ℕ, ◌+◌, ◌*◌, ◌%◌, ◌<◌, ◌≤◌, Bool, true, false, inl, inr, List, length, take, drop, slice_index, slice_set, refl, sym, ap, ◌∙◌, arith}
use Rattle.std.specs.Prelude.{Option, Some, None, Result, Ok, Err, IsErr, max, unwrap_or}
use Rattle.std.proofs.lemmas.Bool.{cases_lt}
use Rattle.hex.specs.Hex.{decode_pairs, hex_digit_value, pair_value}
use Rattle.hex.specs.declared.error.FromHexError.{FromHexError}
use Rattle.hex.proofs.Pairs.{prepend, decode_step, decode_err, decode_done, decode_start}
use Rattle.hub_state.specs.Digits.{AreRead}

-- The first pairs are read, and the largest value of their digits tells whether all of them are digits.
abbrev pub PairsRead : List ℕ → List ℕ → ℕ → ℕ → Type 0
PairsRead text out i largest =
    (largest < 16 → decode_pairs 0 text ≡ prepend (take i out) (decode_pairs (2 * i) (drop (2 * i) text)))
    × (16 ≤ largest → IsErr (decode_pairs 0 text))

-- What a digit stands for, or a number above all digits.
abbrev pub value_or : ℕ → ℕ
value_or c = unwrap_or (hex_digit_value c) 255

is_digit : (o : Option ℕ) → unwrap_or o 255 < 16 → o ≡ Some (unwrap_or o 255)
is_digit (Some v) h = refl
is_digit None h = absurd (omega arith)

small_value : (c v : ℕ) → hex_digit_value c ≡ Some v → v < 16
small_value c v h = grind (arith)

no_digit : (c : ℕ) (o : Option ℕ) → hex_digit_value c ≡ o → 16 ≤ unwrap_or o 255 → o ≡ None
no_digit c (Some v) e h = absurd (let small = small_value c v e in omega (arith, small))
no_digit c None e h = refl

good_pair : (a b i : ℕ) → value_or a < 16 → value_or b < 16 → pair_value a b i ≡ Ok (value_or a * 16 + value_or b)
good_pair a b i h l = rw (is_digit (hex_digit_value a) h, is_digit (hex_digit_value b) l) refl

first_bad : (a b i : ℕ) → hex_digit_value a ≡ None → IsErr (pair_value a b i)
first_bad a b i h = rw h refl

second_bad : (a b i : ℕ) → value_or a < 16 → hex_digit_value b ≡ None → IsErr (pair_value a b i)
second_bad a b i h l = rw (is_digit (hex_digit_value a) h, l) refl

error_of : (r : Result ℕ FromHexError) → IsErr r → (e : FromHexError) × (r ≡ Err e)
error_of (Ok v) h = cc h
error_of (Err e) h = (e, refl)

stops : (text out : List ℕ) (i : ℕ) → 2 * i + 1 < length text
    → IsErr (pair_value (slice_index text (2 * i)) (slice_index text (2 * i + 1)) (2 * i))
    → decode_pairs 0 text ≡ prepend (take i out) (decode_pairs (2 * i) (drop (2 * i) text))
    → IsErr (decode_pairs 0 text)
stops text out i fits bad before =
    let e = error_of (pair_value (slice_index text (2 * i)) (slice_index text (2 * i + 1)) (2 * i)) bad in
    rw (decode_err text out i e.0 fits e.1 before) refl

pub pairs-none : (text out : List ℕ) → PairsRead text out 0 0
pairs-none text out = (λ _. decode_start text out, λ h. absurd (omega arith))

pub pairs-more : (text out : List ℕ) (i largest high low byte : ℕ) → 2 * i + 1 < length text → i < length out
    → high ≡ value_or (slice_index text (2 * i)) → low ≡ value_or (slice_index text (2 * i + 1))
    → byte ≡ (high * 16 % 256 + low) % 256
    → PairsRead text out i largest
    → PairsRead text (slice_set out i byte) (i + 1) (max (max largest high) low)
pairs-more text out i largest high low byte fits room eh el eb before = (good, bad)
  where
    a : ℕ
    a = slice_index text (2 * i)

    b : ℕ
    b = slice_index text (2 * i + 1)

    good : max (max largest high) low < 16
        → decode_pairs 0 text ≡ prepend (take (i + 1) (slice_set out i byte)) (decode_pairs (2 * (i + 1)) (drop (2 * (i + 1)) text))
    good h =
        let whole : byte ≡ value_or a * 16 + value_or b = omega (arith, eh, el, eb, h) in
        decode_step text out i byte fits room
        (good_pair a b (2 * i) (omega (arith, eh, h)) (omega (arith, el, h)) ∙ ap Ok (sym whole))
        (before.0 (omega (arith, h)))

    bad : 16 ≤ max (max largest high) low → IsErr (decode_pairs 0 text)
    bad h =
        elim (cases_lt largest 16) [
          | inl small ↦ elim (cases_lt high 16) [
            | inl one ↦ stops text out i fits
                (second_bad a b (2 * i) (omega (arith, eh, one)) (no_digit b (hex_digit_value b) refl (omega (arith, el, h, small, one))))
                (before.0 small)
            | inr none ↦ stops text out i fits
                (first_bad a b (2 * i) (no_digit a (hex_digit_value a) refl (omega (arith, eh, none))))
                (before.0 small)
          ]
          | inr large ↦ before.1 large
        ]

failed : (r : Result (List ℕ) FromHexError) (all : Bool) (out : List ℕ) → IsErr r → all ≡ false → AreRead r all out
failed (Ok bytes) all out h e = cc h
failed (Err f) all out h e = e

pub pairs-all : (text out : List ℕ) (i largest : ℕ) (all : Bool) → length out ≤ i → length text ≤ 2 * i
    → (largest < 16 → all ≡ true) → (16 ≤ largest → all ≡ false)
    → PairsRead text out i largest → AreRead (decode_pairs 0 text) all out
pairs-all text out i largest all room fits whole broken before =
    elim (cases_lt largest 16) [
      | inl small ↦ rw (decode_done text out i room fits (before.0 small)) (whole small, refl)
      | inr large ↦ failed (decode_pairs 0 text) all out (before.1 large) (broken large)
    ]

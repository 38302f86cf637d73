-- Bytes cut at their first space, and the values of digits.
use Rattle.std.proofs.Common.{◌≡◌, ℕ, zero, suc, ◌-◌, ◌≤◌, true, ◌&&◌, List, [], ◌∷◌, length, take, Option, Some, None, arith}
use Rattle.std.specs.Prelude.{nat_le, unwrap_or}
use Rattle.std.specs.List.{list_all, position_or_len}
use Rattle.std.proofs.lemmas.Bool.{and_parts, false_from_ne_true}
use Rattle.std.proofs.lemmas.Bool.Decides.{nat_tests}
use Rattle.std.proofs.lemmas.List.Sums.{position_or_len_is}
use Rattle.memchr.specs.Find.{IsFirstByte, is_byte}
use Rattle.hub_cert.specs.Reading.{is_digit, decimal_value}
use Rattle.hub_text.specs.Blanks.{is_space}

-- The place of the first space, or the length.
pub space-place : (s : List ℕ) (r : Option ℕ) → IsFirstByte (is_byte 32) s r → position_or_len is_space s ≡ unwrap_or r (length s)
space-place s None h = position_or_len_is is_space s (length s) 0 (omega arith) (λ k l. false_from_ne_true _ (h k (omega arith) l)) (λ l. absurd (omega (arith, l)))
space-place s (Some k) h =
    let l = h.0.high in
    position_or_len_is is_space s k 0 (omega (arith, l)) (λ j m. false_from_ne_true _ (h.0.before j (omega arith) m)) (λ m. h.1)

digit-bounds : (d : ℕ) → is_digit d ≡ true → (48 ≤ d) × (d ≤ 57)
digit-bounds d h = let w = and_parts (nat_le 48 d) (nat_le d 57) h in (grind (arith, nat_tests, w.0), grind (arith, nat_tests, w.1))

-- The value of three digits at most.
pub small : (ds : List ℕ) (i : ℕ) → list_all is_digit ds ≡ true → i ≤ 3 → decimal_value (take i ds) ≤ 999
small ds zero h l = omega arith
small [] (suc i) h l = omega arith
small (a ∷ ds) (suc zero) h l = let x = digit-bounds a (and_parts (is_digit a) (list_all is_digit ds) h).0 in omega (arith, x.0, x.1)
small (a ∷ []) (suc (suc i)) h l = let x = digit-bounds a (and_parts (is_digit a) true h).0 in omega (arith, x.0, x.1)
small (a ∷ b ∷ ds) (suc (suc zero)) h l =
    let v = and_parts (is_digit a) (is_digit b && list_all is_digit ds) h in
    let x = digit-bounds a v.0 in
    let y = digit-bounds b (and_parts (is_digit b) (list_all is_digit ds) v.1).0 in
    omega (arith, x.0, x.1, y.0, y.1)
small (a ∷ b ∷ []) (suc (suc (suc i))) h l =
    let v = and_parts (is_digit a) (is_digit b && true) h in
    let x = digit-bounds a v.0 in
    let y = digit-bounds b (and_parts (is_digit b) true v.1).0 in
    omega (arith, x.0, x.1, y.0, y.1)
small (a ∷ b ∷ c ∷ ds) (suc (suc (suc zero))) h l =
    let v = and_parts (is_digit a) (is_digit b && (is_digit c && list_all is_digit ds)) h in
    let u = and_parts (is_digit b) (is_digit c && list_all is_digit ds) v.1 in
    let x = digit-bounds a v.0 in
    let y = digit-bounds b u.0 in
    let z = digit-bounds c (and_parts (is_digit c) (list_all is_digit ds) u.1).0 in
    omega (arith, x.0, x.1, y.0, y.1, z.0, z.1)
small (a ∷ b ∷ c ∷ ds) (suc (suc (suc (suc i)))) h l = absurd (omega (arith, l))

-- A bit of a number as a test, through each operation.
use Rattle.std.proofs.Common.{◌≡◌, ℕ, zero, suc, ◌+◌, ◌*◌, ◌/◌, ◌%◌, ◌^◌, ◌<◌, min, max, Bool, true, false, not, ◌&&◌, ◌||◌, ◌==◌, List, [], ◌∷◌, length, refl, sym, ap, ◌∙◌, arith, add-one}
use Rattle.std.specs.Int.{bit_at}
use Rattle.std.specs.Prelude.{slice_index_or}
use Rattle.std.specs.Int.RustNames.{bit_or, bit_xor}
use Rattle.std.proofs.lemmas.Nat.{shr-shr}
use Rattle.std.proofs.lemmas.Nat.Bits.{bit_at_and, bit_at_or, bit_at_xor, bit_at-suc, bit_at_lowest, bit_at-zero, bit_at_cat_low, bit_at-lt, same_from_bits_below}
use lib.Bits.{bit_and}
use mir.Val.{bool_byte}
use Rattle.hub_automaton.specs.Words.{word}

-- Whether that bit of a number is set.
unfoldable pub test : ℕ → ℕ → Bool
test n i = bit_at n i == 1

abbrev pub differ : Bool → Bool → Bool
differ true b = not b
differ false b = b

bit_cases : (P : ℕ → Type 0) → P 0 → P 1 → (x : ℕ) → x < 2 → P x
bit_cases P p q zero h = p
bit_cases P p q (suc zero) h = q
bit_cases P p q (suc (suc r)) h = absurd (omega arith)

two_bits : (P : ℕ → ℕ → Type 0) → P 0 0 → P 0 1 → P 1 0 → P 1 1 → (a b i : ℕ) → P (bit_at a i) (bit_at b i)
two_bits P p q r s a b i =
    bit_cases (λ x. P x (bit_at b i)) (bit_cases (P 0) p q (bit_at b i) (bit_at-lt b i)) (bit_cases (P 1) r s (bit_at b i) (bit_at-lt b i)) (bit_at a i) (bit_at-lt a i)

pub test-and : (a b i : ℕ) → test (bit_and a b) i ≡ (test a i && test b i)
unfolding test
test-and a b i = ap (λ n. n == 1) (bit_at_and a b i) ∙ two_bits (λ x y. (min x y == 1) ≡ ((x == 1) && (y == 1))) refl refl refl refl a b i

pub test-or : (a b i : ℕ) → test (bit_or a b) i ≡ (test a i || test b i)
unfolding test
test-or a b i = ap (λ n. n == 1) (bit_at_or a b i) ∙ two_bits (λ x y. (max x y == 1) ≡ ((x == 1) || (y == 1))) refl refl refl refl a b i

pub test-xor : (a b i : ℕ) → test (bit_xor a b) i ≡ differ (test a i) (test b i)
unfolding test
test-xor a b i = ap (λ n. n == 1) (bit_at_xor a b i) ∙ two_bits (λ x y. ((x + y) % 2 == 1) ≡ differ (x == 1) (y == 1)) refl refl refl refl a b i

pub test-zero : (i : ℕ) → test 0 i ≡ false
unfolding test
test-zero i = ap (λ n. n == 1) (bit_at-zero i)

pub test-low : (n i : ℕ) → i < 64 → test (n % 2 ^ 64) i ≡ test n i
unfolding test
test-low n i l =
    let e : n / 2 ^ 64 * 2 ^ 64 + n % 2 ^ 64 ≡ n = omega arith in
    ap (λ b. b == 1) (sym (bit_at_cat_low (n / 2 ^ 64) 64 (n % 2 ^ 64) i l) ∙ ap (λ m. bit_at m i) e)

-- One bit further up.
doubled : (n i : ℕ) → test (n * 2 ^ 1) (suc i) ≡ test n i
unfolding test
doubled n i = let h : n * 2 ^ 1 / 2 ≡ n = omega arith in ap (λ b. b == 1) (bit_at-suc (n * 2 ^ 1) i ∙ ap (λ m. bit_at m i) h)

doubled_first : (n : ℕ) → test (n * 2 ^ 1) 0 ≡ false
unfolding test
doubled_first n = let h : n * 2 ^ 1 % 2 ≡ 0 = omega arith in ap (λ b. b == 1) (bit_at_lowest (n * 2 ^ 1) ∙ h)

pub test-up : (n i : ℕ) → suc i < 64 → test (n * 2 ^ 1 % 2 ^ 64) (suc i) ≡ test n i
test-up n i l = test-low (n * 2 ^ 1) (suc i) l ∙ doubled n i

pub test-up_first : (n : ℕ) → test (n * 2 ^ 1 % 2 ^ 64) 0 ≡ false
test-up_first n = test-low (n * 2 ^ 1) 0 (omega arith) ∙ doubled_first n

pub test-number : (b : Bool) → test (bool_byte b) 0 ≡ b
unfolding test
test-number true = refl
test-number false = refl

pub test-number_above : (b : Bool) (i : ℕ) → test (bool_byte b) (suc i) ≡ false
unfolding test
test-number_above true i = ap (λ n. n == 1) (bit_at-suc 1 i ∙ bit_at-zero i)
test-number_above false i = ap (λ n. n == 1) (bit_at-suc 0 i ∙ bit_at-zero i)

onto_first : (b : Bool) (n : ℕ) → test (bool_byte b + 2 * n) 0 ≡ b
unfolding test
onto_first true n = let h : (1 + 2 * n) % 2 ≡ 1 = omega arith in ap (λ b. b == 1) (bit_at_lowest (1 + 2 * n) ∙ h)
onto_first false n = let h : (0 + 2 * n) % 2 ≡ 0 = omega arith in ap (λ b. b == 1) (bit_at_lowest (0 + 2 * n) ∙ h)

onto_next : (b : Bool) (n i : ℕ) → test (bool_byte b + 2 * n) (suc i) ≡ test n i
unfolding test
onto_next true n i = let h : (1 + 2 * n) / 2 ≡ n = omega arith in ap (λ b. b == 1) (bit_at-suc (1 + 2 * n) i ∙ ap (λ m. bit_at m i) h)
onto_next false n i = let h : (0 + 2 * n) / 2 ≡ n = omega arith in ap (λ b. b == 1) (bit_at-suc (0 + 2 * n) i ∙ ap (λ m. bit_at m i) h)

-- The bits of a word.
pub test-word : (bs : List Bool) (i : ℕ) → test (word bs) i ≡ slice_index_or bs i false
test-word [] i = test-zero i
test-word (b ∷ bs) zero = onto_first b (word bs)
test-word (b ∷ bs) (suc i) = onto_next b (word bs) i ∙ test-word bs i

pub number_few : (b : Bool) → bool_byte b < 2
number_few true = omega arith
number_few false = omega arith

pub word_few : (bs : List Bool) → word bs < 2 ^ length bs
word_few [] = omega arith
word_few (b ∷ bs) = let p : 2 ^ suc (length bs) ≡ 2 * 2 ^ length bs = omega arith in omega (arith, p, number_few b, word_few bs)

same_bit : (a b i : ℕ) → test a i ≡ test b i → bit_at a i ≡ bit_at b i
unfolding test
same_bit a b i e = two_bits (λ x y. (x == 1) ≡ (y == 1) → x ≡ y) (λ e. refl) (λ e. cc) (λ e. cc) (λ e. refl) a b i e

-- Numbers below 2 ^ 64 with the same bits are equal.
pub same_tests : (a b : ℕ) → a < 2 ^ 64 → b < 2 ^ 64 → ((i : ℕ) → i < 64 → test a i ≡ test b i) → a ≡ b
same_tests a b l m h = same_from_bits_below 64 a b l m (λ i k. same_bit a b i (h i k))

-- The last bit of a word of 64.
pub test-last : (n : ℕ) → n < 2 ^ 64 → n / 2 ^ 63 ≡ bool_byte (test n 63)
unfolding test
test-last n l = bit_cases (λ m. m ≡ bool_byte (m % 2 == 1)) refl refl (n / 2 ^ 63) (omega arith)

-- Addition, bit by bit: the carry into a bit.
abbrev carried_on : Bool → Bool → Bool → Bool
carried_on a b c = (a && b) || (differ a b && c)

unfoldable pub carry : ℕ → ℕ → ℕ → Bool
carry a b zero = false
carry a b (suc i) = carried_on (test a i) (test b i) (carry a b i)

pub carry-next : (a b i : ℕ) → carry a b (suc i) ≡ ((test a i && test b i) || (differ (test a i) (test b i) && carry a b i))
unfolding carry
carry-next a b i = refl

pub carry-first : (a b : ℕ) → carry a b 0 ≡ false
unfolding carry
carry-first a b = refl

shr-suc : (n i : ℕ) → n / 2 ^ suc i ≡ n / 2 ^ i / 2
shr-suc n i = ap (λ e. n / 2 ^ e) (sym (add-one i)) ∙ sym (shr-shr n i 1)

halves : (x y c : ℕ) → (x + y + c) / 2 ≡ x / 2 + y / 2 + (x % 2 + y % 2 + c) / 2
halves x y c = omega arith

lows : (x y c : ℕ) → (x + y + c) % 2 ≡ (x % 2 + y % 2 + c) % 2
lows x y c = omega arith

carry_out : (c : Bool) (a b i : ℕ) → (bit_at a i + bit_at b i + bool_byte c) / 2 ≡ bool_byte (carried_on (test a i) (test b i) c)
unfolding test
carry_out true a b i = two_bits (λ x y. (x + y + 1) / 2 ≡ bool_byte (carried_on (x == 1) (y == 1) true)) refl refl refl refl a b i
carry_out false a b i = two_bits (λ x y. (x + y + 0) / 2 ≡ bool_byte (carried_on (x == 1) (y == 1) false)) refl refl refl refl a b i

sum_bit : (c : Bool) (a b i : ℕ) → ((bit_at a i + bit_at b i + bool_byte c) % 2 == 1) ≡ differ (differ (test a i) (test b i)) c
unfolding test
sum_bit true a b i = two_bits (λ x y. ((x + y + 1) % 2 == 1) ≡ differ (differ (x == 1) (y == 1)) true) refl refl refl refl a b i
sum_bit false a b i = two_bits (λ x y. ((x + y + 0) % 2 == 1) ≡ differ (differ (x == 1) (y == 1)) false) refl refl refl refl a b i

add-shr : (a b i : ℕ) → (a + b) / 2 ^ i ≡ a / 2 ^ i + b / 2 ^ i + bool_byte (carry a b i)
unfolding carry
add-shr a b zero = omega arith
add-shr a b (suc i) =
    shr-suc (a + b) i ∙ ap (λ n. n / 2) (add-shr a b i) ∙ halves (a / 2 ^ i) (b / 2 ^ i) (bool_byte (carry a b i))
    ∙ (λ t. sym (shr-suc a i) t + sym (shr-suc b i) t + carry_out (carry a b i) a b i t)

pub test-add : (a b i : ℕ) → test (a + b) i ≡ differ (differ (test a i) (test b i)) (carry a b i)
unfolding test
test-add a b i = ap (λ n. n == 1) (ap (λ n. n % 2) (add-shr a b i) ∙ lows (a / 2 ^ i) (b / 2 ^ i) (bool_byte (carry a b i))) ∙ sum_bit (carry a b i) a b i

-- A bit set in words, and in the list of bits that they are the words of.
use Rattle.std.proofs.Common.{◌≡◌, ◌≢◌, ℕ, zero, suc, ◌+◌, ◌-◌, ◌*◌, ◌/◌, ◌%◌, ◌^◌, ◌<◌, ◌≤◌, ◌==◌, Bool, true, false, ◌||◌, List, [], ◌∷◌, ◌++◌, length, take, drop, refl, sym, ap, ◌∙◌, arith}
use Rattle.std.specs.Prelude.{slice_index_or, slice_set}
use Rattle.std.specs.Int.RustNames.{bit_or}
use Rattle.std.proofs.lemmas.List.{length-set, length-drop, set-append_right, get_or-append-add, get_or-set_same, get_or-set_other, take-set-le, drop-set-lt, drop-set-add}
use Rattle.std.proofs.lemmas.Nat.{or_lt}
use Rattle.std.proofs.lemmas.Nat.Bits.{bit_at-pow_same, bit_at-pow_other}
use Rattle.std.proofs.lemmas.Bool.Decides.{nat_tests}
use Rattle.std.proofs.Math.Nat.{pow-le-pow_right}
use Rattle.std.proofs.Math.Bool.{or-false, or-true}
use Rattle.hub_automaton.specs.Words.{word, words_for, packed_by, packed, with_bit}
use Rattle.hub_automaton.proofs.WordBits.{test, test-or, test-word, same_tests}
use Rattle.hub_automaton.proofs.WordMoves.{length-take_le, word_low}

pub power_low : (k : ℕ) → k < 64 → 2 ^ k < 2 ^ 64
power_low k l = omega (arith, pow-le-pow_right {n = 2} (omega arith) (let m : k ≤ 63 = omega arith in m))

pub one_up : (k : ℕ) → k < 64 → 1 * 2 ^ k % 2 ^ 64 ≡ 2 ^ k
one_up k l = omega (arith, power_low k l)

pub test-power_same : (k : ℕ) → test (2 ^ k) k ≡ true
unfolding test
test-power_same k = ap (λ n. n == 1) (bit_at-pow_same k)

pub test-power_other : (k i : ℕ) → i ≢ k → test (2 ^ k) i ≡ false
unfolding test
test-power_other k i h = ap (λ n. n == 1) (bit_at-pow_other k i h)

-- One word.
set_test : (bs : List Bool) (r i : ℕ) → r < length bs → test (bit_or (word bs) (2 ^ r)) i ≡ slice_index_or (slice_set bs r true) i false
set_test bs r i l = test-or (word bs) (2 ^ r) i ∙ by_test (i == r) refl where
  by_test : (b : Bool) → (i == r) ≡ b → (test (word bs) i || test (2 ^ r) i) ≡ slice_index_or (slice_set bs r true) i false
  by_test true e =
      let same : r ≡ i = grind (arith, nat_tests, e) in
      ap (λ n. test (word bs) i || test (2 ^ n) i) same ∙ ap (λ b. test (word bs) i || b) (test-power_same i) ∙ or-true (test (word bs) i)
      ∙ sym (get_or-set_same bs r true false l) ∙ ap (λ n. slice_index_or (slice_set bs r true) n false) same
  by_test false e =
      let other : i ≢ r = grind (arith, nat_tests, e) in
      ap (λ b. test (word bs) i || b) (test-power_other r i other) ∙ or-false (test (word bs) i) ∙ test-word bs i ∙ sym (get_or-set_other bs r i true false other)

take-set : (n r : ℕ) (bs : List Bool) (b : Bool) → r < n → take n (slice_set bs r b) ≡ slice_set (take n bs) r b
take-set zero r bs b l = absurd (omega arith)
take-set (suc n) r [] b l = refl
take-set (suc n) zero (c ∷ bs) b l = refl
take-set (suc n) (suc r) (c ∷ bs) b l = ap (λ cs. c ∷ cs) (take-set n r bs b (omega arith))

length-take_more : (n r : ℕ) (bs : List Bool) → r < n → r < length bs → r < length (take n bs)
length-take_more zero r bs l m = absurd (omega arith)
length-take_more (suc n) r [] l m = absurd (omega arith)
length-take_more (suc n) zero (b ∷ bs) l m = omega arith
length-take_more (suc n) (suc r) (b ∷ bs) l m = omega (arith, length-take_more n r bs (omega arith) (omega arith))

set_word : (bs : List Bool) (r : ℕ) → r < 64 → r < length bs → length bs ≤ 64 → bit_or (word bs) (2 ^ r) ≡ word (slice_set bs r true)
set_word bs r k l m =
    let fits : length (slice_set bs r true) ≤ 64 = omega (arith, length-set bs r true) in
    same_tests (bit_or (word bs) (2 ^ r)) (word (slice_set bs r true)) (or_lt 64 (word bs) (2 ^ r) (word_low bs m) (power_low r k)) (word_low (slice_set bs r true) fits)
    (λ i n. set_test bs r i l ∙ sym (test-word (slice_set bs r true) i))

-- All words.
set_words : (n k r : ℕ) (bs : List Bool) → r < 64 → 64 * k + r < length bs → length bs ≤ 64 * n
    → slice_set (packed_by n bs) k (bit_or (slice_index_or (packed_by n bs) k 0) (2 ^ r)) ≡ packed_by n (slice_set bs (64 * k + r) true)
set_words zero k r bs l m few = absurd (omega arith)
set_words (suc n) zero r bs l m few =
    let at : 64 * zero + r ≡ r = omega arith in
    let within : r < length bs = omega arith in
    (λ j. (set_word (take 64 bs) r l (length-take_more 64 r bs l within) (length-take_le 64 bs) ∙ ap word (sym (take-set 64 r bs true l))) j
    ∷ packed_by n (sym (drop-set-lt 64 bs r true l) j))
    ∙ ap (λ i. packed_by (suc n) (slice_set bs i true)) (sym at)
set_words (suc n) (suc k) r bs l m few =
    let at : 64 + (64 * k + r) ≡ 64 * suc k + r = omega arith in
    let later : 64 ≤ 64 + (64 * k + r) = omega arith in
    let shorter : 64 * k + r < length (drop 64 bs) = omega (arith, length-drop 64 bs) in
    let fewer : length (drop 64 bs) ≤ 64 * n = omega (arith, length-drop 64 bs) in
    (λ j. word (sym (take-set-le 64 bs (64 + (64 * k + r)) true later) j)
    ∷ (set_words n k r (drop 64 bs) l shorter fewer ∙ ap (packed_by n) (sym (drop-set-add 64 bs (64 * k + r) true))) j)
    ∙ ap (λ i. packed_by (suc n) (slice_set bs i true)) at

pub set_packed : (front : List ℕ) (i : ℕ) (bs : List Bool) → i < length bs → with_bit (length front) i (front ++ packed bs) ≡ front ++ packed (slice_set bs i true)
set_packed front i bs l =
    let k = i / 64 in
    let r = i % 64 in
    let n = words_for (length bs) in
    let at : 64 * k + r ≡ i = omega arith in
    let low : r < 64 = omega arith in
    let few : length bs ≤ 64 * n = omega arith in
    let back : length front + k - length front ≡ k = omega arith in
    let v = bit_or (slice_index_or (packed bs) k 0) (2 ^ r) in
    ap (λ w. slice_set (front ++ packed bs) (length front + k) (bit_or w (2 ^ r))) (get_or-append-add front (packed bs) k 0)
    ∙ set-append_right front (packed bs) (length front) (length front + k) v refl (omega arith)
    ∙ ap (λ m. front ++ slice_set (packed bs) m v) back
    ∙ ap (λ ws. front ++ ws) (set_words n k r bs low (omega (arith, at, l)) few ∙ ap (λ m. packed_by n (slice_set bs m true)) at
    ∙ ap (λ m. packed_by (words_for m) (slice_set bs i true)) (sym (length-set bs i true)))

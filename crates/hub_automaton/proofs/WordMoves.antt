-- How spots move, word by word.
use Rattle.std.proofs.Common.{◌≡◌, ℕ, zero, suc, ◌+◌, ◌*◌, ◌/◌, ◌%◌, ◌^◌, ◌<◌, ◌≤◌, Bool, true, false, ◌&&◌, ◌||◌, List, [], ◌∷◌, ◌++◌, cond, length, take, drop, refl, sym, ap, ◌∙◌, arith}
use Rattle.std.specs.Prelude.{slice_index_or, ⊤}
use Rattle.std.specs.Int.RustNames.{bit_or, bit_xor}
use Rattle.std.proofs.lemmas.Nat.{or_lt, and_le_l}
use Rattle.std.proofs.Math.Nat.{pow-le-pow_right}
use Rattle.std.proofs.lemmas.List.{drop-drop, length-drop, get_or-drop, take-append-drop}
use lib.Bits.{bit_and}
use mir.Val.{bool_byte}
use Rattle.hub_text.specs.laws.Test.{head, tail}
use Rattle.std.proofs.Math.Bool.{and-false, or-false}
use Rattle.hub_automaton.specs.declared.words.Masks.{Masks}
use Rattle.hub_automaton.specs.Words.{bit, first_word, other_words, word, packed_by, moved, spread, seeds, moved_word, moved_words}
use Rattle.hub_automaton.proofs.Loops.{drop-of_tail}
use Rattle.hub_automaton.proofs.WordBits.{test, differ, test-and, test-or, test-xor, test-zero, test-low, test-up, test-up_first, test-number, test-number_above, test-word, word_few, same_tests, test-last, carry, carry-next, carry-first, test-add}

abbrev pub masks : ℕ → ℕ → ℕ → Masks
masks e s t = record { entries = e; stars = s; takers = t }

abbrev get : List Bool → ℕ → Bool
get bs i = slice_index_or bs i false

-- The bits of what is spread: a star takes over from the bit before it.
spread_bit : (d s c : Bool) → (d || (s && differ (differ (differ (differ (d || s) d) c) (d || s)) d)) ≡ (d || (s && c))
spread_bit true true true = refl
spread_bit true true false = refl
spread_bit true false true = refl
spread_bit true false false = refl
spread_bit false true true = refl
spread_bit false true false = refl
spread_bit false false true = refl
spread_bit false false false = refl

carry_bit : (d s c : Bool) → (((d || s) && d) || (differ (d || s) d && c)) ≡ (d || (s && c))
carry_bit true true true = refl
carry_bit true true false = refl
carry_bit true false true = refl
carry_bit true false false = refl
carry_bit false true true = refl
carry_bit false true false = refl
carry_bit false false true = refl
carry_bit false false false = refl

spread_at : (s d i : ℕ) → i < 64 → test (spread s d) i ≡ (test d i || (test s i && carry (bit_or d s) d i))
spread_at s d i l =
    let all = bit_or d s in
    test-or d (bit_and s (bit_xor (bit_xor ((all + d) % 2 ^ 64) all) d)) i
    ∙ ap (λ b. test d i || b) (test-and s (bit_xor (bit_xor ((all + d) % 2 ^ 64) all) d) i
    ∙ ap (λ b. test s i && b) (test-xor (bit_xor ((all + d) % 2 ^ 64) all) d i
    ∙ ap (λ b. differ b (test d i)) (test-xor ((all + d) % 2 ^ 64) all i
    ∙ ap (λ b. differ b (test all i)) (test-low (all + d) i l ∙ test-add all d i))))
    ∙ (λ j. test d i || (test s i && differ (differ (differ (differ (test-or d s i j) (test d i)) (carry all d i)) (test-or d s i j)) (test d i)))
    ∙ spread_bit (test d i) (test s i) (carry all d i)

carry_is : (s d i : ℕ) → i < 64 → carry (bit_or d s) d (suc i) ≡ test (spread s d) i
carry_is s d i l =
    carry-next (bit_or d s) d i ∙ (λ j. (test-or d s i j && test d i) || (differ (test-or d s i j) (test d i) && carry (bit_or d s) d i))
    ∙ carry_bit (test d i) (test s i) (carry (bit_or d s) d i) ∙ sym (spread_at s d i l)

pub spread_first : (s d : ℕ) → test (spread s d) 0 ≡ test d 0
spread_first s d = spread_at s d 0 (omega arith) ∙ (λ j. test d 0 || (test s 0 && carry-first (bit_or d s) d j)) ∙ ap (λ b. test d 0 || b) (and-false (test s 0)) ∙ or-false (test d 0)

pub spread_next : (s d i : ℕ) → suc i < 64 → test (spread s d) (suc i) ≡ (test d (suc i) || (test s (suc i) && test (spread s d) i))
spread_next s d i l = spread_at s d (suc i) l ∙ (λ j. test d (suc i) || (test s (suc i) && carry_is s d i (omega arith) j))

-- The bits of what is spread from.
stay_bit : (stays : Bool) (s o i : ℕ) → test (cond stays (bit_and s o) 0) i ≡ (stays && (test s i && test o i))
stay_bit true s o i = test-and s o i
stay_bit false s o i = test-zero i

seeds_at : (stays : Bool) (e s t o here before i : ℕ)
    → test (seeds stays (masks e s t) o here before) i
    ≡ (test e i || ((stays && (test s i && test o i)) || ((test t i && (test (o * 2 ^ 1 % 2 ^ 64) i || test here i)) || (test s i && test before i))))
seeds_at stays e s t o here before i =
    let up = o * 2 ^ 1 % 2 ^ 64 in
    test-or e (bit_or (cond stays (bit_and s o) 0) (bit_or (bit_and t (bit_or up here)) (bit_and s before))) i
    ∙ ap (λ b. test e i || b) (test-or (cond stays (bit_and s o) 0) (bit_or (bit_and t (bit_or up here)) (bit_and s before)) i
    ∙ (λ j. stay_bit stays s o i j || (test-or (bit_and t (bit_or up here)) (bit_and s before) i
    ∙ (λ k. (test-and t (bit_or up here) i ∙ ap (λ b. test t i && b) (test-or up here i)) k || test-and s before i k)) j))

-- A bit of what is moved, from the bits before it.
abbrev cell : Bool → Bool → Bool → Bool → Bool → Bool → Bool → Bool
cell stays e s t o here before = e || ((stays && (s && o)) || ((t && here) || (s && before)))

first_bit : (stays : Bool) (e s t o : ℕ) (here before : Bool)
    → test (moved_word stays (masks e s t) o (bool_byte here) (bool_byte before)) 0 ≡ cell stays (test e 0) (test s 0) (test t 0) (test o 0) here before
first_bit stays e s t o here before =
    spread_first s (seeds stays (masks e s t) o (bool_byte here) (bool_byte before)) ∙ seeds_at stays e s t o (bool_byte here) (bool_byte before) 0
    ∙ (λ j. test e 0 || ((stays && (test s 0 && test o 0)) || ((test t 0 && (test-up_first o j || test-number here j)) || (test s 0 && test-number before j))))

next_cell : (stays e s t o was now : Bool) → ((e || ((stays && (s && o)) || ((t && (was || false)) || (s && false)))) || (s && now)) ≡ cell stays e s t o was now
next_cell stays true s t o was now = refl
next_cell true false true t true was now = refl
next_cell true false true true false true now = refl
next_cell true false true true false false now = refl
next_cell true false true false false was now = refl
next_cell true false false true o true now = refl
next_cell true false false true o false now = refl
next_cell true false false false o was now = refl
next_cell false false true true o true now = refl
next_cell false false true true o false now = refl
next_cell false false true false o was now = refl
next_cell false false false true o true now = refl
next_cell false false false true o false now = refl
next_cell false false false false o was now = refl

next_bit : (stays : Bool) (e s t o : ℕ) (here before : Bool) (i : ℕ) → suc i < 64
    → let w = moved_word stays (masks e s t) o (bool_byte here) (bool_byte before) in
    test w (suc i) ≡ cell stays (test e (suc i)) (test s (suc i)) (test t (suc i)) (test o (suc i)) (test o i) (test w i)
next_bit stays e s t o here before i l =
    let w = moved_word stays (masks e s t) o (bool_byte here) (bool_byte before) in
    let n = suc i in
    spread_next s (seeds stays (masks e s t) o (bool_byte here) (bool_byte before)) i l
    ∙ ap (λ b. b || (test s n && test w i)) (seeds_at stays e s t o (bool_byte here) (bool_byte before) n
    ∙ (λ j. test e n || ((stays && (test s n && test o n)) || ((test t n && (test-up o i l j || test-number_above here i j)) || (test s n && test-number_above before i j)))))
    ∙ next_cell stays (test e n) (test s n) (test t n) (test o n) (test o i) (test w i)

-- The same of lists.
head-get : (bs : List Bool) → head bs ≡ get bs 0
head-get [] = refl
head-get (b ∷ bs) = refl

pub tail-get : (bs : List Bool) (i : ℕ) → get (tail bs) i ≡ get bs (suc i)
tail-get [] i = refl
tail-get (b ∷ bs) i = refl

tail-length : (bs : List Bool) (n : ℕ) → length bs ≤ suc n → length (tail bs) ≤ n
tail-length [] n l = omega arith
tail-length (b ∷ bs) n l = omega arith

no_bits : (bs : List Bool) → length bs ≤ 0 → bs ≡ []
no_bits [] l = refl
no_bits (b ∷ bs) l = absurd (omega arith)

false_cell : (stays here before : Bool) (o : Bool) → false ≡ cell stays false false false o here before
false_cell true here before o = refl
false_cell false here before o = refl

list_first : (stays : Bool) (es ss ts os : List Bool) (here before : Bool) → length es ≤ length ss → length ts ≤ length ss
    → get (moved stays es ss ts os here before) 0 ≡ cell stays (get es 0) (get ss 0) (get ts 0) (get os 0) here before
list_first stays es [] ts os here before l m =
    false_cell stays here before (get os 0) ∙ (λ j. cell stays (get (sym (no_bits es l) j) 0) false (get (sym (no_bits ts m) j) 0) (get os 0) here before)
list_first stays es (s ∷ ss) ts os here before l m = λ j. cell stays (head-get es j) s (head-get ts j) (head-get os j) here before

list_next : (stays : Bool) (es ss ts os : List Bool) (here before : Bool) (i : ℕ) → length es ≤ length ss → length ts ≤ length ss
    → get (moved stays es ss ts os here before) (suc i)
    ≡ cell stays (get es (suc i)) (get ss (suc i)) (get ts (suc i)) (get os (suc i)) (get os i) (get (moved stays es ss ts os here before) i)
list_next stays es [] ts os here before i l m =
    false_cell stays (get os i) false (get os (suc i)) ∙ (λ j. cell stays (get (sym (no_bits es l) j) (suc i)) false (get (sym (no_bits ts m) j) (suc i)) (get os (suc i)) (get os i) false)
list_next stays es (s ∷ ss) ts os here before zero l m =
    let spot = cell stays (head es) s (head ts) (head os) here before in
    list_first stays (tail es) ss (tail ts) (tail os) (head os) spot (tail-length es (length ss) l) (tail-length ts (length ss) m)
    ∙ (λ j. cell stays (tail-get es 0 j) (get ss 0) (tail-get ts 0 j) (tail-get os 0 j) (head-get os j) spot)
list_next stays es (s ∷ ss) ts os here before (suc i) l m =
    let spot = cell stays (head es) s (head ts) (head os) here before in
    list_next stays (tail es) ss (tail ts) (tail os) (head os) spot i (tail-length es (length ss) l) (tail-length ts (length ss) m)
    ∙ (λ j. cell stays (tail-get es (suc i) j) (get ss (suc i)) (tail-get ts (suc i) j) (tail-get os (suc i) j) (tail-get os i j) (get (moved stays (tail es) ss (tail ts) (tail os) (head os) spot) i))

same_bits : (stays : Bool) (es ss ts os : List Bool) (here before : Bool) → length es ≤ length ss → length ts ≤ length ss → (i : ℕ) → i < 64
    → test (moved_word stays (masks (word es) (word ss) (word ts)) (word os) (bool_byte here) (bool_byte before)) i ≡ get (moved stays es ss ts os here before) i
same_bits stays es ss ts os here before l m zero k =
    first_bit stays (word es) (word ss) (word ts) (word os) here before
    ∙ (λ j. cell stays (test-word es 0 j) (test-word ss 0 j) (test-word ts 0 j) (test-word os 0 j) here before)
    ∙ sym (list_first stays es ss ts os here before l m)
same_bits stays es ss ts os here before l m (suc i) k =
    next_bit stays (word es) (word ss) (word ts) (word os) here before i k
    ∙ (λ j. cell stays (test-word es (suc i) j) (test-word ss (suc i) j) (test-word ts (suc i) j) (test-word os (suc i) j) (test-word os i j)
    (same_bits stays es ss ts os here before l m i (omega arith) j))
    ∙ sym (list_next stays es ss ts os here before i l m)

-- A word of fewer than 64 bits, or as many.
pub and_few : (k a b : ℕ) → a < 2 ^ k → bit_and a b < 2 ^ k
and_few k a b l = omega (arith, and_le_l a b, l)

spread_few : (s d : ℕ) → s < 2 ^ 64 → d < 2 ^ 64 → spread s d < 2 ^ 64
spread_few s d l m = or_lt 64 d (bit_and s (bit_xor (bit_xor ((bit_or d s + d) % 2 ^ 64) (bit_or d s)) d)) m (and_few 64 s (bit_xor (bit_xor ((bit_or d s + d) % 2 ^ 64) (bit_or d s)) d) l)

seeds_few : (stays : Bool) (e s t o here before : ℕ) → e < 2 ^ 64 → s < 2 ^ 64 → t < 2 ^ 64 → seeds stays (masks e s t) o here before < 2 ^ 64
seeds_few stays e s t o here before l m n =
    let up = bit_or (o * 2 ^ 1 % 2 ^ 64) here in
    or_lt 64 e (bit_or (cond stays (bit_and s o) 0) (bit_or (bit_and t up) (bit_and s before))) l
    (or_lt 64 (cond stays (bit_and s o) 0) (bit_or (bit_and t up) (bit_and s before)) (by stays)
    (or_lt 64 (bit_and t up) (bit_and s before) (and_few 64 t up n) (and_few 64 s before m)))
  where
    by : (b : Bool) → cond b (bit_and s o) 0 < 2 ^ 64
    by true = and_few 64 s o m
    by false = omega arith

pub word_low : (bs : List Bool) → length bs ≤ 64 → word bs < 2 ^ 64
word_low bs l = omega (arith, word_few bs, pow-le-pow_right {n = 2} (omega arith) l)

moved_length : (stays : Bool) (es ss ts os : List Bool) (here before : Bool) → length (moved stays es ss ts os here before) ≡ length ss
moved_length stays es [] ts os here before = refl
moved_length stays es (s ∷ ss) ts os here before = ap suc (moved_length stays (tail es) ss (tail ts) (tail os) (head os) (cell stays (head es) s (head ts) (head os) here before))

-- One word moves as its bits do.
pub word_moves : (stays : Bool) (es ss ts os : List Bool) (here before : Bool) → length es ≤ length ss → length ts ≤ length ss → length ss ≤ 64
    → word (moved stays es ss ts os here before) ≡ moved_word stays (masks (word es) (word ss) (word ts)) (word os) (bool_byte here) (bool_byte before)
word_moves stays es ss ts os here before l m n =
    let few : length (moved stays es ss ts os here before) ≤ 64 = omega (arith, moved_length stays es ss ts os here before) in
    let fits : moved_word stays (masks (word es) (word ss) (word ts)) (word os) (bool_byte here) (bool_byte before) < 2 ^ 64 =
    spread_few (word ss) (seeds stays (masks (word es) (word ss) (word ts)) (word os) (bool_byte here) (bool_byte before)) (word_low ss n)
    (seeds_few stays (word es) (word ss) (word ts) (word os) (bool_byte here) (bool_byte before) (word_low es (omega arith)) (word_low ss n) (word_low ts (omega arith))) in
    same_tests (word (moved stays es ss ts os here before)) (moved_word stays (masks (word es) (word ss) (word ts)) (word os) (bool_byte here) (bool_byte before)) (word_low (moved stays es ss ts os here before) few) fits
    (λ i k. test-word (moved stays es ss ts os here before) i ∙ sym (same_bits stays es ss ts os here before l m i k))

-- The front and the rest of what is moved.
head-take : (n : ℕ) (bs : List Bool) → head (take (suc n) bs) ≡ head bs
head-take n [] = refl
head-take n (b ∷ bs) = refl

tail-take : (n : ℕ) (bs : List Bool) → tail (take (suc n) bs) ≡ take n (tail bs)
tail-take zero [] = refl
tail-take (suc n) [] = refl
tail-take n (b ∷ bs) = refl

moved-take : (n : ℕ) (stays : Bool) (es ss ts os : List Bool) (here before : Bool)
    → moved stays (take n es) (take n ss) (take n ts) (take n os) here before ≡ take n (moved stays es ss ts os here before)
moved-take zero stays es ss ts os here before = refl
moved-take (suc n) stays es [] ts os here before = refl
moved-take (suc n) stays es (s ∷ ss) ts os here before =
    let spot = cell stays (head es) s (head ts) (head os) here before in
    (λ j. let b = cell stays (head-take n es j) s (head-take n ts j) (head-take n os j) here before in
    b ∷ moved stays (tail-take n es j) (take n ss) (tail-take n ts j) (tail-take n os j) (head-take n os j) b)
    ∙ ap (λ bs. spot ∷ bs) (moved-take n stays (tail es) ss (tail ts) (tail os) (head os) spot)

moved-drop : (n : ℕ) (stays : Bool) (es ss ts os : List Bool) (here before : Bool)
    → moved stays (drop (suc n) es) (drop (suc n) ss) (drop (suc n) ts) (drop (suc n) os) (get os n) (get (moved stays es ss ts os here before) n)
    ≡ drop (suc n) (moved stays es ss ts os here before)
moved-drop n stays es [] ts os here before = refl
moved-drop zero stays es (s ∷ ss) ts os here before =
    let spot = cell stays (head es) s (head ts) (head os) here before in
    λ j. moved stays (sym (drop-of_tail zero es) j) ss (sym (drop-of_tail zero ts) j) (sym (drop-of_tail zero os) j) (sym (head-get os) j) spot
moved-drop (suc n) stays es (s ∷ ss) ts os here before =
    let spot = cell stays (head es) s (head ts) (head os) here before in
    let more = moved stays (tail es) ss (tail ts) (tail os) (head os) spot in
    (λ j. moved stays (sym (drop-of_tail (suc n) es) j) (drop (suc n) ss) (sym (drop-of_tail (suc n) ts) j) (sym (drop-of_tail (suc n) os) j) (sym (tail-get os n) j) (get more n))
    ∙ moved-drop n stays (tail es) ss (tail ts) (tail os) (head os) spot

-- Words that are those of a list of bits, as many as are asked for.
abbrev pub Packs : ℕ → List ℕ → List Bool → Type 0
Packs zero ws bs = ⊤
Packs (suc n) ws bs = (first_word ws ≡ word (take 64 bs)) × Packs n (other_words ws) (drop 64 bs)

pub packs_by : (n : ℕ) (bs : List Bool) → Packs n (packed_by n bs) bs
packs_by zero bs = tt
packs_by (suc n) bs = (refl, packs_by n (drop 64 bs))

-- The words of what is moved, one after another.
number_last : (bs : List Bool) → length bs ≤ 64 → word bs / 2 ^ 63 ≡ bool_byte (get bs 63)
number_last bs l = test-last (word bs) (word_low bs l) ∙ ap bool_byte (test-word bs 63)

pub get-take : (n i : ℕ) (bs : List Bool) → i < n → get (take n bs) i ≡ get bs i
get-take zero i bs l = absurd (omega arith)
get-take (suc n) i [] l = refl
get-take (suc n) zero (b ∷ bs) l = refl
get-take (suc n) (suc i) (b ∷ bs) l = get-take n i bs (omega arith)

pub length-take_le : (n : ℕ) (bs : List Bool) → length (take n bs) ≤ n
length-take_le zero bs = omega arith
length-take_le (suc n) [] = omega arith
length-take_le (suc n) (b ∷ bs) = omega (arith, length-take_le n bs)

take-mono : (n : ℕ) (cs bs : List Bool) → length cs ≤ length bs → length (take n cs) ≤ length (take n bs)
take-mono zero cs bs l = omega arith
take-mono (suc n) [] bs l = omega arith
take-mono (suc n) (c ∷ cs) [] l = absurd (omega arith)
take-mono (suc n) (c ∷ cs) (b ∷ bs) l = omega (arith, take-mono n cs bs (omega arith))

drop-mono : (n : ℕ) (cs bs : List Bool) → length cs ≤ length bs → length (drop n cs) ≤ length (drop n bs)
drop-mono zero cs bs l = l
drop-mono (suc n) [] bs l = omega arith
drop-mono (suc n) (c ∷ cs) [] l = absurd (omega arith)
drop-mono (suc n) (c ∷ cs) (b ∷ bs) l = drop-mono n cs bs (omega arith)

pub words_move : (n : ℕ) (stays : Bool) (es ss ts os : List Bool) (ews sws tws ows : List ℕ) (here before : Bool)
    → length es ≤ length ss → length ts ≤ length ss → Packs n ews es → Packs n sws ss → Packs n tws ts → ows ≡ packed_by n os
    → packed_by n (moved stays es ss ts os here before) ≡ moved_words stays ews sws tws ows (bool_byte here) (bool_byte before)
words_move zero stays es ss ts os ews sws tws ows here before l m pe ps pt e = ap (λ ws. moved_words stays ews sws tws ws (bool_byte here) (bool_byte before)) (sym e)
words_move (suc n) stays es ss ts os ews sws tws ows here before l m pe ps pt e =
    let all = moved stays es ss ts os here before in
    let first : word (take 64 all) ≡ moved_word stays (masks (first_word ews) (first_word sws) (first_word tws)) (word (take 64 os)) (bool_byte here) (bool_byte before) =
    ap word (sym (moved-take 64 stays es ss ts os here before))
    ∙ word_moves stays (take 64 es) (take 64 ss) (take 64 ts) (take 64 os) here before (take-mono 64 es ss l) (take-mono 64 ts ss m) (length-take_le 64 ss)
    ∙ (λ j. moved_word stays (masks (sym pe.0 j) (sym ps.0 j) (sym pt.0 j)) (word (take 64 os)) (bool_byte here) (bool_byte before)) in
    let shifted : bool_byte (get os 63) ≡ word (take 64 os) / 2 ^ 63 =
    sym (number_last (take 64 os) (length-take_le 64 os) ∙ ap bool_byte (get-take 64 63 os (omega arith))) in
    let carried : bool_byte (get all 63) ≡ word (take 64 all) / 2 ^ 63 =
    sym (number_last (take 64 all) (length-take_le 64 all) ∙ ap bool_byte (get-take 64 63 all (omega arith))) in
    let more : packed_by n (drop 64 all) ≡ moved_words stays (other_words ews) (other_words sws) (other_words tws) (packed_by n (drop 64 os)) (bool_byte (get os 63)) (bool_byte (get all 63)) =
    ap (packed_by n) (sym (moved-drop 63 stays es ss ts os here before))
    ∙ words_move n stays (drop 64 es) (drop 64 ss) (drop 64 ts) (drop 64 os) (other_words ews) (other_words sws) (other_words tws) (packed_by n (drop 64 os))
    (get os 63) (get all 63) (drop-mono 64 es ss l) (drop-mono 64 ts ss m) pe.1 ps.1 pt.1 refl in
    (λ j. first j ∷ more j)
    ∙ (λ j. moved_word stays (masks (first_word ews) (first_word sws) (first_word tws)) (word (take 64 os)) (bool_byte here) (bool_byte before)
    ∷ moved_words stays (other_words ews) (other_words sws) (other_words tws) (packed_by n (drop 64 os)) (shifted j) ((carried ∙ ap (λ w. w / 2 ^ 63) first) j))
    ∙ ap (λ ws. moved_words stays ews sws tws ws (bool_byte here) (bool_byte before)) (sym e)

-- The bits of packed words.

get-drop : (n i : ℕ) (bs : List Bool) → get (drop n bs) i ≡ get bs (n + i)
get-drop n i bs = get_or-drop n bs i false

pub drop-none : (m : ℕ) → drop {A = Bool} m [] ≡ []
drop-none zero = refl
drop-none (suc m) = refl

pub packed_word : (n k : ℕ) (bs : List Bool) → length bs ≤ 64 * n → slice_index_or (packed_by n bs) k 0 ≡ word (take 64 (drop (64 * k) bs))
packed_word zero k bs l = ap (λ cs. word (take 64 cs)) (sym (drop-none (64 * k))) ∙ ap (λ cs. word (take 64 (drop (64 * k) cs))) (sym (no_bits bs (omega arith)))
packed_word (suc n) zero bs l = refl
packed_word (suc n) (suc k) bs l =
    let shorter : length (drop 64 bs) ≤ 64 * n = omega (arith, length-drop 64 bs) in
    let e : 64 + 64 * k ≡ 64 * suc k = omega arith in
    packed_word n k (drop 64 bs) shorter ∙ ap (λ cs. word (take 64 cs)) (drop-drop (64 * k) 64 bs ∙ ap (λ m. drop m bs) e)

pub bit_is : (ws : List ℕ) (i : ℕ) → bit ws i ≡ test (slice_index_or ws (i / 64) 0) (i % 64)
unfolding test
bit_is ws i = refl

pub packed_bit : (n i : ℕ) (bs : List Bool) → length bs ≤ 64 * n → bit (packed_by n bs) i ≡ get bs i
packed_bit n i bs l =
    let e : 64 * (i / 64) + i % 64 ≡ i = omega arith in
    bit_is (packed_by n bs) i ∙ ap (λ w. test w (i % 64)) (packed_word n (i / 64) bs l) ∙ test-word (take 64 (drop (64 * (i / 64)) bs)) (i % 64)
    ∙ get-take 64 (i % 64) (drop (64 * (i / 64)) bs) (omega arith) ∙ get-drop (64 * (i / 64)) (i % 64) bs ∙ ap (get bs) e

-- Lists of the same length with the same words are equal.
number_same : (a b : Bool) (m n : ℕ) → bool_byte a + 2 * m ≡ bool_byte b + 2 * n → (a ≡ b) × (m ≡ n)
number_same true true m n h = (refl, omega (arith, h))
number_same true false m n h = absurd (omega (arith, h))
number_same false true m n h = absurd (omega (arith, h))
number_same false false m n h = (refl, omega (arith, h))

word_same : (cs bs : List Bool) → length cs ≡ length bs → word cs ≡ word bs → cs ≡ bs
word_same [] [] l h = refl
word_same [] (b ∷ bs) l h = absurd (omega (arith, l))
word_same (c ∷ cs) [] l h = absurd (omega (arith, l))
word_same (c ∷ cs) (b ∷ bs) l h =
    let w = number_same c b (word cs) (word bs) h in λ j. w.0 j ∷ word_same cs bs (omega (arith, l)) w.1 j

take-same : (n : ℕ) (cs bs : List Bool) → length cs ≡ length bs → length (take n cs) ≡ length (take n bs)
take-same n cs bs l = omega (arith, take-mono n cs bs (omega (arith, l)), take-mono n bs cs (omega (arith, l)))

drop-same : (n : ℕ) (cs bs : List Bool) → length cs ≡ length bs → length (drop n cs) ≡ length (drop n bs)
drop-same n cs bs l = omega (arith, drop-mono n cs bs (omega (arith, l)), drop-mono n bs cs (omega (arith, l)))

pub packed_same : (n : ℕ) (cs bs : List Bool) → length cs ≤ 64 * n → length cs ≡ length bs → packed_by n cs ≡ packed_by n bs → cs ≡ bs
packed_same zero cs bs m l h = no_bits cs (omega arith) ∙ sym (no_bits bs (omega (arith, l, m)))
packed_same (suc n) cs bs m l h =
    let first : word (take 64 cs) ≡ word (take 64 bs) = cc in
    let more : packed_by n (drop 64 cs) ≡ packed_by n (drop 64 bs) = cc in
    let fronts = word_same (take 64 cs) (take 64 bs) (take-same 64 cs bs l) first in
    let rests = packed_same n (drop 64 cs) (drop 64 bs) (omega (arith, length-drop 64 cs)) (drop-same 64 cs bs l) more in
    sym (take-append-drop 64 cs) ∙ (λ j. fronts j ++ rests j) ∙ take-append-drop 64 bs

pub length-packed : (n : ℕ) (bs : List Bool) → length (packed_by n bs) ≡ n
length-packed zero bs = refl
length-packed (suc n) bs = ap suc (length-packed n (drop 64 bs))

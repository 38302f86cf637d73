-- Words made in loops.
use Rattle.std.proofs.Common.{◌≡◌, ℕ, zero, suc, ◌+◌, ◌-◌, ◌*◌, ◌^◌, ◌<◌, ◌≤◌, min, Bool, List, [], ◌∷◌, ◌++◌, length, take, drop, refl, sym, ap, ◌∙◌, arith, append_assoc}
use Rattle.std.specs.Prelude.{slice_index_or, false}
use Rattle.std.proofs.lemmas.List.{drop_more, length-drop}
use Rattle.std.proofs.Math.Nat.{pow-le-pow_right}
use mir.Val.{bool_byte}
use Rattle.hub_automaton.specs.Words.{first_word, word, words_for, packed_by, packed}
use Rattle.hub_automaton.proofs.WordBits.{word_few}

pub first-drop : (n : ℕ) (ws : List ℕ) → slice_index_or ws n 0 ≡ first_word (drop n ws)
first-drop zero [] = refl
first-drop zero (w ∷ ws) = refl
first-drop (suc n) [] = refl
first-drop (suc n) (w ∷ ws) = first-drop n ws

-- A word, from its last bit on.
pub word_step : (bs : List Bool) (i : ℕ) → i < length bs
    → word (drop (length bs - (i + 1)) bs) ≡ bool_byte (slice_index_or bs (length bs - 1 - i) false) + 2 * word (drop (length bs - i) bs)
word_step bs i l =
    let at : length bs - (i + 1) ≡ length bs - 1 - i = omega arith in
    let next : length bs - 1 - i + 1 ≡ length bs - i = omega arith in
    ap (λ n. word (drop n bs)) at ∙ ap word (drop_more bs (length bs - 1 - i) false (omega arith))
    ∙ ap (λ n. bool_byte (slice_index_or bs (length bs - 1 - i) false) + 2 * word (drop n bs)) next

pub word_part : (bs : List Bool) (i : ℕ) → length bs ≤ 64 → i ≤ length bs → word (drop (length bs - i) bs) < 2 ^ 64
word_part bs i l m =
    let few : length (drop (length bs - i) bs) ≤ 64 = omega (arith, length-drop (length bs - i) bs) in
    omega (arith, word_few (drop (length bs - i) bs), pow-le-pow_right {n = 2} (omega arith) few)

-- Bits packed, word by word.
take-short : (n : ℕ) (bs : List Bool) → take (min (length bs) n) bs ≡ take n bs
take-short zero bs = let e : min (length bs) 0 ≡ 0 = omega arith in ap (λ m. take m bs) e
take-short (suc n) [] = let e : min 0 (suc n) ≡ 0 = omega arith in ap (λ m. take m []) e
take-short (suc n) (b ∷ bs) = ap (λ m. take m (b ∷ bs)) (let e : min (suc (length bs)) (suc n) ≡ suc (min (length bs) n) = omega arith in e) ∙ ap (λ cs. b ∷ cs) (take-short n bs)

drop-short : (n : ℕ) (bs : List Bool) → drop (min (length bs) n) bs ≡ drop n bs
drop-short zero bs = let e : min (length bs) 0 ≡ 0 = omega arith in ap (λ m. drop m bs) e
drop-short (suc n) [] = let e : min 0 (suc n) ≡ 0 = omega arith in ap (λ m. drop m []) e
drop-short (suc n) (b ∷ bs) = ap (λ m. drop m (b ∷ bs)) (let e : min (suc (length bs)) (suc n) ≡ suc (min (length bs) n) = omega arith in e) ∙ drop-short n bs

pub packed_step : (bs : List Bool) → 0 < length bs → packed bs ≡ word (take (min (length bs) 64) bs) ∷ packed (drop (min (length bs) 64) bs)
packed_step bs l =
    let n = words_for (length (drop 64 bs)) in
    let more : words_for (length bs) ≡ suc n = omega (arith, length-drop 64 bs) in
    ap (λ m. packed_by m bs) more ∙ (λ j. word (sym (take-short 64 bs) j) ∷ packed (sym (drop-short 64 bs) j))

pub pack_step : (rest rest' : List Bool) (w m : ℕ) (new more whole : List ℕ) → 0 < length rest → m ≡ min (length rest) 64 → w ≡ word (take m rest) → rest' ≡ drop m rest
    → more ≡ new ++ w ∷ [] → new ++ packed rest ≡ whole → more ++ packed rest' ≡ whole
pack_step rest rest' w m new more whole l e f g k h =
    (λ j. k j ++ packed (g j)) ∙ append_assoc new (w ∷ []) (packed (drop m rest))
    ∙ (λ j. new ++ (f ∙ ap (λ n. word (take n rest)) e) j ∷ packed (drop (e j) rest)) ∙ ap (λ ws. new ++ ws) (sym (packed_step rest l)) ∙ h

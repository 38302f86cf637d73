-- Bits in words of 64, and how spots move word by word when a text gets one more character.
use Rattle.std.specs.Prelude.{ℕ, zero, suc, Bool, ◌&&◌, ◌||◌, ◌==◌, ◌+◌, ◌*◌, ◌/◌, ◌%◌, ◌^◌, List, [], ◌∷◌, length, take, drop, slice_index_or, slice_set, if◌then◌else◌}
use Rattle.std.specs.Int.RustNames.{bit_or, bit_xor}
use lib.Bits.{bit_and}
use mir.Val.{bool_byte}
use Rattle.hub_text.specs.laws.Test.{head, tail}
use Rattle.hub_automaton.specs.declared.words.Masks.{Masks}

abbrev pub first_word : List ℕ → ℕ
first_word [] = 0
first_word (w ∷ ws) = w

abbrev pub other_words : List ℕ → List ℕ
other_words [] = []
other_words (w ∷ ws) = ws

-- The number whose bits these are, the first one the lowest.
abbrev pub word : List Bool → ℕ
word [] = 0
word (b ∷ bs) = bool_byte b + 2 * word bs

-- As many words of bits.
abbrev pub packed_by : ℕ → List Bool → List ℕ
packed_by zero bs = []
packed_by (suc n) bs = word (take 64 bs) ∷ packed_by n (drop 64 bs)

abbrev pub words_for : ℕ → ℕ
words_for n = (n + 63) / 64

-- The bits in words of 64, and the last word filled up with bits that aren't set.
abbrev pub packed : List Bool → List ℕ
packed bs = packed_by (words_for (length bs)) bs

-- The bit at a place of such words; past the end none is set.
abbrev pub bit : List ℕ → ℕ → Bool
bit ws i = slice_index_or ws (i / 64) 0 / 2 ^ (i % 64) % 2 == 1

-- The words with one more bit set: the one at that place, counted from the first bit of the word
-- `first`. Past the end there are no bits.
abbrev pub with_bit : ℕ → ℕ → List ℕ → List ℕ
with_bit first i ws =
    slice_set ws (first + i / 64) (bit_or (slice_index_or ws (first + i / 64) 0) (2 ^ (i % 64)))

-- Spots with one more character, from those before it. A spot is set where one is entered; where it
-- is that of a `*` that stays, and was set; where its piece takes the character, and the spot
-- before it was set (`here`); and where it is that of a `*`, and the spot before it is set now
-- (`before`).
abbrev pub moved : Bool → List Bool → List Bool → List Bool → List Bool → Bool → Bool → List Bool
moved stays es [] ts os here before = []
moved stays es (s ∷ ss) ts os here before =
    let spot = head es || ((stays && (s && head os)) || ((head ts && here) || (s && before))) in
    spot ∷ moved stays (tail es) ss (tail ts) (tail os) (head os) spot

-- The same for all spots of a word: the carries of an addition go from a spot to the next one as
-- far as there are stars.
abbrev pub spread : ℕ → ℕ → ℕ
spread stars seeds =
    let all = bit_or seeds stars in
    bit_or seeds (bit_and stars (bit_xor (bit_xor ((all + seeds) % 2 ^ 64) all) seeds))

abbrev pub seeds : Bool → Masks → ℕ → ℕ → ℕ → ℕ
seeds stays m o here before =
    bit_or m.entries (bit_or (if stays then bit_and m.stars o else 0)
    (bit_or (bit_and m.takers (bit_or (o * 2 ^ 1 % 2 ^ 64) here)) (bit_and m.stars before)))

abbrev pub moved_word : Bool → Masks → ℕ → ℕ → ℕ → ℕ
moved_word stays m o here before = spread m.stars (seeds stays m o here before)

abbrev pub moved_words : Bool → List ℕ → List ℕ → List ℕ → List ℕ → ℕ → ℕ → List ℕ
moved_words stays es ss ts [] here before = []
moved_words stays es ss ts (o ∷ os) here before =
    let w = moved_word stays (record {
      entries = first_word es;
      stars = first_word ss;
      takers =
          first_word ts;
    }) o here before in
    w ∷ moved_words stays (other_words es) (other_words ss) (other_words ts) os (o / 2 ^ 63)
    (w / 2 ^ 63)

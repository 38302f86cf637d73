-- A row of words moved on by a character in two rounds: each word without the spot before it, and
-- then those words again that the spot before them goes on into.
use Rattle.std.specs.Prelude.{◌≡◌, ◌<◌, ℕ, zero, suc, ◌*◌, ◌/◌, ◌%◌, ◌^◌, Bool, List, [], length, min, slice_index_or, if◌then◌else◌}
use Rattle.std.specs.Int.RustNames.{bit_or}
use lib.Bits.{bit_and}
use Rattle.hub_automaton.specs.declared.rows.RowStep.{RowStep}
use Rattle.hub_automaton.specs.declared.words.Masks.{Masks}
use Rattle.hub_automaton.specs.Masks.{moved_row}
use Rattle.hub_automaton.specs.Words.{moved_word}

-- The last spot of the word before a place; before the first word it is the given one.
abbrev pub last_before : ℕ → List ℕ → ℕ → ℕ
last_before first ws zero = first
last_before first ws (suc i) = slice_index_or ws i 0 / 2 ^ 63

abbrev pub masks_at : List ℕ → List ℕ → List ℕ → ℕ → Masks
masks_at es ss ts i =
    record {
      entries = slice_index_or es i 0;
      stars = slice_index_or ss i 0;
      takers =
          slice_index_or ts i 0;
    }

-- A word of a row, from the words before the character and the spot before it.
abbrev pub word_at : Bool → List ℕ → List ℕ → List ℕ → List ℕ → ℕ → ℕ → ℕ
word_at stays es ss ts old i before =
    moved_word stays (masks_at es ss ts i) (slice_index_or old i 0) (last_before 0 old i) before

-- The words up to a place are moved on, each without the spot before it.
abbrev pub AreMovedApart : Bool → List ℕ → List ℕ → List ℕ → List ℕ → List ℕ → ℕ → Type 0
AreMovedApart stays es ss ts old ws n =
    (i : ℕ) → i < n → slice_index_or ws i 0 ≡ word_at stays es ss ts old i 0

-- The words up to a place are moved on.
abbrev pub AreMoved : Bool → List ℕ → List ℕ → List ℕ → List ℕ → List ℕ → ℕ → Type 0
AreMoved stays es ss ts old ws n =
    (i : ℕ) → i < n → slice_index_or ws i 0 ≡ word_at stays es ss ts old i (last_before 0 ws i)

-- Up to a place no spot goes on into the word after it.
abbrev pub NoneCarried : List ℕ → List ℕ → ℕ → Type 0
NoneCarried ss ws n = (i : ℕ) → i < n → bit_and (slice_index_or ss i 0) (last_before 0 ws i) ≡ 0

-- The word of a row at a place with each spot one further. The first one is the last spot of the
-- word before it.
abbrev pub shifted_at : List ℕ → ℕ → ℕ
shifted_at row i = bit_or (slice_index_or row i 0 * 2 ^ 1 % 2 ^ 64) (last_before 0 row i)

-- In the words up to a place the same spots go on by both masks of takers.
abbrev pub AreTakenAlike : List ℕ → List ℕ → List ℕ → ℕ → Type 0
AreTakenAlike ts us row n =
    (i : ℕ) → i < n → bit_and (slice_index_or ts i 0) (shifted_at row i)
    ≡ bit_and (slice_index_or us i 0) (shifted_at row i)

-- The masks of a step have equally many words.
abbrev pub IsSized : RowStep → Type 0
IsSized s =
    (length s.entries.now ≡ length s.stars.now) × (length s.takers.now ≡ length s.stars.now)

-- The spots that a step enters.
abbrev pub entered_by : RowStep → List ℕ
entered_by s = if s.enters then s.entries.now else []

-- The masks of a word.
abbrev pub masks_of : RowStep → ℕ → Masks
masks_of s i = masks_at (entered_by s) s.stars.now s.takers.now i

-- How many words of a row a step moves: those that the masks have.
abbrev pub moved_count : RowStep → List ℕ → ℕ
moved_count s old = min (length s.stars.now) (length old)

-- The row with its first words moved on.
abbrev pub moved_by : RowStep → List ℕ → List ℕ
moved_by s old = moved_row s.stays (entered_by s) s.stars.now s.takers.now old

-- These words are moved on, each without the spot before it.
abbrev pub IsMovedApart : RowStep → List ℕ → List ℕ → Type 0
IsMovedApart s old ws =
    AreMovedApart s.stays (entered_by s) s.stars.now s.takers.now old ws (moved_count s old)

-- These words are moved on.
abbrev pub IsMoved : RowStep → List ℕ → List ℕ → Type 0
IsMoved s old ws =
    AreMoved s.stays (entered_by s) s.stars.now s.takers.now old ws (moved_count s old)

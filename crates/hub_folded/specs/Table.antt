-- The folding of Unicode mode, by a table: in it `ignorecase = true` decomposes a name, makes its
-- letters small, and puts marks in an order (observed with Unison 2.52.1).
use Rattle.std.specs.Prelude.{ℕ, Bool, true, not, ◌&&◌, ◌||◌, ◌==◌, nat_lt, nat_le, List, [], ◌∷◌, length, if◌then◌else◌}
use Rattle.std.specs.List.{list_any, flat_map}
use Rattle.hub_folded.specs.Fold.{Folding, lower}
use Rattle.hub_folded.specs.Ranges.{ranges}
use Rattle.hub_folded.specs.Row.{Range, Row}
use Rattle.hub_folded.specs.Rows.{rows}

-- What the rows make of a character: itself, if none is for it.
abbrev pub by_rows : List Row → ℕ → List ℕ
by_rows [] c = c ∷ []
by_rows (r ∷ rs) c = if r.of == c then r.to else by_rows rs c

-- The characters of a row of the program's table, where each 0 stands for none.
abbrev pub shown : ℕ → List ℕ
shown d = if d == 0 then [] else d ∷ []

abbrev pub image_in : List ℕ → List ℕ
image_in ds = flat_map shown ds

-- What the rows of Unicode mode make of a character.
unfoldable pub table_image : ℕ → List ℕ
table_image c = by_rows rows c

abbrev pub is_ascii : ℕ → Bool
is_ascii c = nat_lt c 128

-- What a character folds to in Unicode mode.
unfoldable pub folded_character : ℕ → List ℕ
folded_character c = if is_ascii c then lower c ∷ [] else table_image c

abbrev pub has_row : List Row → ℕ → Bool
has_row rs c = list_any (λ r. r.of == c) rs

abbrev pub in_range : Range → ℕ → Bool
in_range g c = nat_le g.first c && nat_le c g.last

-- The same of a range of the program's table.
abbrev pub is_within : ℕ × ℕ → ℕ → Bool
is_within g c = nat_le g.0 c && nat_le c g.1

abbrev pub in_ranges : List Range → ℕ → Bool
in_ranges gs c = list_any (λ g. in_range g c) gs

abbrev pub is_combining : ℕ → Bool
is_combining c = nat_le 0x300 c && nat_le c 0x36F

-- Of ASCII A to Z fold. Of other characters those are known that have a row, or are in one of the
-- ranges. The only known marks are those of Latin, Greek and Cyrillic letters.
abbrev pub folding_by : List Row → List Range → Folding
folding_by rs gs =
    record {
      to = λ c. if is_ascii c then lower c ∷ [] else by_rows rs c;
      is_known = λ c. is_ascii c || (has_row rs c || in_ranges gs c);
      is_mark = λ c. is_combining c;
    }

abbrev pub unicode : Folding
unicode = folding_by rows ranges

-- The same in the words of the program: whether a character is known, and is a bare letter.
unfoldable pub knows_character : ℕ → Bool
knows_character c = is_ascii c || (has_row rows c || in_ranges ranges c)

unfoldable pub is_single : ℕ → Bool
is_single c = length (folded_character c) == 1

abbrev pub is_bare_letter : ℕ → Bool
is_bare_letter c = not (is_combining c) && is_single c

-- A character is known, and follows a bare letter if it is a mark.
abbrev pub stands : ℕ → Bool → Bool
stands c bare = knows_character c && (not (is_combining c) || bare)

abbrev pub all_stand : Bool → List ℕ → Bool
all_stand bare [] = true
all_stand bare (c ∷ t) = stands c bare && all_stand (is_bare_letter c) t

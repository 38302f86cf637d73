-- Lines in the section of their profile.
use Rattle.std.specs.Prelude.{◌≡◌, ℕ, Bool, true, false, not, nat_eq, ◌==◌, ◌&&◌, ◌||◌, ⊤, List, [], ◌∷◌, ◌++◌, length, codes, string_bytes}
use Rattle.std.specs.List.{list_any, list_all, starts_with}
use Rattle.hub_mend.specs.declared.piece.Piece.{Piece}

-- The heading of a profile: this word, and its name up to the end of the line.
abbrev pub heading_word : List ℕ
heading_word = codes "%profile "

-- A line ends here: the text does, or LF follows. One CR before that belongs to the end.
abbrev pub is_end : List ℕ → Bool
is_end [] = true
is_end (c ∷ cs) = c == 10

abbrev pub ends_line : List ℕ → Bool
ends_line [] = true
ends_line (c ∷ cs) = c == 10 || (c == 13 && is_end cs)

abbrev pub has_lf : List ℕ → Bool
has_lf text = list_any (λ c. c == 10) text

-- The first line of a text is the heading of the profile of that name.
pub record IsHeaded (name text : List ℕ) : Type 0 where
  pub rest : List ℕ
  pub begins : text ≡ heading_word ++ name ++ rest
  pub ends : ends_line rest ≡ true
  pub within : has_lf name ≡ false

-- A text is one line, and an `ignore` line or a bar.
abbrev pub is_taking : List ℕ → Bool
is_taking line =
    (starts_with nat_eq line (codes "ignore = ") || starts_with nat_eq line (codes "nodeletion")
    || starts_with nat_eq line (codes "noupdate") || starts_with nat_eq line (codes "nocreation"))
    && not (has_lf line)

-- Each line of a part is such a line. If there is one, the part is the section of the profile of its
-- name.
pub record IsPlaced (p : Piece) : Type 0 where
  pub headed : (length p.lines.items == 0) ≡ false → IsHeaded (string_bytes p.name) p.text.items
  pub taking : list_all (λ l. is_taking (string_bytes l)) p.lines.items ≡ true

abbrev pub ArePlaced : List Piece → Type 0
ArePlaced [] = ⊤
ArePlaced (p ∷ ps) = IsPlaced p × ArePlaced ps

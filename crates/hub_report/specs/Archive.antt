-- The lines of profiles that share an archive of Unison.
use Rattle.std.specs.Prelude.{ℕ, List, [], ◌∷◌, slice_get, Option, Some, None, codes}
use Rattle.std.specs.List.{flat_map}
use Rattle.hub_path.specs.declared.side.Side.TheVariants.{Left, Right}
use Rattle.hub_profile.specs.Parts.{Parts, at_side}
use Rattle.hub_report.specs.Refusal.{joined, name_at, text_of_root}

-- The end of such a line, with two roots; and with those of a profile.
abbrev pub joined_roots : List ℕ → List ℕ → List ℕ
joined_roots left right =
    joined (codes " have the roots " ∷ left ∷ codes " and " ∷ right ∷ codes "\n" ∷ [])

abbrev pub roots_text : Parts → List ℕ
roots_text P = joined_roots (text_of_root (at_side P.roots Left)) (text_of_root (at_side P.roots Right))

abbrev pub roots_text_of : Option Parts → List ℕ
roots_text_of None = []
roots_text_of (Some P) = roots_text P

-- The line of two profiles of these numbers, which share an archive: it has their names, and the
-- roots of the first one.
abbrev pub line_of_two : List Parts → ℕ → ℕ → List ℕ
line_of_two Ps first second =
    joined (codes "same archive: " ∷ name_at Ps first ∷ codes " and " ∷ name_at Ps second
    ∷ roots_text_of (slice_get Ps first) ∷ [])

abbrev pub archive_line : List Parts → ℕ × ℕ → List ℕ
archive_line Ps numbers = line_of_two Ps numbers.0 numbers.1

-- The lines of these in their order.
abbrev pub archive_lines : List Parts → List (ℕ × ℕ) → List ℕ
archive_lines Ps archives = flat_map (archive_line Ps) archives

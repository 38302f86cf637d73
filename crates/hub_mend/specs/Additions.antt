-- Lines that are added to a bundle.
use Rattle.std.specs.Prelude.{ℕ, ◌==◌, nat_eq, ◌||◌, List, [], ◌++◌, length, codes, if◌then◌else◌, string_bytes, sum_by}
use Rattle.std.specs.Fmt.{decimal}
use Rattle.std.specs.List.{ends_with, flat_map}
use Rattle.hub_mend.specs.declared.piece.Piece.{Piece}

-- A line in the text of a bundle.
abbrev pub line_text : List ℕ → List ℕ
line_text line = line ++ codes "\n"

-- The end of a text, if lines are to follow it: each line ends with LF.
abbrev pub line_end : List ℕ → List ℕ
line_end text =
    if length text == 0 || ends_with nat_eq text (codes "\n") then [] else codes "\n"

-- The lines that follow a part of a bundle, below a comment.
abbrev pub commented : Piece → List ℕ
commented p =
    line_end p.text.items ++ codes "# by hubsync mend\n"
    ++ flat_map (λ l. line_text (string_bytes l)) p.lines.items

-- Without a line there is no comment.
abbrev pub block : Piece → List ℕ
block p = if length p.lines.items == 0 then [] else commented p

-- The text of these parts of a bundle, without and with the lines that follow them.
abbrev pub own_text : List Piece → List ℕ
own_text ps = flat_map (λ p. p.text.items) ps

abbrev pub mended_text : List Piece → List ℕ
mended_text ps = flat_map (λ p. p.text.items ++ block p) ps

-- The same lines as they are shown, each behind the name of its profile.
abbrev pub shown_line : List ℕ → List ℕ → List ℕ
shown_line name line = name ++ codes ": " ++ line ++ codes "\n"

abbrev pub shown_lines : List Piece → List ℕ
shown_lines ps =
    flat_map (λ p. flat_map (λ l. shown_line (string_bytes p.name) (string_bytes l)) p.lines.items)
    ps

abbrev pub line_count : List Piece → ℕ
line_count ps = sum_by (λ p. length p.lines.items) ps

-- The line that says that the bundle is safe with so many lines.
abbrev pub safe_line : ℕ → List ℕ
safe_line n =
    if n == 1 then codes "safe with 1 line\n"
    else codes "safe with " ++ decimal n ++ codes " lines\n"

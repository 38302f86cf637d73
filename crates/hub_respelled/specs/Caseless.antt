-- A bundle without the lines that say that names fold.
use Rattle.std.specs.Prelude.{◌≡◌, ◌++◌, Vec, ℕ, Bool, false, not, ◌&&◌, ◌||◌, List, [], ◌∷◌, drop, if◌then◌else◌}
use Rattle.hub_text.specs.declared.line.Line.{Line}
use Rattle.hub_text.specs.Lines.{line_text, lines_of, text_of_lines}
use Rattle.hub_bundle.specs.Files.{is_heading}
use Rattle.hub_preferences.specs.Counted.{comment, is_profile_heading}
use Rattle.hub_respelled.specs.Case.{case_of, folds_below, is_known}

-- Whether a line is below the heading of a profile whose names fold: as the line above it, or as the
-- heading that it is.
abbrev pub folds_at : Bool → List ℕ → List (Line (List ℕ)) → Bool
folds_at folds l below =
    if is_heading l then is_profile_heading l && folds_below below else folds

-- A line that says that names fold, or how, becomes a comment of the same length.
abbrev pub is_left_out : Bool → List ℕ → Bool
is_left_out folds l = folds && (not (is_heading l) && is_known (case_of l))

abbrev pub caseless_line : Bool → Line (List ℕ) → Line (List ℕ)
caseless_line folds l = if is_left_out folds l.text then comment l else l

-- These lines, where the first one is below such a heading or not.
abbrev pub caseless_lines : Bool → List (Line (List ℕ)) → List (Line (List ℕ))
caseless_lines folds [] = []
caseless_lines folds (l ∷ ls) =
    caseless_line (folds_at folds l.text ls) l ∷ caseless_lines (folds_at folds l.text ls) ls

-- The bundle with comments in place of the lines by which the names of its profiles fold.
abbrev pub caseless_bundle : List ℕ → List ℕ
caseless_bundle bytes = text_of_lines (caseless_lines false (lines_of bytes))

-- Whether the names of one of the profiles fold whose headings are among these lines.
abbrev pub some_folds : List (Line (List ℕ)) → Bool
some_folds [] = false
some_folds (l ∷ ls) = folds_at false l.text ls || some_folds ls

abbrev pub says_folding : List ℕ → Bool
says_folding bytes = some_folds (lines_of bytes)

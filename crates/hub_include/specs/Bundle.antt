-- The text of a profile that a bundle has.
use Rattle.std.specs.Prelude.{ℕ, ◌==◌, ◌+◌, Bool, false, nat_le, List, [], ◌∷◌, ◌++◌, length, Option, Some, None, is_some, codes, if◌then◌else◌}
use Rattle.std.specs.List.{flat_map}
use Rattle.hub_text.specs.Lines.{without_last_cr}
use Rattle.hub_include.specs.Includes.{Lines, Placed}
use Rattle.hub_include.specs.Words.{asked_by}

-- A line that begins with `%` would begin another section of a bundle.
abbrev pub is_heading : List ℕ → Bool
is_heading [] = false
is_heading (b ∷ bs) = b == 37

-- What stands before a line in the text: a line that includes a file becomes a comment.
abbrev pub before : List ℕ → List ℕ
before line =
    if is_some (asked_by (without_last_cr line)) then codes "# "
    else (if is_heading line then codes " " else [])

abbrev pub line_text : Placed → List ℕ
line_text l = before l.text ++ l.text ++ 10 ∷ []

-- The text: one line for each line, in their order.
abbrev pub text_of : Lines → List ℕ
text_of ls = flat_map line_text ls

-- A number of bytes, if it is at most this limit.
abbrev pub if_at_most : ℕ → ℕ → Option ℕ
if_at_most limit bytes = if nat_le bytes limit then Some bytes else None

-- How many bytes there are with those of the text of these lines, if they are at most this limit.
abbrev pub bytes_with : ℕ → ℕ → Lines → Option ℕ
bytes_with limit bytes ls = if_at_most limit (bytes + length (text_of ls))

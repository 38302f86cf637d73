-- The lines of a text, which is cut at each LF. Bytes and characters are cut alike.
use Rattle.std.specs.Prelude.{ℕ, Bool, true, false, ◌==◌, ◌-◌, nat_eq, List, [], ◌∷◌, ◌++◌, length, take, codes, if◌then◌else◌}
use Rattle.std.specs.List.{ends_with}
use Rattle.hub_text.specs.declared.line.Line.{Line}

abbrev pub is_lf : ℕ → Bool
is_lf c = c == 10

-- A line that an LF ends, and one that ends with the text.
abbrev pub ended : List ℕ → Line (List ℕ)
ended l = record { text = l; is_ended = true }

abbrev pub unended : List ℕ → Line (List ℕ)
unended l = record { text = l; is_ended = false }

-- A character before the first line.
abbrev pub onto_first_line : ℕ → List (Line (List ℕ)) → List (Line (List ℕ))
onto_first_line c [] = unended (c ∷ []) ∷ []
onto_first_line c (l ∷ ls) = record { text = c ∷ l.text; is_ended = l.is_ended } ∷ ls

-- The lines of a text. There is none after an LF at its end, so only the last line may lack its LF,
-- and it isn't empty then.
abbrev pub lines_of : List ℕ → List (Line (List ℕ))
lines_of [] = []
lines_of (c ∷ cs) = if is_lf c then ended [] ∷ lines_of cs else onto_first_line c (lines_of cs)

-- The text of these lines.
abbrev pub line_text : Line (List ℕ) → List ℕ
line_text l = if l.is_ended then l.text ++ 10 ∷ [] else l.text

abbrev pub text_of_lines : List (Line (List ℕ)) → List ℕ
text_of_lines [] = []
text_of_lines (l ∷ ls) = line_text l ++ text_of_lines ls

-- A text with that character at its end loses it, once.
abbrev pub without_last : ℕ → List ℕ → List ℕ
without_last c [] = []
without_last c (d ∷ []) = if d == c then [] else d ∷ []
without_last c (d ∷ e ∷ cs) = d ∷ without_last c (e ∷ cs)

-- A line without one CR at its end.
abbrev pub without_last_cr : List ℕ → List ℕ
without_last_cr l = if ends_with nat_eq l (codes "\r") then take (length l - 1) l else l

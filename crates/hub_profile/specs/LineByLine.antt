-- A text that is read line by line: what its lines say, or the fault of the lowest line that has
-- one.
use Rattle.std.specs.Prelude.{ℕ, nat_lt, bytes_eq, Bool, List, [], ◌∷◌, map, Option, Some, None, Result, Ok, Err, if◌then◌else◌}
use Rattle.std.specs.List.{enumerate_from, fold, list_all}
use denote.Ref.{Bor}
use Rattle.std.specs.Str.{is_utf8, chars}
use Rattle.hub_profile.specs.declared.fault.Fault.{Fault}
use Rattle.hub_profile.specs.declared.fault.Fault.TheVariants.{NotUtf8}
use Rattle.hub_profile.specs.declared.fault.ProfileFault.{ProfileFault}
use Rattle.hub_profile.specs.Lines.{trimmed_line, is_setting, setting}
use Rattle.hub_text.specs.declared.line.Line.{Line}
use Rattle.hub_text.specs.Lines.{lines_of}

-- What a setting on the line of that number, with that name and value, adds to what the lines
-- before it say, or its fault.
abbrev pub Table : Type 0 → Type 0
Table S = S → (line : ℕ) → (name value : List ℕ) → Result S Fault

abbrev pub with_pair :
    {S : Type 0} → Table S → S → ℕ → Result (List ℕ × List ℕ) Fault → Result S Fault
with_pair table said n (Ok pair) = table said n pair.0 pair.1
with_pair table said n (Err f) = Err f

-- What a line adds: nothing if it is blank or a comment.
abbrev pub with_line : {S : Type 0} → Table S → S → ℕ → List ℕ → Result S Fault
with_line table said n l =
    if is_setting (trimmed_line l) then with_pair table said n (setting (trimmed_line l))
    else Ok said

-- A fault is reported with its line.
abbrev pub at_line : {S : Type 0} → ℕ → Result S Fault → Result S ProfileFault
at_line n (Ok said) = Ok said
at_line n (Err f) = Err (record { line = n; fault = f })

-- The lines before this one, and then this one, which stands beside its number.
abbrev pub and_line :
    {S : Type 0} → Table S → Result S ProfileFault → ℕ × Line (List ℕ) → Result S ProfileFault
and_line table (Ok said) l = at_line l.0 (with_line table said l.0 l.1.text)
and_line table (Err f) l = Err f

-- The lines of a text with their numbers, the first of which is 1.
abbrev pub numbered_lines : List ℕ → List (ℕ × Line (List ℕ))
numbered_lines cs = enumerate_from 1 (lines_of cs)

-- What the lines of a text say, from nothing on.
abbrev pub lines_reading : {S : Type 0} → Table S → S → List ℕ → Result S ProfileFault
lines_reading table nothing cs = fold (and_line table) (Ok nothing) (numbered_lines cs)

-- Bytes that are not text are reported at line 0.
abbrev pub not_utf8 : ProfileFault
not_utf8 = record { line = 0; fault = NotUtf8 }

-- What bytes say that have to be text.
abbrev pub if_text :
    {T : Type 0} → (List ℕ → Result T ProfileFault) → List ℕ → Result T ProfileFault
if_text reading bytes = if is_utf8 bytes then reading (chars bytes) else Err not_utf8

-- The value beside a name in a list of pairs.
abbrev pub look_up : {K : Type 0} → List ℕ → List (List ℕ × K) → Option K
look_up name [] = None
look_up name (row ∷ rows) = if bytes_eq name row.0 then Some row.1 else look_up name rows

-- The rows of a table in code, by what their names point to, and whether the names are ASCII.
abbrev pub rows_of : {K : Type 0} → List (Bor (List ℕ) × K) → List (List ℕ × K)
rows_of {K = K} rows = map (λ (row : Bor (List ℕ) × K). (row.0.now, row.1)) rows

abbrev pub are_words : {K : Type 0} → List (List ℕ × K) → Bool
are_words {K = K} rows = list_all (λ (row : List ℕ × K). list_all (λ c. nat_lt c 128) row.0) rows

-- A table of hosts.
use Rattle.std.specs.Prelude.{ℕ, ◌+◌, ◌-◌, ◌==◌, ◌&&◌, ◌||◌, not, Bool, true, false, nat_eq, bytes_eq, List, [], ◌∷◌, ◌++◌, length, take, Option, Some, None, Result, Ok, Err, codes, if◌then◌else◌}
use Rattle.std.specs.List.{ends_with, list_any}
use Rattle.std.specs.Str.{str_eq_ignore_ascii_case}
use Rattle.std.specs.Bool.{beq}
use Rattle.std.specs.Option.{option_or}
use denote.Ref.{Bor}
use Rattle.hub_text.specs.declared.line.Line.{Line}
use Rattle.hub_text.specs.Lines.{lines_of, without_last_cr}
use Rattle.hub_hosts.specs.Words.{before, begins_with, from_first, is_one_of, skip, skip_end}
use Rattle.hub_hosts.specs.declared.fault.HostsFault.{HostsFault}
use Rattle.hub_hosts.specs.declared.fault.HostsFault.TheVariants.{BadLine, SecondLine}
use Rattle.hub_hosts.specs.declared.host.Host.{Host}

-- A host, or a user of it, and the path that stands for its `/`, or for a home there.
abbrev pub Row : Type 0
Row = Host (List ℕ)

abbrev pub blanks : List ℕ
blanks = codes " \t"

abbrev pub slash : List ℕ
slash = codes "/"

-- What a line says: it loses a CR at its end, and the blanks around it.
abbrev pub said_by : List ℕ → List ℕ
said_by line = skip_end blanks (skip blanks (without_last_cr line))

-- A blank line and one that begins with `#` say nothing.
abbrev pub says_nothing : List ℕ → Bool
says_nothing said = (length said == 0) || begins_with (codes "#") said

-- The first word of a line, and the path that follows it and blanks.
abbrev pub word_of : List ℕ → List ℕ
word_of said = before said (from_first blanks said)

abbrev pub path_in : List ℕ → List ℕ
path_in said = skip blanks (from_first blanks said)

-- A word with `~` at its end is for a home.
abbrev pub is_for_home : List ℕ → Bool
is_for_home word = ends_with nat_eq word (codes "~")

abbrev pub name_in : List ℕ → List ℕ
name_in word = if is_for_home word then take (length word - 1) word else word

-- The row of a word and a path. The path loses the slashes at its end.
abbrev pub row_with : Bool → List ℕ → List ℕ → Row
row_with folds_names word path = record {
  name = name_in word;
  is_for_home = is_for_home word;
  path = skip_end slash path;
  folds_names = folds_names;
}

-- The name isn't empty and has no `/`, and the path is absolute.
abbrev pub is_row : List ℕ → List ℕ → Bool
is_row name path =
    not (length name == 0) && (not (is_one_of name 47) && begins_with slash path)

abbrev pub row_at : Bool → List ℕ → Option Row
row_at folds_names said =
    if is_row (name_in (word_of said)) (path_in said)
    then Some (row_with folds_names (word_of said) (path_in said)) else None

-- A line whose first word is this one has a host and a path behind it. The host takes names that
-- differ in case alone for one name.
abbrev pub folds_word : List ℕ
folds_word = codes "folds-names"

abbrev pub folding_row : List ℕ → Option Row
folding_row said = if bytes_eq (word_of said) folds_word then row_at true (path_in said) else None

-- A line that is a host and a path is that, whatever its host.
abbrev pub row_of : List ℕ → Option Row
row_of said = option_or (row_at false said) (folding_row said)

-- A row is for roots of this name, relative to a home or not. Names are compared without regard to
-- the case of ASCII letters.
abbrev pub is_same_name : List ℕ → List ℕ → Bool
is_same_name one other = str_eq_ignore_ascii_case one other

abbrev pub is_for : List ℕ → Bool → Row → Bool
is_for name in_home row = beq row.is_for_home in_home && is_same_name row.name name

abbrev pub has_row : List Row → List ℕ → Bool → Bool
has_row rows name in_home = list_any (is_for name in_home) rows

-- The rows so far, and that of a line, or the fault of the line of this number.
abbrev pub Rows : Type 0
Rows = Result (List Row) HostsFault

abbrev pub add_row : ℕ → List Row → Option Row → Rows
add_row number rows None = Err (BadLine number)
add_row number rows (Some row) =
    if has_row rows row.name row.is_for_home then Err (SecondLine number)
    else Ok (rows ++ row ∷ [])

abbrev pub add_line : ℕ → List Row → List ℕ → Rows
add_line number rows said =
    if says_nothing said then Ok rows else add_row number rows (row_of said)

abbrev pub and_then : Rows → (List Row → Rows) → Rows
and_then (Ok rows) more = more rows
and_then (Err e) more = Err e

abbrev pub add_lines : ℕ → List Row → List (Line (List ℕ)) → Rows
add_lines number rows [] = Ok rows
add_lines number rows (l ∷ ls) =
    and_then (add_line number rows (said_by l.text)) (λ more. add_lines (number + 1) more ls)

-- The rows of a table, one for each line that says something, or its first fault.
abbrev pub rows_of : List ℕ → Rows
rows_of bytes = add_lines 1 [] (lines_of bytes)

-- A borrowed row.
abbrev pub of_bytes : Host (Bor (List ℕ)) → Row
of_bytes row = record {
  name = row.name.now;
  is_for_home = row.is_for_home;
  path = row.path.now;
  folds_names = row.folds_names;
}

-- The text of a profile, with paths in place of roots on other machines. It may be the profile of
-- another machine itself: then its roots here are on that one.
use Rattle.std.specs.Prelude.{ℕ, ◌&&◌, Bool, false, is_some, List, [], ◌∷◌, ◌++◌, drop, length, map, Option, Some, None, codes, if◌then◌else◌}
use Rattle.std.specs.List.{list_any}
use Rattle.hub_text.specs.declared.line.Line.{Line}
use Rattle.hub_text.specs.Lines.{lines_of, text_of_lines, without_last_cr}
use Rattle.std.specs.Option.{option_map}
use Rattle.hub_hosts.specs.Remotes.{is_local_drive, path_of, remote_for}
use Rattle.hub_hosts.specs.Table.{Row, blanks}
use Rattle.hub_hosts.specs.Words.{before, begins_with, behind, behind_last_arrow, from_first, skip, skip_end}

-- The preferences whose value is a root, and those whose value ends with `-> ROOT`.
abbrev pub root_names : List (List ℕ)
root_names =
    codes "root" ∷ codes "force" ∷ codes "prefer"
    ∷ codes "nocreation" ∷ codes "noupdate" ∷ codes "nodeletion" ∷ []

abbrev pub arrow_names : List (List ℕ)
arrow_names =
    codes "nocreationpartial" ∷ codes "noupdatepartial" ∷ codes "nodeletionpartial"
    ∷ codes "forcepartial" ∷ codes "preferpartial" ∷ []

-- A line sets a preference: its name and `=`, maybe with blanks before each.
abbrev pub sets : List ℕ → List ℕ → Bool
sets line name =
    begins_with name (skip blanks line)
    && begins_with (codes "=") (skip blanks (drop (length name) (skip blanks line)))

abbrev pub sets_one_of : List (List ℕ) → List ℕ → Bool
sets_one_of names line = list_any (sets line) names

abbrev pub sets_root : List ℕ → Bool
sets_root line = sets_one_of root_names line

abbrev pub sets_arrow : List ℕ → Bool
sets_arrow line = sets_one_of arrow_names line

-- The value of a line, and all that follows it.
abbrev pub value_of : List ℕ → List ℕ
value_of line = drop 1 (from_first (codes "=") line)

-- A value from the root behind its last `->` on.
abbrev pub from_arrow : List ℕ → Option (List ℕ)
from_arrow value = option_map (skip blanks) (behind_last_arrow value)

-- A line from its root on, if it has one.
abbrev pub from_root : List ℕ → Option (List ℕ)
from_root line =
    if sets_root line then Some (skip blanks (value_of line))
    else (if sets_arrow line then from_arrow (value_of line) else None)

-- The root at the beginning of a text: blanks and a CR at its end are no part of it.
abbrev pub root_in : List ℕ → List ℕ
root_in text = skip_end blanks (without_last_cr text)

-- The root that a line `root` sets.
abbrev pub own_root : List ℕ → Option (List ℕ)
own_root line =
    if sets line (codes "root") then Some (root_in (skip blanks (value_of line))) else None

-- A line of a profile of this machine names a root on another machine.
abbrev pub is_remote_end : Option (List ℕ) → Option (List ℕ) → Bool
is_remote_end machine None = false
is_remote_end machine (Some end) = is_some (remote_for machine (root_in end))

abbrev pub names_remote : Option (List ℕ) → List ℕ → Bool
names_remote machine line = is_remote_end machine (from_root line)

-- A line names a root here on a drive.
abbrev pub is_drive_end : Option (List ℕ) → Bool
is_drive_end None = false
is_drive_end (Some end) = is_local_drive (root_in end)

abbrev pub names_drive : List ℕ → Bool
names_drive line = is_drive_end (from_root line)

-- A line with another root, in the place of that at the end of the line.
abbrev pub with_root : List ℕ → List ℕ → List ℕ → List ℕ
with_root line end root = before line end ++ root ++ behind end (root_in end)

abbrev pub with_root_if : List ℕ → List ℕ → Option (List ℕ) → List ℕ
with_root_if line end None = line
with_root_if line end (Some root) = with_root line end root

-- A line with the path that stands for its root, if there is one.
abbrev pub line_from : List Row → Option (List ℕ) → List ℕ → Option (List ℕ) → List ℕ
line_from rows machine line None = line
line_from rows machine line (Some end) =
    with_root_if line end (path_of rows machine (root_in end))

abbrev pub line_for : List Row → Option (List ℕ) → List ℕ → List ℕ
line_for rows machine line = line_from rows machine line (from_root line)

abbrev pub whole_line_for : List Row → Option (List ℕ) → Line (List ℕ) → Line (List ℕ)
whole_line_for rows machine l =
    record { text = line_for rows machine l.text; is_ended = l.is_ended }

-- The text of a profile of this machine, or of none that is named, line by line.
abbrev pub text_for : List Row → Option (List ℕ) → List ℕ → List ℕ
text_for rows machine text = text_of_lines (map (whole_line_for rows machine) (lines_of text))

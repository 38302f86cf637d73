-- Profiles whose names fold by the hosts of their roots.
use Rattle.std.specs.Prelude.{ℕ, Bool, false, ◌&&◌, ◌||◌, List, ◌++◌, Option, Some, None, codes, if◌then◌else◌}
use Rattle.std.specs.List.{list_any}
use Rattle.hub_text.specs.Lines.{lines_of}
use Rattle.hub_hosts.specs.Profiles.{own_root, text_for}
use Rattle.hub_hosts.specs.Remotes.{folds_names, is_local, is_own}
use Rattle.hub_hosts.specs.Table.{Row}

-- A row is for this machine, and marks it as one that folds names.
abbrev pub marks_own : Row → Bool
marks_own row = is_own row && row.folds_names

-- A root is one of this machine, and names fold here.
abbrev pub folds_here : List Row → Option (List ℕ) → List ℕ → Bool
folds_here rows None root = is_local root && list_any marks_own rows
folds_here rows (Some machine) root = false

abbrev pub folds_root : List Row → Option (List ℕ) → Option (List ℕ) → Bool
folds_root rows machine None = false
folds_root rows machine (Some root) = folds_names rows machine root || folds_here rows machine root

-- A line sets a root at which names fold; a text has such a line.
abbrev pub folds_line : List Row → Option (List ℕ) → List ℕ → Bool
folds_line rows machine line = folds_root rows machine (own_root line)

abbrev pub folds_text : List Row → Option (List ℕ) → List ℕ → Bool
folds_text rows machine text = list_any (λ l. folds_line rows machine l.text) (lines_of text)

-- The line by which names fold, behind all lines of a text.
abbrev pub case_line : List ℕ
case_line = codes "\nignorecase = true\n"

abbrev pub with_case : Bool → List ℕ → List ℕ
with_case folds text = if folds then text ++ case_line else text

-- The text of a profile, with paths in place of roots on other machines, and with that line if names
-- fold at a root of it.
abbrev pub profile_for : List Row → Option (List ℕ) → List ℕ → List ℕ
profile_for rows machine text = with_case (folds_text rows machine text) (text_for rows machine text)

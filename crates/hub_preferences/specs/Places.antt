-- The roots of a bundle, and files that lie in none of them.
use Rattle.std.specs.Prelude.{ℕ, Bool, false, not, ◌&&◌, ◌||◌, ◌==◌, nat_le, length, List, [], ◌∷◌, ◌++◌, Option, Some, None, is_some, Result, Ok, Err, if◌then◌else◌, codes}
use Rattle.std.specs.List.{list_any}
use Rattle.std.specs.Str.{is_utf8, chars}
use Rattle.hub_text.specs.declared.line.Line.{Line}
use Rattle.hub_text.specs.Lines.{lines_of}
use Rattle.hub_path.specs.Path.{Path, is_over, name_in}
use Rattle.hub_path.specs.Reading.{root_reading}
use Rattle.hub_path.specs.declared.fault.PathFault.{PathFault}
use Rattle.hub_preferences.specs.declared.place.TheConstants.{PLACE_ROOTS}
use Rattle.hub_profile.specs.Lines.{trimmed_line, is_setting, has_equals, name_and_value, is_one_of}

-- The names of a value that is an absolute path, in the spelling of a root: no name is empty, `.` or
-- `..`, and one slash may stand at its end.
abbrev pub place_read : Result Path PathFault → Option Path
place_read (Ok p) = Some p
place_read (Err f) = None

abbrev pub place_of : List ℕ → Option Path
place_of v = place_read (root_reading v)

-- The root that a line sets, by its name and its value, by its text without blanks around it, and by
-- its bytes. None for a line that sets another name, or whose root the plain reader can't read.
abbrev pub root_of_pair : List ℕ × List ℕ → Option Path
root_of_pair pair = if is_one_of (codes "root" ∷ []) pair.0 then place_of pair.1 else None

abbrev pub root_in_text : List ℕ → Option Path
root_in_text t = if is_setting t && has_equals t then root_of_pair (name_and_value t) else None

abbrev pub root_on : List ℕ → Option Path
root_on l = if is_utf8 l then root_in_text (trimmed_line (chars l)) else None

abbrev pub in_list : Option Path → List Path
in_list None = []
in_list (Some p) = p ∷ []

-- The roots that these lines set.
abbrev pub roots_below : List (Line (List ℕ)) → List Path
roots_below [] = []
roots_below (l ∷ ls) = in_list (root_on l.text) ++ roots_below ls

-- The roots that the lines of a bundle set, in their order. Only profiles have such lines.
abbrev pub roots_in : List ℕ → List Path
roots_in bytes = roots_below (lines_of bytes)

-- A `/`, which separates names on each host, or a `\` or `:`, which do so on some.
abbrev pub is_separator : ℕ → Bool
is_separator c = c == 47 || (c == 92 || c == 58)

abbrev pub is_part_of_name : List ℕ → Bool
is_part_of_name v = not (list_any is_separator v)

-- A value without separators names a file in Unison's own folder (observed with Unison 2.52.1 of
-- `logfile`).
abbrev pub is_own_name : List ℕ → Bool
is_own_name v = is_part_of_name v && is_some (name_in v)

-- A place is one of these roots or in one, by its names.
abbrev pub is_in_one : List Path → Path → Bool
is_in_one roots p = list_any (λ r. is_over r p) roots

-- It is in none of them. Of more than PLACE_ROOTS roots that isn't known.
abbrev pub is_outside : List Path → Path → Bool
is_outside roots p =
    nat_le (length roots) PLACE_ROOTS && not (is_in_one roots p)

abbrev pub is_outside_at : List Path → Option Path → Bool
is_outside_at roots None = false
is_outside_at roots (Some p) = is_outside roots p

-- The file of a value surely lies in none of these roots.
abbrev pub is_apart : List Path → List ℕ → Bool
is_apart roots v = is_own_name v || is_outside_at roots (place_of v)

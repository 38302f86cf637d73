-- Which texts are names, paths and roots, and the first fault of each other text.
use Rattle.std.specs.Prelude.{◌≡◌, ℕ, ◌+◌, Bool, false, not, ◌&&◌, ◌||◌, ◌==◌, nat_lt, nat_le, nat_eq, drop, sum_by, codes, List, [], ◌∷◌, length, Option, Some, None, Result, Ok, Err, if◌then◌else◌}
use Rattle.std.specs.List.{list_all, list_any, starts_with}
use Rattle.std.specs.Char.{len_utf8}
use Rattle.hub_text.specs.Fails.{Fails}
use Rattle.hub_text.specs.Lines.{without_last}
use Rattle.hub_path.specs.Path.{Name, Path, path_of, text_of, is_forbidden, is_dots}
use Rattle.hub_path.specs.declared.name.TheConstants.{NAME_BYTES}
use Rattle.hub_path.specs.declared.rel_path.TheConstants.{PATH_NAMES}
use Rattle.hub_path.specs.declared.fault.PathFault.{PathFault}
use Rattle.hub_path.specs.declared.fault.PathFault.TheVariants.{Empty, EmptyName, DotName, BadCharacter, NameTooLong, TooDeep, LeadingSlash, NotAbsolute, RemoteRoot, OutOfMemory}

-- What is wrong with a name: the first of these. A name that is read takes at most NAME_BYTES
-- bytes.
abbrev pub name_fault : Name → Option PathFault
name_fault n =
    if length n == 0 then Some EmptyName
    else (if is_dots n then Some DotName
    else (if list_any is_forbidden n then Some BadCharacter
    else (if nat_lt NAME_BYTES (sum_by len_utf8 n) then Some NameTooLong else None)))

-- The value, unless there is a fault.
abbrev pub or_fault : {T : Type 0} → Option PathFault → T → Result T PathFault
or_fault None x = Ok x
or_fault (Some e) x = Err e

-- Names and paths within the readers' limits.
abbrev pub is_short_name : Name → Bool
is_short_name n = nat_le (sum_by len_utf8 n) NAME_BYTES

abbrev pub is_short_path : Path → Bool
is_short_path p = nat_le (length p) PATH_NAMES && list_all is_short_name p

-- The fault of a reading, or out of memory.
abbrev pub FailsAs : {T : Type 0} → Result T PathFault → PathFault → Type 0
FailsAs reading e = Fails OutOfMemory reading e

-- A text is a name, or has a fault.
abbrev pub name_reading : List ℕ → Result Name PathFault
name_reading cs = or_fault (name_fault cs) cs

-- The earlier one of two faults.
abbrev pub first_fault : Option PathFault → Option PathFault → Option PathFault
first_fault None later = later
first_fault (Some e) later = Some e

-- The first fault of the names from the left. A name after PATH_NAMES others is too deep, and isn't
-- looked at.
abbrev pub names_fault : ℕ → List Name → Option PathFault
names_fault depth [] = None
names_fault depth (n ∷ ns) =
    if depth == PATH_NAMES then Some TooDeep
    else first_fault (name_fault n) (names_fault (depth + 1) ns)

-- The names of a path, or their first fault.
abbrev pub names_reading : List Name → Result (List Name) PathFault
names_reading ns = or_fault (names_fault 0 ns) ns

-- A text begins with a slash.
abbrev pub begins_with_slash : List ℕ → Bool
begins_with_slash cs = starts_with nat_eq cs (codes "/")

-- A path: not empty, no slash at its start, and names between the slashes.
abbrev pub path_fault : List ℕ → Option PathFault
path_fault cs =
    if length cs == 0 then Some Empty
    else (if begins_with_slash cs then Some LeadingSlash else names_fault 0 (path_of cs))

abbrev pub path_reading : List ℕ → Result Path PathFault
path_reading cs = or_fault (path_fault cs) (path_of cs)

-- A text with a slash at its end loses it, once.
abbrev pub without_last_slash : List ℕ → List ℕ
without_last_slash cs = without_last 47 cs

-- `A` to `Z` and `a` to `z`.
abbrev pub is_letter : ℕ → Bool
is_letter c = (nat_le 65 c && nat_le c 90) || (nat_le 97 c && nat_le c 122)

-- What follows the letters at the start.
abbrev pub after_letters : List ℕ → List ℕ
after_letters [] = []
after_letters (c ∷ cs) = if is_letter c then after_letters cs else c ∷ cs

-- One or more letters, followed by `://`.
abbrev pub has_scheme : List ℕ → Bool
has_scheme [] = false
has_scheme (c ∷ cs) = is_letter c && starts_with nat_eq (after_letters cs) (codes "://")

-- A remote root begins with `//`, or with letters and `://`.
abbrev pub is_remote : List ℕ → Bool
is_remote cs = starts_with nat_eq cs (codes "//") || has_scheme cs

-- The names of a text that may be empty.
abbrev pub place_of : List ℕ → Path
place_of cs = if length cs == 0 then [] else path_of cs

-- A root is an absolute path, less one slash at its end; `/` alone has no names.
abbrev pub root_names : List ℕ → Path
root_names cs = place_of (without_last_slash (drop 1 cs))

-- A root: not empty, on this machine, and a slash followed by names.
abbrev pub root_fault : List ℕ → Option PathFault
root_fault cs =
    if length cs == 0 then Some Empty
    else (if is_remote cs then Some RemoteRoot
    else (if not (begins_with_slash cs) then Some NotAbsolute else names_fault 0 (root_names cs)))

abbrev pub root_reading : List ℕ → Result Path PathFault
root_reading cs = or_fault (root_fault cs) (root_names cs)

-- A text is a slash and the text of this root, and may end with one more slash.
abbrev pub IsRootText : Path → List ℕ → Type 0
IsRootText r cs = (cs ≡ 47 ∷ drop 1 cs) × (text_of r ≡ without_last_slash (drop 1 cs))

-- A root is read from a slash and its text.
abbrev pub IsReadBackAsRoot : Path → Type 0
IsReadBackAsRoot r = root_reading (47 ∷ text_of r) ≡ Ok r

-- Drives of Windows in the paths of roots. A drive stands for a folder right below the host's `/`:
-- its letter as a capital, and `:`.
use Rattle.std.specs.Prelude.{ℕ, ◌==◌, Bool, true, not, ◌&&◌, List, [], ◌∷◌, ◌++◌, length, drop, map, Option, Some, None, is_some, codes, if◌then◌else◌}
use Rattle.std.specs.Char.{is_ascii_alphabetic, to_ascii_uppercase}
use Rattle.std.specs.Option.{option_or}
use denote.Ref.{Bor}
use Rattle.hub_hosts.specs.Table.{slash}
use Rattle.hub_hosts.specs.Words.{begins_with, is_one_of, skip, skip_end}
use Rattle.hub_hosts.specs.declared.drive.Below.{Below}

-- Both stand between the names of a path on Windows.
abbrev pub separators : List ℕ
separators = codes "/\\"

-- The name of a drive ends at the end of the path, or before one of these.
abbrev pub is_end : List ℕ → Bool
is_end [] = true
is_end (b ∷ bs) = is_one_of separators b

-- Where a path on the drive of this letter leads. The separators around it go.
abbrev pub on_drive : ℕ → List ℕ → Below (List ℕ)
on_drive letter path = record {
  drive = Some (to_ascii_uppercase letter);
  rest = skip_end separators (skip separators path);
}

-- Where a text leads that begins with the letter of a drive, and then with this word.
abbrev pub on_drive_if : ℕ → List ℕ → Option (Below (List ℕ))
on_drive_if letter rest =
    if is_ascii_alphabetic letter && is_end rest then Some (on_drive letter rest) else None

abbrev pub behind_letter : ℕ → List ℕ → List ℕ → Option (Below (List ℕ))
behind_letter letter word others =
    if begins_with word others then on_drive_if letter (drop (length word) others) else None

abbrev pub at_letter : List ℕ → List ℕ → Option (Below (List ℕ))
at_letter word [] = None
at_letter word (letter ∷ others) = behind_letter letter word others

-- Where a path leads that begins with a drive: `C:`, `C:/` or `C:\`. It is absolute.
abbrev pub by_letter : List ℕ → Option (Below (List ℕ))
by_letter path = at_letter (codes ":") path

abbrev pub begins_with_drive : List ℕ → Bool
begins_with_drive path = is_some (by_letter path)

-- Cygwin has the drive `C:` at `/cygdrive/c`.
abbrev pub by_cygdrive : List ℕ → Option (Below (List ℕ))
by_cygdrive path =
    if begins_with slash path && begins_with (codes "cygdrive/") (skip slash path)
    then at_letter [] (skip slash (drop 9 (skip slash path))) else None

abbrev pub drive_of : List ℕ → Option (Below (List ℕ))
drive_of path = option_or (by_letter path) (by_cygdrive path)

-- A path that is on no drive loses the slashes around it.
abbrev pub plain : List ℕ → Below (List ℕ)
plain path = record { drive = None; rest = skip_end slash (skip slash path) }

abbrev pub below_or : List ℕ → Option (Below (List ℕ)) → Below (List ℕ)
below_or path None = plain path
below_or path (Some below) = below

-- Where a path leads, seen from the `/` of its host.
abbrev pub below_of : List ℕ → Below (List ℕ)
below_of path = below_or path (drive_of path)

abbrev pub is_on_drive : Below (List ℕ) → Bool
is_on_drive below = is_some below.drive

abbrev pub is_top : Below (List ℕ) → Bool
is_top below = not (is_on_drive below) && length below.rest == 0

-- A path on a drive has slashes for its separators.
abbrev pub slashed : ℕ → ℕ
slashed b = if b == 92 then 47 else b

abbrev pub drive_text : ℕ → List ℕ → List ℕ
drive_text letter rest =
    letter ∷ 58 ∷ (if length rest == 0 then [] else slash ++ map slashed rest)

-- The path below the host's `/`.
abbrev pub text_from : Option ℕ → List ℕ → List ℕ
text_from None rest = rest
text_from (Some letter) rest = drive_text letter rest

abbrev pub text_of : Below (List ℕ) → List ℕ
text_of below = text_from below.drive below.rest

-- A borrowed value.
abbrev pub of_below : Below (Bor (List ℕ)) → Below (List ℕ)
of_below below = record { drive = below.drive; rest = below.rest.now }

-- Which text is told of which files.
use Rattle.std.specs.Prelude.{◌≡◌, ◌⊎◌, ◌==◌, ◌+◌, ◌<◌, ℕ, true, false, List, [], ◌∷◌, ◌++◌, length, sum_by, Option, Some, None, Ok, Err, IfSome, is_some, bytes_eq, string_bytes}
use Rattle.std.specs.List.{All, list_any}
use Rattle.std.specs.Result.{is_ok}
use Rattle.std.specs.Str.{NoCharPasses}
use Rattle.hub_include.specs.Bundle.{text_of}
use Rattle.hub_include.specs.Files.{Known}
use Rattle.hub_include.specs.Includes.{IsFault, Lines, Told, lines_of}
use Rattle.hub_include.specs.declared.fault.LineFault.{LineFault}
use Rattle.hub_include.specs.declared.fault.LinesFault.{LinesFault}
use Rattle.hub_include.specs.declared.fault.LinesFault.TheVariants.{Line, NoProfile}
use Rattle.hub_folder.specs.Reading.{FileRead, Bytes, Missing, Reads, HasFault, IsMissing}
use Rattle.hub_folder.specs.declared.fault.Untaken.{Untaken}
use Rattle.hub_folder.specs.declared.fault.Untaken.TheVariants as untaken
use Rattle.hub_folder.specs.declared.shelf.TheConstants.{INCLUDED_BYTES, MOST_FILES}

-- The path of a folder, as it stands before the names of its files: empty, or with a `/` at its end.
abbrev pub IsPlace : List ℕ → Type 0
IsPlace place = (place ≡ []) ⊎ ((path : List ℕ) × (place ≡ path ++ 47 ∷ []))

-- A file's path is the path of this folder, up to its last `/`, and this name.
pub record IsCut (path place name : List ℕ) : Type 0 where
  pub whole : path ≡ place ++ name
  pub ends : IsPlace place
  pub last : NoCharPasses (λ c. c == 47) name

-- What a read gives by which this is known of a file: its bytes, or that there is none.
abbrev pub read_as : Option (List ℕ) → FileRead
read_as (Some bytes) = Bytes bytes
read_as None = Missing

-- What is known of a folder's files is what reads give of them, as far as that is known.
abbrev pub Agrees : Reads → List ℕ → Known → Type 0
Agrees reads place known =
    (name : List ℕ) (held : Option (List ℕ)) → known name ≡ Some held
    → IfSome (reads (place ++ name)) (λ r. r ≡ read_as held)

-- A profile's text: its lines, and those of what it includes, by what reads give.
pub record IsText (reads : Reads) (place name text : List ℕ) : Type 0 where
  pub known : Known
  pub agrees : Agrees reads place known
  pub lines : Lines
  pub told : lines_of known name ≡ Ok lines
  pub text_is : text ≡ text_of lines

-- The text of the profile in the file of this path.
pub record IsProfile (reads : Reads) (path text : List ℕ) : Type 0 where
  pub place : List ℕ
  pub name : List ℕ
  pub cut : IsCut path place name
  pub text_is : IsText reads place name text

-- The lines of a file, with those of what it includes; none, where they can't be told.
abbrev pub told_lines : Told → Lines
told_lines (Ok ls) = ls
told_lines (Err e) = []

abbrev pub lines_in : Known → List ℕ → Lines
lines_in known name = told_lines (lines_of known name)

-- The bytes of the texts of these files.
abbrev pub text_bytes : Known → List (List ℕ) → ℕ
text_bytes known names = sum_by (λ name. length (text_of (lines_in known name))) names

-- There is a file of this name.
abbrev pub IsThere : Known → List ℕ → Type 0
IsThere known name = (bytes : List ℕ) × (known name ≡ Some (Some bytes))

-- What was known is still known.
abbrev pub KeepsKnown : Known → Known → Type 0
KeepsKnown old new =
    (name : List ℕ) (held : Option (List ℕ)) → old name ≡ Some held → new name ≡ Some held

-- No two of these names are alike.
abbrev pub AreApart : List (List ℕ) → Type 0
AreApart [] = Unit {0}
AreApart (n ∷ ns) = (list_any (λ m. bytes_eq m n) ns ≡ false) × AreApart ns

-- Of each of these files it is known what a read of it gives.
abbrev pub AreKnown : Known → List (List ℕ) → Type 0
AreKnown known [] = Unit {0}
AreKnown known (n ∷ ns) = (is_some (known n) ≡ true) × AreKnown known ns

-- So many different files were looked for.
pub record AreLookedFor (known : Known) (count : ℕ) : Type 0 where
  pub names : List (List ℕ)
  pub count_is : length names ≡ count
  pub apart : AreApart names
  pub are_known : AreKnown known names

-- More than `MOST_FILES` different files of this folder were looked for: reads tell of each that it
-- is there, or missing.
abbrev pub IsTooMany : Reads → List ℕ → Type 0
IsTooMany reads place =
    (known : Known) × Agrees reads place known
    × (count : ℕ) × (MOST_FILES < count) × AreLookedFor known count

-- Why the files that the profile in the file of this name takes in can't be read, in the folder of
-- this path: what is wrong with one there, or that they are too many.
abbrev pub IsUntaken : Reads → List ℕ → List ℕ → Untaken → Type 0
IsUntaken reads place name (untaken.File path fault) =
    (file : List ℕ) × (string_bytes path ≡ place ++ file)
    × HasFault reads (string_bytes path) fault
IsUntaken reads place name (untaken.TooManyFiles path) =
    (string_bytes path ≡ place ++ name) × IsTooMany reads place
IsUntaken reads place name untaken.OutOfMemory = Unit {0}
IsUntaken reads place name e = ⊥

-- If more than `MOST_FILES` files were looked for, that is why.
abbrev pub ShowsTooMany : Reads → List ℕ → List ℕ → Untaken → Type 0
ShowsTooMany reads place name e = IsTooMany reads place → IsUntaken reads place name e

-- Why the lines of this file can't be told, by what is known of the folder's files.
abbrev pub IsUntold : List ℕ → Known → List ℕ → Untaken → Type 0
IsUntold place known name (untaken.Line folder fault) =
    (string_bytes folder ≡ place) × (lines_of known name ≡ Err (Line fault))
IsUntold place known name (untaken.Gone path) =
    (string_bytes path ≡ place ++ name) × (lines_of known name ≡ Err NoProfile)
IsUntold place known name untaken.OutOfMemory = Unit {0}
IsUntold place known name e = ⊥

-- For this fault of the lines of a file they can't be told, and that is why.
abbrev pub ShowsUntold : List ℕ → List ℕ → LinesFault → Untaken → Type 0
ShowsUntold place name fault e =
    (known : Known) → IsFault (lines_of known name) fault → IsUntold place known name e

-- The lines of each of these files can be told.
abbrev pub AreTellable : Known → List (List ℕ) → Type 0
AreTellable known names = All (λ name. is_ok (lines_of known name) ≡ true) names

-- The lines of these other files of the folder can be told, and this line of the file of this name,
-- or of what it includes, can't be followed.
abbrev pub IsWrongLine : Reads → List ℕ → List (List ℕ) → List ℕ → LineFault → Type 0
IsWrongLine reads place before name fault =
    (known : Known) × Agrees reads place known × AreTellable known before
    × (lines_of known name ≡ Err (Line fault))

-- The lines of these other files of the folder can be told, and there is no file of this name.
abbrev pub IsGone : Reads → List ℕ → List (List ℕ) → List ℕ → Type 0
IsGone reads place before name =
    (known : Known) × Agrees reads place known × AreTellable known before
    × IsMissing reads (place ++ name)

-- The lines of these other files of the folder can be told, and the text of the file of this name is
-- too long after so many bytes of texts, and theirs.
abbrev pub IsTooLong : Reads → List ℕ → ℕ → List (List ℕ) → List ℕ → List ℕ → Type 0
IsTooLong reads place taken before name path =
    (known : Known) × Agrees reads place known × (path ≡ place ++ name)
    × (INCLUDED_BYTES < taken + text_bytes known (before ++ name ∷ []))
    × AreTellable known before

-- Why the profile in the file of this name can't be taken after these.
abbrev pub IsUntakenAfter : Reads → List ℕ → ℕ → List (List ℕ) → List ℕ → Untaken → Type 0
IsUntakenAfter reads place taken before name (untaken.TooLong path) =
    IsTooLong reads place taken before name (string_bytes path)
IsUntakenAfter reads place taken before name (untaken.Line folder fault) =
    (string_bytes folder ≡ place) × IsWrongLine reads place before name fault
IsUntakenAfter reads place taken before name (untaken.Gone path) =
    (string_bytes path ≡ place ++ name) × IsGone reads place before name
IsUntakenAfter reads place taken before name e = IsUntaken reads place name e

-- Why the profile in a file can't be taken that is read before what it includes: it isn't gone.
abbrev pub IsUntakenAlone : Reads → List ℕ → ℕ → List ℕ → Untaken → Type 0
IsUntakenAlone reads place taken name (untaken.Gone path) = ⊥
IsUntakenAlone reads place taken name e = IsUntakenAfter reads place taken [] name e

-- Why the profile in the file of this path can't be taken after so many bytes of texts.
pub record IsUntakenIn (reads : Reads) (taken : ℕ) (path : List ℕ) (e : Untaken) : Type 0 where
  pub place : List ℕ
  pub name : List ℕ
  pub cut : IsCut path place name
  pub untaken : IsUntakenAlone reads place taken name e

abbrev pub IsUntakenFile : Reads → ℕ → List ℕ → Untaken → Type 0
IsUntakenFile reads taken path e = (e ≡ untaken.OutOfMemory) ⊎ IsUntakenIn reads taken path e

-- Why one of these files of the folder of this path can't be taken, after so many bytes of texts.
abbrev pub IsUntakenOf : Reads → List ℕ → ℕ → List (List ℕ) → Untaken → Type 0
IsUntakenOf reads place taken names e =
    (e ≡ untaken.OutOfMemory)
    ⊎ ((before : List (List ℕ)) × (name : List ℕ) × (after : List (List ℕ))
    × (names ≡ before ++ name ∷ after) × IsUntakenAfter reads place taken before name e)

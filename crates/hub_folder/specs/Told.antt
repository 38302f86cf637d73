-- Files and their lines, as code has them.
use Rattle.std.specs.Prelude.{◌≡◌, ◌&&◌, ◌+◌, ◌<◌, ◌++◌, not, ℕ, Bool, List, Ok, Option, String, filter, length, map, sum_by, bytes_eq, string_bytes}
use Rattle.std.specs.Global.{Global}
use Rattle.std.specs.List.{All, list_any}
use denote.Ref.{Bor}
use Rattle.hub_include.specs.Bundle.{text_of}
use Rattle.hub_include.specs.Files.{Known}
use Rattle.hub_include.specs.Includes.{Lines, lines_of, of_line}
use Rattle.hub_folder.specs.Folders.{AreProfiles, have_file, have_root, say_something}
use Rattle.hub_folder.specs.Noted.{Noted, AreNoted, IsNoted, IsNotedFolder}
use Rattle.hub_folder.specs.Machines.{machine_in}
use Rattle.hub_folder.specs.Operands.{AreNamed, IsNamed, Owned, bytes_in, owned}
use Rattle.hub_folder.specs.Reading.{Lists, Reads}
use Rattle.hub_folder.specs.declared.fault.Untaken.{Untaken}
use Rattle.hub_folder.specs.declared.fault.Untaken.TheVariants as untaken
use Rattle.hub_folder.specs.declared.folder.FolderProfile.{FolderProfile}
use Rattle.hub_folder.specs.declared.folder.TakenProfiles.{TakenProfiles}
use Rattle.hub_folder.specs.declared.operands.NamedProfile.{NamedProfile}
use Rattle.hub_folder.specs.declared.operands.NamedProfiles.{NamedProfiles}
use Rattle.hub_folder.specs.declared.shelf.TheConstants.{INCLUDED_BYTES}
use Rattle.hub_folder.specs.declared.told.Told.{Told}

abbrev pub file_told : Told → List ℕ
file_told t = t.name.now

abbrev pub lines_told : Told → Lines
lines_told t = map of_line t.lines.items

-- The lines of a file are told.
abbrev pub IsTold : Known → Told → Type 0
IsTold known t = lines_of known (file_told t) ≡ Ok (lines_told t)

-- The lines of the files of these names are told.
pub record AreTold (known : Known) (names : List (List ℕ)) (ts : List Told) : Type 0 where
  pub names_are : map file_told ts ≡ names
  pub lines_are : All (IsTold known) ts

abbrev pub includes_told : List ℕ → Told → Bool
includes_told name t = not (bytes_eq (file_told t) name) && have_file name (lines_told t)

abbrev pub is_profile_told : List Told → Told → Bool
is_profile_told ts t =
    have_root (lines_told t) && not (list_any (includes_told (file_told t)) ts)

-- A file sets no root and says something else, and no other one of these includes it.
abbrev pub is_rootless_told : List Told → Told → Bool
is_rootless_told ts t =
    (not (have_root (lines_told t)) && say_something (lines_told t))
    && not (list_any (includes_told (file_told t)) ts)

-- A file leaves out another one: that sets a root, and this one includes it.
abbrev pub leaves_out_told : Told → Told → Bool
leaves_out_told t other = have_root (lines_told other) && includes_told (file_told other) t

-- The paths of those of some files that it leaves out, and of those that are rootless among all.
abbrev pub left_out_told : List ℕ → List Told → Told → List (List ℕ)
left_out_told place ts t =
    map (λ other. place ++ file_told other) (filter (leaves_out_told t) ts)

abbrev pub rootless_told : List ℕ → List Told → List Told → List (List ℕ)
rootless_told place all ts = map (λ t. place ++ file_told t) (filter (is_rootless_told all) ts)

-- The paths that are left out by each profile among some of these files.
abbrev pub left_outs_told : List ℕ → List Told → List Told → List (List (List ℕ))
left_outs_told place all ts = map (left_out_told place all) (filter (is_profile_told all) ts)

-- The bytes of the texts of some files.
abbrev pub bytes_told : Told → ℕ
bytes_told t = length (text_of (lines_told t))

abbrev pub all_bytes_told : List Told → ℕ
all_bytes_told ts = sum_by bytes_told ts

-- Memory is out, or this file of a folder is too long after so many bytes of texts.
abbrev pub IsOverLimit : List ℕ → ℕ → Told → Untaken → Type 0
IsOverLimit place bytes t (untaken.TooLong path) =
    (string_bytes path ≡ place ++ file_told t) × (INCLUDED_BYTES < bytes + bytes_told t)
IsOverLimit place bytes t e = e ≡ untaken.OutOfMemory

-- The profiles among some of these files.
abbrev pub profile_told : List ℕ → Told → List ℕ × List ℕ
profile_told place t = (place ++ file_told t, text_of (lines_told t))

abbrev pub profiles_told : List ℕ → List Told → List Told → List (List ℕ × List ℕ)
profiles_told place all ts = map (profile_told place) (filter (is_profile_told all) ts)

-- The path and the text of a profile.
abbrev pub path_and_text : FolderProfile → List ℕ × List ℕ
path_and_text p = (string_bytes p.path, p.text.items)

-- The paths of the files that it leaves out.
abbrev pub paths_left_out : FolderProfile → List (List ℕ)
paths_left_out p = map string_bytes p.left_out.items

-- Profiles, and the paths of rootless files.
abbrev pub noted_of : List FolderProfile → List (String Global) → Noted
noted_of ps paths = record {
  files = map path_and_text ps;
  left_out = map paths_left_out ps;
  rootless = map string_bytes paths;
}

-- The bytes of the texts of these profiles.
abbrev pub profile_bytes : List FolderProfile → ℕ
profile_bytes ps = bytes_in (map path_and_text ps)

-- A profile of a machine, and the profiles alone.
abbrev pub owned_of : NamedProfile → Owned
owned_of p = owned (machine_in p.machine) (path_and_text p.profile)

abbrev pub folder_profiles : List NamedProfile → List FolderProfile
folder_profiles ps = map (λ p. p.profile) ps

abbrev pub named : Option (Bor (List ℕ)) → FolderProfile → NamedProfile
named machine profile = record { machine = machine; profile = profile }

-- The texts that are borrowed.
abbrev pub texts_in : List (Bor (List ℕ)) → List (List ℕ)
texts_in ts = map (λ t. t.now) ts

-- The profiles that are held are those of a folder, at a path, and of operands.
abbrev pub HoldProfiles : Reads → Lists → List ℕ → List FolderProfile → Type 0
HoldProfiles reads lists folder ps = AreProfiles reads lists folder (map path_and_text ps)

abbrev pub HoldPath : Reads → Lists → List ℕ → List FolderProfile → Type 0
HoldPath reads lists path ps = IsNamed reads lists path (map path_and_text ps)

abbrev pub HoldNamed : Reads → Lists → List (Bor (List ℕ)) → List NamedProfile → Type 0
HoldNamed reads lists operands ps =
    AreNamed reads lists (texts_in operands) (map owned_of ps)

-- What is held is what is in a folder, at a path, and what operands name, with the files that are
-- left out.
abbrev pub HoldNotedFolder : Reads → Lists → List ℕ → TakenProfiles → Type 0
HoldNotedFolder reads lists folder v =
    IsNotedFolder reads lists folder (noted_of v.profiles.items v.rootless.items)

abbrev pub HoldNotedPath : Reads → Lists → List ℕ → TakenProfiles → Type 0
HoldNotedPath reads lists path v =
    IsNoted reads lists path (noted_of v.profiles.items v.rootless.items)

abbrev pub HoldNoted : Reads → Lists → List (Bor (List ℕ)) → NamedProfiles → Type 0
HoldNoted reads lists operands v =
    AreNoted reads lists (texts_in operands)
    (noted_of (folder_profiles v.profiles.items) v.rootless.items)

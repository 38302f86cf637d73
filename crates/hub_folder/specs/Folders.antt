-- The profiles of a folder.
use Rattle.std.specs.Prelude.{◌≡◌, ◌⊎◌, ◌==◌, ◌&&◌, ◌||◌, not, ℕ, Bool, true, false, nat_eq, List, [], ◌∷◌, ◌++◌, drop, map, filter, bytes_eq, string_bytes, codes, if◌then◌else◌}
use Rattle.std.specs.List.{All, ends_with, list_any}
use Rattle.std.specs.Result.{is_ok}
use Rattle.hub_include.specs.Bundle.{text_of}
use Rattle.hub_include.specs.Files.{Known}
use Rattle.hub_include.specs.Includes.{Lines, lines_of}
use Rattle.hub_include.specs.Words.{begins_with}
use Rattle.hub_folder.specs.Reading.{Lists, Reads, HasListFault, HasNames}
use Rattle.hub_folder.specs.Taken.{Agrees, IsUntakenOf, lines_in}
use Rattle.hub_folder.specs.declared.fault.Untaken.{Untaken}
use Rattle.hub_folder.specs.declared.fault.Untaken.TheVariants as untaken
use Rattle.hub_text.specs.Lines.{without_last_cr}

-- What follows the blanks and tabs at the beginning.
abbrev pub without_blanks : List ℕ → List ℕ
without_blanks [] = []
without_blanks (b ∷ bs) = if (b == 32) || (b == 9) then without_blanks bs else b ∷ bs

abbrev pub begins_with_equals : List ℕ → Bool
begins_with_equals [] = false
begins_with_equals (b ∷ bs) = b == 61

-- A line sets a root.
abbrev pub sets_root : List ℕ → Bool
sets_root line =
    begins_with (codes "root") (without_blanks line)
    && begins_with_equals (without_blanks (drop 4 (without_blanks line)))

-- A line says something: it isn't blank, and doesn't begin with `#` after blanks.
abbrev pub begins_setting : List ℕ → Bool
begins_setting [] = false
begins_setting (b ∷ bs) = not (b == 35)

abbrev pub says_something : List ℕ → Bool
says_something line = begins_setting (without_blanks (without_last_cr line))

-- The files of profiles.
abbrev pub profile_files : List (List ℕ) → List (List ℕ)
profile_files names = filter (λ name. ends_with nat_eq name (codes ".prf")) names

-- Lines set a root.
abbrev pub have_root : Lines → Bool
have_root ls = list_any (λ l. sets_root l.text) ls

-- Some of these lines are from the file of this name.
abbrev pub have_file : List ℕ → Lines → Bool
have_file name ls = list_any (λ l. bytes_eq l.file name) ls

-- Another one of these files includes that file.
abbrev pub is_included : Known → List (List ℕ) → List ℕ → Bool
is_included known names name =
    list_any (λ other. not (bytes_eq other name) && have_file name (lines_in known other)) names

-- A file is a profile of the folder: it has a root, and no other one of these files includes it.
abbrev pub is_profile : Known → List (List ℕ) → List ℕ → Bool
is_profile known names name =
    have_root (lines_in known name) && not (is_included known names name)

-- Some of these lines say something.
abbrev pub say_something : Lines → Bool
say_something ls = list_any (λ l. says_something l.text) ls

-- A profile leaves out a file of the folder: that one sets a root, and this one is another and
-- includes it.
abbrev pub leaves_out : Known → List ℕ → List ℕ → Bool
leaves_out known name other =
    have_root (lines_in known other)
    && (not (bytes_eq name other) && have_file other (lines_in known name))

-- The paths of those that it leaves out.
abbrev pub left_out_by : Known → List ℕ → List (List ℕ) → List ℕ → List (List ℕ)
left_out_by known place names name =
    map (λ other. place ++ other) (filter (leaves_out known name) names)

-- A file of the folder sets no root and says something else, and no other one of these includes it.
abbrev pub is_rootless : Known → List (List ℕ) → List ℕ → Bool
is_rootless known names name =
    (not (have_root (lines_in known name)) && say_something (lines_in known name))
    && not (is_included known names name)

-- The paths of those files.
abbrev pub rootless_of : Known → List ℕ → List (List ℕ) → List (List ℕ)
rootless_of known place names =
    map (λ name. place ++ name) (filter (is_rootless known names) names)

-- The profiles of a folder: the path of each file, and its text.
abbrev pub profile_of : Known → List ℕ → List ℕ → List ℕ × List ℕ
profile_of known place name = (place ++ name, text_of (lines_in known name))

abbrev pub profiles_of : Known → List ℕ → List (List ℕ) → List (List ℕ × List ℕ)
profiles_of known place names =
    map (profile_of known place) (filter (is_profile known names) names)

-- The paths of the files that each of them leaves out.
abbrev pub left_out_of : Known → List ℕ → List (List ℕ) → List (List (List ℕ))
left_out_of known place names =
    map (left_out_by known place names) (filter (is_profile known names) names)

-- A folder's path, as it stands before the names of its files.
abbrev pub place_of : List ℕ → List ℕ
place_of folder =
    if ends_with nat_eq folder (codes "/") then folder else folder ++ codes "/"

-- These are the files of profiles among those that a folder lists, if that is known.
abbrev pub HasProfileFiles : Lists → List ℕ → List (List ℕ) → Type 0
HasProfileFiles lists folder files =
    (names : List (List ℕ)) × HasNames lists folder names × (files ≡ profile_files names)

-- The profiles of the folder of this path, by what reads give and what the folder lists. The lines
-- of each file of a profile can be told.
pub record AreProfiles (reads : Reads) (lists : Lists) (folder : List ℕ)
    (profiles : List (List ℕ × List ℕ)) : Type 0 where
  pub names : List (List ℕ)
  pub listed : HasNames lists folder names
  pub known : Known
  pub agrees : Agrees reads (place_of folder) known
  pub told : All (λ name. is_ok (lines_of known name) ≡ true) (profile_files names)
  pub profiles_are : profiles ≡ profiles_of known (place_of folder) (profile_files names)

-- Why the profiles of the folder of this path can't be taken after so many bytes of texts: it can't be
-- listed, or what is wrong with a file of a profile, after those before it.
abbrev pub IsUntakenFolder : Reads → Lists → ℕ → List ℕ → Untaken → Type 0
IsUntakenFolder reads lists taken folder (untaken.Folder path fault) =
    (string_bytes path ≡ folder) × HasListFault lists folder fault
IsUntakenFolder reads lists taken folder e =
    (e ≡ untaken.OutOfMemory)
    ⊎ ((names : List (List ℕ)) × HasProfileFiles lists folder names
    × IsUntakenOf reads (place_of folder) taken names e)

-- Which files are left out of the profiles that operands name.
use Rattle.std.specs.Prelude.{◌≡◌, ℕ, true, false, List, [], ◌∷◌, ◌++◌}
use Rattle.hub_folder.specs.Folders.{AreProfiles, left_out_of, place_of, profile_files, rootless_of}
use Rattle.hub_folder.specs.Machines.{source_of}
use Rattle.hub_folder.specs.Operands.{File, IsNamed, is_profile_file}
use Rattle.hub_folder.specs.Reading.{Lists, Reads}

-- Profiles, and the files that are none.
pub record Noted : Type 0 where
  -- The path and the text of each profile.
  pub files : List File
  -- The paths of the files that each of them leaves out.
  pub left_out : List (List (List ℕ))
  -- The paths of files that set no root.
  pub rootless : List (List ℕ)

abbrev pub nothing : Noted
nothing = record { files = []; left_out = []; rootless = [] }

-- One after the other.
abbrev pub joined : Noted → Noted → Noted
joined a b = record {
  files = a.files ++ b.files;
  left_out = a.left_out ++ b.left_out;
  rootless = a.rootless ++ b.rootless;
}

-- The profiles of the folder of this path, in the order of their names. Each leaves out exactly the
-- files of profiles there that set a root and that it includes. The rootless files are exactly
-- those that set no root and say something else, and that no other one includes.
pub record IsNotedFolder (reads : Reads) (lists : Lists) (folder : List ℕ) (n : Noted)
    : Type 0 where
  pub profiles : AreProfiles reads lists folder n.files
  pub left_out_are : n.left_out
      ≡ left_out_of profiles.known (place_of folder) (profile_files profiles.names)
  pub rootless_are : n.rootless
      ≡ rootless_of profiles.known (place_of folder) (profile_files profiles.names)

-- What is at a path: the profile of a file, beside which no file is left out, or those of a folder.
pub record IsNoted (reads : Reads) (lists : Lists) (path : List ℕ) (n : Noted) : Type 0 where
  pub by_file : is_profile_file path ≡ true
      → IsNamed reads lists path n.files × (n.left_out ≡ [] ∷ []) × (n.rootless ≡ [])
  pub by_folder : is_profile_file path ≡ false → IsNotedFolder reads lists path n

-- What operands name, in their order.
abbrev pub AreNoted : Reads → Lists → List (List ℕ) → Noted → Type 0
AreNoted reads lists [] n = n ≡ nothing
AreNoted reads lists (o ∷ os) n =
    (own : Noted) × (rest : Noted) × (n ≡ joined own rest)
    × IsNoted reads lists (source_of o) own × AreNoted reads lists os rest

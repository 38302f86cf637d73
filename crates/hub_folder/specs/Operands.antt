-- The profiles that operands name. An operand `NAME=OPERAND` has those of a machine.
use Rattle.std.specs.Prelude.{◌≡◌, ◌⊎◌, ℕ, Bool, true, false, nat_eq, List, [], ◌∷◌, ◌++◌, length, map, sum_by, Option, codes}
use Rattle.std.specs.List.{ends_with}
use Rattle.hub_folder.specs.Folders.{AreProfiles, IsUntakenFolder}
use Rattle.hub_folder.specs.Machines.{machine_of, source_of}
use Rattle.hub_folder.specs.Reading.{Lists, Reads}
use Rattle.hub_folder.specs.Taken.{IsProfile, IsUntakenFile}
use Rattle.hub_folder.specs.declared.fault.Untaken.{Untaken}
use Rattle.hub_folder.specs.declared.fault.Untaken.TheVariants.{OutOfMemory}

-- A profile's path and its text.
abbrev pub File : Type 0
File = List ℕ × List ℕ

-- A path is that of the file of a profile.
abbrev pub is_profile_file : List ℕ → Bool
is_profile_file path = ends_with nat_eq path (codes ".prf")

-- The profiles at a path: that of a file, or those of a folder.
pub record IsNamed (reads : Reads) (lists : Lists) (path : List ℕ) (files : List File) : Type 0 where
  pub by_file : is_profile_file path ≡ true
      → (text : List ℕ) × (files ≡ (path, text) ∷ []) × IsProfile reads path text
  pub by_folder : is_profile_file path ≡ false → AreProfiles reads lists path files

-- A profile, and the machine that has it, if its operand names one.
pub record Owned : Type 0 where
  pub machine : Option (List ℕ)
  pub file : File

abbrev pub owned : Option (List ℕ) → File → Owned
owned machine file = record { machine = machine; file = file }

-- Those that operands name, in their order: those at the path of each, of the machine that it names
-- and of no other one.
abbrev pub AreNamed : Reads → Lists → List (List ℕ) → List Owned → Type 0
AreNamed reads lists [] profiles = profiles ≡ []
AreNamed reads lists (o ∷ os) profiles =
    (own : List File) × (rest : List Owned) × (profiles ≡ map (owned (machine_of o)) own ++ rest)
    × IsNamed reads lists (source_of o) own × AreNamed reads lists os rest

abbrev pub files_of : List Owned → List File
files_of profiles = map (λ p. p.file) profiles

-- The bytes of the texts of these profiles.
abbrev pub bytes_in : List File → ℕ
bytes_in files = sum_by (λ file. length file.1) files

-- Why those at a path can't be taken after so many bytes of texts.
pub record IsFault (reads : Reads) (lists : Lists) (taken : ℕ) (path : List ℕ) (e : Untaken) : Type 0 where
  pub of_file : is_profile_file path ≡ true → IsUntakenFile reads taken path e
  pub of_folder : is_profile_file path ≡ false → IsUntakenFolder reads lists taken path e

-- Why those of some operands can't be taken: why those of one can't, after those that the operands
-- before it name.
abbrev pub IsUnnamed : Reads → Lists → List (List ℕ) → Untaken → Type 0
IsUnnamed reads lists operands e =
    (e ≡ OutOfMemory)
    ⊎ ((before : List (List ℕ)) × (operand : List ℕ) × (after : List (List ℕ))
    × (operands ≡ before ++ operand ∷ after)
    × ((profiles : List Owned) × AreNamed reads lists before profiles
    × IsFault reads lists (bytes_in (files_of profiles)) (source_of operand) e))

-- Blobs that are collected file by file. `Writing` says the same of all files at once.
use Rattle.std.specs.Prelude.{◌≡◌, ℕ, Bool, List, [], ◌∷◌, Option, Some, None, bytes_eq, if◌then◌else◌}
use Rattle.std.specs.FinMap as fin
use Rattle.sha2.specs.Sha256.{sha256}
use Rattle.hub_state.specs.Taking.{BlobMap}

-- Blobs with one more, of which this one has its digest. There are none if that is another one.
abbrev pub added_to : Option (List ℕ) → BlobMap → List ℕ → Option BlobMap
added_to None m bytes = Some (fin.insert m (sha256 bytes) bytes)
added_to (Some known) m bytes = if bytes_eq known bytes then Some m else None

abbrev pub file_added : BlobMap → List ℕ → Option BlobMap
file_added m bytes = added_to (fin.get m (sha256 bytes)) m bytes

-- Blobs with those of some files.
abbrev pub files_added : Option BlobMap → List (List ℕ) → Option BlobMap
files_added o [] = o
files_added None (f ∷ fs) = None
files_added (Some m) (f ∷ fs) = files_added (file_added m f) fs

-- Blobs before and after some files are added. False says that two of one digest differ.
abbrev pub AreAdded : Bool → BlobMap → BlobMap → List (List ℕ) → Type 0
AreAdded added old new fs = (if added then Some new else None) ≡ files_added (Some old) fs

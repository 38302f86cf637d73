-- What is known of the files of a folder.
use Rattle.std.specs.Prelude.{◌≡◌, bytes_eq, false, ℕ, List, Option, Some, None}
use Rattle.std.specs.BTreeMap.{get_by_text}
use denote.Ref.{Bor}
use Rattle.hub_include.specs.declared.folder.File.{File}
use Rattle.hub_include.specs.declared.folder.Folder.{Folder}
use Rattle.hub_include.specs.declared.folder.Found.{Found}
use Rattle.hub_include.specs.declared.folder.Found.TheVariants as found

-- A file: its name below the folder, and its bytes.
abbrev pub Held : Type 0
Held = File (List ℕ) (List ℕ)

-- What is known of a name: nothing, or that there is no such file, or the bytes that it has.
abbrev pub Known : Type 0
Known = List ℕ → Option (Option (List ℕ))

abbrev pub found_as : List ℕ → Option (Option (List ℕ)) → Found Held
found_as name None = found.Unread
found_as name (Some None) = found.Absent
found_as name (Some (Some bytes)) = found.There (record { name = name; bytes = bytes })

-- What is found by a name.
abbrev pub find : Known → List ℕ → Found Held
find known name = found_as name (known name)

-- What a folder knows.
abbrev pub known_of : Folder → Known
known_of folder name = get_by_text folder.files name

-- Of each other name a folder knows what it knew.
abbrev pub ChangesOnlyAt : Folder → Folder → List ℕ → Type 0
ChangesOnlyAt old new name =
    (other : List ℕ) → bytes_eq other name ≡ false → known_of new other ≡ known_of old other

-- A borrowed file, and one that is found.
abbrev pub of_file : File (Bor (List ℕ)) (Bor (List ℕ)) → Held
of_file f = record { name = f.name.now; bytes = f.bytes.now }

abbrev pub of_found : Found (File (Bor (List ℕ)) (Bor (List ℕ))) → Found Held
of_found (found.There f) = found.There (of_file f)
of_found found.Absent = found.Absent
of_found found.Unread = found.Unread

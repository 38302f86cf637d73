-- What a line takes in.
use Rattle.std.specs.Prelude.{ℕ, List, ◌++◌, Option, Some, None, codes, if◌then◌else◌}
use Rattle.hub_text.specs.Lines.{without_last_cr}
use denote.Ref.{Bor}
use Rattle.hub_include.specs.declared.fault.Why.TheVariants.{BadLine, NoFile}
use Rattle.hub_include.specs.declared.folder.File.{File}
use Rattle.hub_include.specs.declared.folder.Found.{Found}
use Rattle.hub_include.specs.declared.folder.Found.TheVariants as found
use Rattle.hub_include.specs.declared.target.Target.{Target}
use Rattle.hub_include.specs.declared.target.Target.TheVariants as target
use Rattle.hub_include.specs.declared.word.Asked.{Asked}
use Rattle.hub_include.specs.Files.{Held, Known, find, known_of, of_file}
use Rattle.hub_include.specs.Asking.{of_bytes}
use Rattle.hub_include.specs.declared.folder.Folder.{Folder}
use Rattle.hub_include.specs.Words.{asked_by, name_in}

-- A file that is found is taken, and of one that nobody looked for the name is told. `absent` is
-- for a name without a file.
abbrev pub taken : Target Held → List ℕ → Found Held → Target Held
taken absent name (found.There f) = target.Taken f
taken absent name found.Absent = absent
taken absent name found.Unread = target.Unread name

-- Nothing is taken, if the file may be missing.
abbrev pub absent : Asked (List ℕ) → Target Held
absent a = if a.may_be_missing then target.Nothing else target.Wrong NoFile

-- The name with `.prf`.
abbrev pub with_ending : List ℕ → List ℕ
with_ending name = name ++ codes ".prf"

-- What is taken by that name.
abbrev pub taken_longer : Known → Asked (List ℕ) → List ℕ → Target Held
taken_longer known a name = taken (absent a) (with_ending name) (find known (with_ending name))

-- What is taken if there is no file of the name itself.
abbrev pub taken_with_ending : Known → Asked (List ℕ) → List ℕ → Target Held
taken_with_ending known a name =
    if a.has_ending then taken_longer known a name else absent a

abbrev pub taken_by_name : Known → Asked (List ℕ) → Option (List ℕ) → Target Held
taken_by_name known a None = target.Wrong BadLine
taken_by_name known a (Some name) = taken (taken_with_ending known a name) name (find known name)

abbrev pub taken_if_asked : Known → Option (Asked (List ℕ)) → Target Held
taken_if_asked known None = target.Nothing
taken_if_asked known (Some a) = taken_by_name known a (name_in a.names)

-- What a line takes in. All names are below the one folder, also in a file of a sub-folder.
abbrev pub target_of : Known → List ℕ → Target Held
target_of known line = taken_if_asked known (asked_by (without_last_cr line))

-- The same of a folder, and of a borrowed line that asks for it.
abbrev pub taken_for : Folder → Asked (Bor (List ℕ)) → List ℕ → Target Held
taken_for folder a name = taken_by_name (known_of folder) (of_bytes a) (Some name)

abbrev pub taken_longer_for : Folder → Asked (Bor (List ℕ)) → List ℕ → Target Held
taken_longer_for folder a name = taken_longer (known_of folder) (of_bytes a) name

-- A borrowed target.
abbrev pub of_target : Target (File (Bor (List ℕ)) (Bor (List ℕ))) → Target Held
of_target target.Nothing = target.Nothing
of_target (target.Taken f) = target.Taken (of_file f)
of_target (target.Wrong why) = target.Wrong why
of_target (target.Unread name) = target.Unread name

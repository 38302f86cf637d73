-- What is answered over files.
use Rattle.std.specs.Prelude.{◌≡◌, ◌⊎◌, ◌++◌, ℕ, Bool, false, not, true, ◌&&◌, ◌||◌, List, [], ◌∷◌, Option, Some, None, Ok, Err, IfSome, is_some, codes, map, string_bytes}
use Rattle.std.specs.Fmt.{decimal}
use Rattle.std.specs.List.{All, Contains, find, list_all, list_any, slice_get}
use Rattle.hub_archives.specs.Found.{AreKeptOut, IsHeld}
use Rattle.hub_archives.specs.declared.found.HeldArchives.{HeldArchives}
use Rattle.hub_path.specs.Path.{Path, root_bytes}
use Rattle.hub_cli.specs.Words.{Names, Request, mended}
use Rattle.hub_bundle.specs.Files.{bundle_of, first_faulty, part_fault, part_machine}
use Rattle.hub_bundle.specs.declared.part.Kind.{Kind}
use Rattle.hub_bundle.specs.declared.part.Kind.TheVariants.{Profile, Rules, State, Certificates}
use Rattle.hub_bundle.specs.declared.part.Part.{Part}
use Rattle.hub_bundle.specs.declared.part.PartFault.{PartFault}
use Rattle.hub_bundle.specs.declared.part.PartFault.TheVariants.{BadName, HasHeading}
use Rattle.hub_respelled.specs.Caseless.{caseless_bundle, says_folding}
use Rattle.hub_respelled.specs.Respelled.{IsRespelled, IsUnrespelled}
use Rattle.hub_respelled.specs.declared.fault.RespellFault.{RespellFault}
use Rattle.hub_respelled.specs.declared.fault.RespellFault.TheVariants as respell
use Rattle.hub_respelled.specs.declared.folded.Spelling.{Spelling}
use Rattle.hub_respelled.specs.declared.folded.Spelling.TheVariants as spelling
use Rattle.hub_serve.specs.Reads.{Reads as InputReads}
use Rattle.hub_serve.specs.Serves.{AnswersNothing, ServesInFull, WritesText}
use Rattle.hub_folder.specs.Machines.{machine_of, second_machine}
use Rattle.hub_folder.specs.Operands.{AreNamed, File, IsUnnamed, Owned, owned}
use Rattle.hub_folder.specs.Reading.{Folders, HasBytes, HasFault, HasFolder, Lists, Reads, fault_word}
use Rattle.hub_folder.specs.declared.fault.Untaken.{Untaken}
use Rattle.hub_folder.specs.declared.fault.Untaken.TheVariants as untaken
use Rattle.hub_folder.specs.declared.reader.ReadFault.{ReadFault}
use Rattle.hub_hosts.specs.Folding.{profile_for}
use Rattle.hub_hosts.specs.Profiles.{text_for}
use Rattle.hub_hosts.specs.Remotes.{has_machine, has_own_row, is_here, is_of}
use Rattle.hub_hosts.specs.Table.{Row, rows_of}
use Rattle.hub_hosts.specs.declared.fault.HostsFault.{HostsFault}
use Rattle.hub_hosts.specs.declared.fault.HostsFault.TheVariants as hosts_fault
use Rattle.hub_include.specs.declared.fault.Why.{Why}
use Rattle.hub_include.specs.declared.fault.Why.TheVariants as why

-- The line that says what is wrong with a file.
abbrev pub file_fault_line : List ℕ → List ℕ → List ℕ
file_fault_line file reason = codes "fault: " ++ file ++ codes ": " ++ reason ++ 10 ∷ []

abbrev pub memory_line : List ℕ
memory_line = codes "fault: out of memory\n"

-- The fault of this file was written, or that memory is out.
abbrev pub WritesFault : List ℕ → List ℕ → Option (List ℕ) → Option (List ℕ) → Bool → ℕ → Type 0
WritesFault file reason old new failed status =
    WritesText old new (file_fault_line file reason) 2 failed status
    ⊎ WritesText old new memory_line 2 failed status

-- What is wrong with this file was written, or that memory is out.
abbrev pub WritesUnread : Reads → List ℕ → Option (List ℕ) → Option (List ℕ) → Bool → ℕ → Type 0
WritesUnread reads file old new failed status =
    (fault : ReadFault) × HasFault reads file fault
    × WritesFault file (fault_word fault) old new failed status

-- Why a line that includes a file can't be followed, as a word of the answer.
abbrev pub why_word : Why → List ℕ
why_word why.BadLine = codes "BadInclude"
why_word why.NoFile = codes "NoFile"
why_word why.Cycle = codes "Cycle"
why_word why.TooDeep = codes "TooDeep"
why_word why.TooLong = codes "TooLong"

-- The file or folder for which a profile can't be told, and why, as the answer names them.
abbrev pub untaken_path : Untaken → List ℕ
untaken_path (untaken.File path fault) = string_bytes path
untaken_path (untaken.Gone path) = string_bytes path
untaken_path (untaken.Folder path fault) = string_bytes path
untaken_path (untaken.Line place fault) = string_bytes place ++ fault.file
untaken_path (untaken.TooManyFiles path) = string_bytes path
untaken_path (untaken.TooLong path) = string_bytes path
untaken_path untaken.OutOfMemory = []

abbrev pub untaken_word : Untaken → List ℕ
untaken_word (untaken.File path fault) = fault_word fault
untaken_word (untaken.Gone path) = codes "ReadFailed"
untaken_word (untaken.Folder path fault) = fault_word fault
untaken_word (untaken.Line place fault) = why_word fault.why
untaken_word (untaken.TooManyFiles path) = codes "TooManyFiles"
untaken_word (untaken.TooLong path) = codes "TooLong"
untaken_word untaken.OutOfMemory = []

-- Why a profile can't be told was written, or that memory is out.
abbrev pub WritesUntaken : Untaken → Option (List ℕ) → Option (List ℕ) → Bool → ℕ → Type 0
WritesUntaken e old new failed status =
    WritesFault (untaken_path e) (untaken_word e) old new failed status

-- What is wrong with a table of hosts, as a word of the answer.
abbrev pub hosts_word : HostsFault → List ℕ
hosts_word (hosts_fault.BadLine n) = codes "BadHost"
hosts_word (hosts_fault.SecondLine n) = codes "SecondHost"
hosts_word hosts_fault.OutOfMemory = []

-- What is wrong with the file of a table of hosts was written, or that memory is out.
abbrev pub WritesBadHosts : Reads → List ℕ → Option (List ℕ) → Option (List ℕ) → Bool → ℕ → Type 0
WritesBadHosts reads file old new failed status =
    (bytes : List ℕ) × (fault : HostsFault) × HasBytes reads file bytes
    × (rows_of bytes ≡ Err fault) × WritesFault file (hosts_word fault) old new failed status

-- The answer is given over a bundle, from its first read to its last.
pub record ServesBundle (asked : Option Request) (bundle : List ℕ) (old new : Option (List ℕ))
    (failed : Bool) (status : ℕ) : Type 0 where
  pub reads : InputReads
  pub begins : reads.before ≡ 0
  pub unmet : reads.was_at_end ≡ false
  pub serves : ServesInFull asked (Some bundle) old new reads failed status

-- The answer is given over an input, or it was written that memory is out.
abbrev pub ServesInput : Option Request → Option (List ℕ) → Option (List ℕ) → Option (List ℕ)
    → InputReads → Bool → ℕ → Type 0
ServesInput asked remaining old new reads failed status =
    ServesInFull asked remaining old new reads failed status
    ⊎ WritesText old new memory_line 2 failed status

-- The file of that number.
abbrev pub file_of : Option Part → List ℕ
file_of None = []
file_of (Some p) = p.file.now

abbrev pub file_at : List Part → ℕ → List ℕ
file_at parts n = file_of (slice_get parts n)

-- Why a file can't be a section, as a word of the answer.
abbrev pub reason_of : Option PartFault → List ℕ
reason_of None = []
reason_of (Some BadName) = codes "BadName"
reason_of (Some (HasHeading line)) = codes "HasHeading"

abbrev pub reason_for : Part → List ℕ
reason_for p = reason_of (part_fault p)

abbrev pub reason_in : Option Part → List ℕ
reason_in None = []
reason_in (Some p) = reason_for p

-- Why the file of that number can't be a section.
abbrev pub reason_at : List Part → ℕ → List ℕ
reason_at parts n = reason_in (slice_get parts n)

-- A profile of the bundle that the files make doesn't keep out Unison's archives in one of these
-- folders. That was written, or that memory is out.
abbrev pub WritesHeld : List Path → List Part → Option (List ℕ) → Option (List ℕ) → Bool → ℕ
    → Type 0
WritesHeld folders parts old new failed status =
    (held : HeldArchives) × IsHeld folders (caseless_bundle (bundle_of parts)) held
    × WritesFault (file_at parts held.section) (codes "ArchivesInRoot") old new failed status

-- What is wrong where names fold: with these two roots, with the rule of this number, from 0 on, or
-- with what is folded.
abbrev pub respell_place : RespellFault → List ℕ
respell_place (respell.SpelledTwice r s) = codes "roots"
respell_place _ = codes "rules"

abbrev pub respell_word : RespellFault → List ℕ
respell_word (respell.UnknownRule i) = codes "UnknownRule " ++ decimal i
respell_word (respell.SpelledTwice r s) =
    codes "SpelledTwice " ++ root_bytes r ++ codes " " ++ root_bytes s
respell_word respell.Unwritten = codes "NotReadBack"
respell_word respell.OutOfMemory = []

abbrev pub WritesUnrespelled : List ℕ → Option (List ℕ) → Option (List ℕ) → Bool → ℕ → Type 0
WritesUnrespelled bundle old new failed status =
    (fault : RespellFault) × IsUnrespelled bundle fault × (says_folding bundle ≡ true)
    × WritesFault (respell_place fault) (respell_word fault) old new failed status

-- Lines are asked for that make a set safe. A line that does so for folded profiles may not do so for
-- the profiles: none are given.
abbrev pub is_mending : Option Request → Bool
is_mending (Some (mended reading as_bundle)) = true
is_mending _ = false

abbrev pub WritesNoLines : Option (List ℕ) → Option (List ℕ) → Bool → ℕ → Type 0
WritesNoLines old new failed status =
    WritesFault (codes "profiles") (codes "NamesFold") old new failed status

-- The answer is given over the text of folded profiles and rules, unless lines are asked for. Or it was
-- written that memory is out.
abbrev pub ServesText : Option Request → List ℕ → Option (List ℕ) → Option (List ℕ) → Bool → ℕ
    → Type 0
ServesText asked text old new failed status =
    ((is_mending asked ≡ false) × ServesBundle asked text old new failed status)
    ⊎ (((is_mending asked ≡ true) × WritesNoLines old new failed status)
    ⊎ WritesText old new memory_line 2 failed status)

-- The answer is given over what stands in the place of a bundle. Or it was written that a profile by
-- which names fold doesn't keep out Unison's archives.
abbrev pub ServesAs : Option Request → List Part → List ℕ → Spelling → Option (List ℕ)
    → Option (List ℕ) → Bool → ℕ → Type 0
ServesAs asked parts bundle spelling.Same old new failed status =
    ServesBundle asked bundle old new failed status
ServesAs asked parts bundle (spelling.Folded text) old new failed status =
    ServesText asked text.items old new failed status
ServesAs asked parts bundle (spelling.Held held) old new failed status =
    WritesFault (file_at parts held.section) (codes "ArchivesInRoot") old new failed status
ServesAs asked parts bundle spelling.Unread old new failed status =
    ServesBundle asked bundle old new failed status

-- It is so of a bundle whose profiles are read for Unison. Or it was written why nothing stands in its
-- place, or that memory is out.
abbrev pub ServesFolded : Option Request → List Path → List Part → List ℕ → Option (List ℕ)
    → Option (List ℕ) → Bool → ℕ → Type 0
ServesFolded asked folders parts bundle old new failed status =
    ((r : Spelling) × IsRespelled folders bundle r
    × ServesAs asked parts bundle r old new failed status)
    ⊎ (WritesUnrespelled bundle old new failed status
    ⊎ WritesText old new memory_line 2 failed status)

abbrev pub ServesSpelled : Option Request → Bool → List Path → List Part → List ℕ
    → Option (List ℕ) → Option (List ℕ) → Bool → ℕ → Type 0
ServesSpelled asked false folders parts bundle old new failed status =
    ServesBundle asked bundle old new failed status
ServesSpelled asked true folders parts bundle old new failed status =
    ServesFolded asked folders parts bundle old new failed status

-- If each file can be a section, the answer is given over the bundle that they make, whose profiles
-- keep out Unison's archives in these folders; or one doesn't. Else the fault of the first that can't
-- be a section was written. In each case it may be that memory is out instead.
pub record ServesParts (asked : Option Request) (is_for_unison : Bool) (folders : List Path)
    (parts : List Part) (old new : Option (List ℕ)) (failed : Bool) (status : ℕ) : Type 0 where
  pub bundled : first_faulty parts ≡ None
      → (AreKeptOut folders (caseless_bundle (bundle_of parts))
      × ServesSpelled asked is_for_unison folders parts (bundle_of parts) old new failed status)
      ⊎ (WritesHeld folders parts old new failed status
      ⊎ WritesText old new memory_line 2 failed status)
  pub refused : (n : ℕ) → first_faulty parts ≡ Some n
      → WritesFault (file_at parts n) (reason_at parts n) old new failed status

-- The section that a file is for, its path, and the machine whose profile it is, if one is named.
abbrev pub Label : Type 0
Label = Kind × List ℕ × Option (List ℕ)

abbrev pub label_of : Part → Label
label_of p = (p.kind, p.file.now, part_machine p)

abbrev pub label_alone : Kind → List ℕ → Label
label_alone kind file = (kind, file, None)

abbrev pub label_if : Kind → Option (List ℕ) → List Label
label_if kind None = []
label_if kind (Some file) = label_alone kind file ∷ []

-- The files that the words name, in the order of their sections: the profiles, the rules, the
-- state, the certificates.
abbrev pub option_labels : Names → List Label
option_labels names =
    label_if Rules names.rules
    ++ (label_if State names.state ++ label_if Certificates names.certificates)

abbrev pub profile_labels : List (List ℕ) → List Label
profile_labels files = map (label_alone Profile) files

abbrev pub labels : Names → List Label
labels names = profile_labels names.profiles ++ option_labels names

-- What reads of files give, what folders list, and which folder a file is in, where it is known.
pub record Disk : Type 0 where
  pub reads : Reads
  pub lists : Lists
  pub folders : Folders

-- What is known of a reader's files.
abbrev pub disk_of : {F : Type 0} → (F → Reads) → (F → Lists) → (F → Folders) → F → Disk
disk_of reads lists folders reader =
    record { reads = reads reader; lists = lists reader; folders = folders reader }

-- The files that words name, and whether the profiles are read for Unison.
pub record Sources : Type 0 where
  pub names : Names
  pub is_for_unison : Bool

-- The path of a section's file, and its bytes.
abbrev pub bytes_of : Part → List ℕ × List ℕ
bytes_of p = (p.file.now, p.bytes.now)

-- These are the bytes of the file of this path, if they are known.
abbrev pub HasContents : Reads → List ℕ × List ℕ → Type 0
HasContents reads file = HasBytes reads file.0 file.1

-- The sections are those of the files that are named, with their bytes.
pub record AreRead (reads : Reads) (names : Names) (ls : List Label) (files : List File) : Type 0 where
  pub labels_are : ls ≡ labels names
  pub bytes_are : All (HasContents reads) files

-- The table of hosts that a file has, if one is named.
abbrev pub IsTable : Reads → Option (List ℕ) → Option (List Row) → Type 0
IsTable reads None table = table ≡ None
IsTable reads (Some file) table =
    (bytes : List ℕ) × (rows : List Row) × HasBytes reads file bytes
    × (rows_of bytes ≡ Ok rows) × (table ≡ Some rows)

-- The host of a row is this machine's, if there is one.
abbrev pub is_host_of : Row → Option (List ℕ) → Bool
is_host_of row None = false
is_host_of row (Some machine) = is_of machine row

-- An operand names the machine that is the host of a row.
abbrev pub names_host : List ℕ → Row → Bool
names_host operand row = is_host_of row (machine_of operand)

abbrev pub is_named : List (List ℕ) → Row → Bool
is_named operands row = list_any (λ o. names_host o row) operands

-- A table of hosts tells which one this machine is: a row has the path `/`, and each other host of the
-- table is one of the machines that these operands name.
abbrev pub is_known : List Row → List (List ℕ) → Row → Bool
is_known rows operands row = is_here rows row || is_named operands row

abbrev pub tells_own : List Row → List (List ℕ) → Bool
tells_own rows operands = has_own_row rows && list_all (is_known rows operands) rows

-- The machine of an operand that names one has no row in a table of hosts, or there is no table. An
-- operand that names none is of this machine. Beside one that does, the table must tell which host
-- this machine is, or its folders may have two names.
abbrev pub lacks_row : Bool → Option (List Row) → List (List ℕ) → Option (List ℕ) → Bool
lacks_row others None operands None = others
lacks_row others (Some rows) operands None = others && not (tells_own rows operands)
lacks_row others None operands (Some machine) = true
lacks_row others (Some rows) operands (Some machine) = not (has_machine rows machine)

-- The first operand of a machine without a row.
abbrev pub name_machines : List (List ℕ) → Bool
name_machines operands = list_any (λ o. is_some (machine_of o)) operands

abbrev pub unknown_host : Option (List Row) → List (List ℕ) → Option (List ℕ)
unknown_host table operands =
    find (λ o. lacks_row (name_machines operands) table operands (machine_of o)) operands

-- The label of a profile that an operand names.
abbrev pub profile_label : Owned → Label
profile_label p = (Profile, p.file.0, p.machine)

-- A profile with paths in place of the roots of these hosts. The roots here of a profile of a machine
-- are on that one.
abbrev pub host_text : Option (List Row) → Option (List ℕ) → List ℕ → List ℕ
host_text None machine text = text
host_text (Some rows) machine text = text_for rows machine text

-- The same of a profile. If names fold at a root of it, a line of it says so.
abbrev pub profile_text : Option (List Row) → Option (List ℕ) → List ℕ → List ℕ
profile_text None machine text = text
profile_text (Some rows) machine text = profile_for rows machine text

abbrev pub for_hosts : Option (List Row) → Owned → File
for_hosts table p = (p.file.0, profile_text table p.machine p.file.1)

-- The same of the section of an option: in a state and in certificates no root is replaced.
abbrev pub for_section : Option (List Row) → Kind → File → File
for_section table Profile file = for_hosts table (owned None file)
for_section table Rules file = (file.0, host_text table None file.1)
for_section table State file = file
for_section table Certificates file = file

-- The sections are those of the profiles that the operands name for Unison, with the lines that they
-- include and with paths in place of the roots of hosts, and of the other files that are named, with
-- their bytes, but for the roots of hosts in rules. The profiles of a machine have its name before
-- theirs, and their roots here are on its host. No machine is named twice, and the table has a row for
-- each.
pub record AreTaken (disk : Disk) (names : Names) (ls : List Label) (files : List File) : Type 0 where
  pub profiles : List Owned
  pub named : AreNamed disk.reads disk.lists names.profiles profiles
  pub apart : second_machine names.profiles ≡ None
  pub table : Option (List Row)
  pub is_table : IsTable disk.reads names.hosts table
  pub known : unknown_host table names.profiles ≡ None
  pub others : List (Kind × File)
  pub others_are : map (λ o. label_alone o.0 o.1.0) others ≡ option_labels names
  pub bytes_are : All (λ o. HasContents disk.reads o.1) others
  pub labels_are : ls ≡ map profile_label profiles ++ option_labels names
  pub files_are : files
      ≡ map (for_hosts table) profiles ++ map (λ o. for_section table o.0 o.1) others

pub record AreSections (disk : Disk) (sources : Sources) (ls : List Label) (files : List File) : Type 0 where
  pub plain : sources.is_for_unison ≡ false → AreRead disk.reads sources.names ls files
  pub unison : sources.is_for_unison ≡ true → AreTaken disk sources.names ls files

-- The folder of a profile's file is among these, if it can be told.
abbrev pub HasFolderAmong : Disk → List Path → Label → Type 0
HasFolderAmong disk folders label =
    label.0 ≡ Profile → (told : Option Path) × HasFolder disk.folders label.1 told
    × IfSome told (Contains folders)

-- For Unison these are the folders of its profiles' files. For the plain reading there are none.
pub record AreFolders (disk : Disk) (sources : Sources) (ls : List Label) (folders : List Path) :
    Type 0 where
  pub plain : sources.is_for_unison ≡ false → folders ≡ []
  pub unison : sources.is_for_unison ≡ true → All (HasFolderAmong disk folders) ls

-- An operand was written whose machine another one has, too, or which the table of hosts lacks, or
-- that memory is out.
abbrev pub WritesMachineFault : Disk → Names → Option (List ℕ) → Option (List ℕ) → Bool → ℕ
    → Type 0
WritesMachineFault disk names old new failed status =
    ((operand : List ℕ) × (second_machine names.profiles ≡ Some operand)
    × WritesFault operand (codes "SecondMachine") old new failed status)
    ⊎ ((operand : List ℕ) × (table : Option (List Row)) × IsTable disk.reads names.hosts table
    × (unknown_host table names.profiles ≡ Some operand)
    × WritesFault operand (codes "UnknownHost") old new failed status)

-- What is wrong with one of the files was written, or that memory is out.
abbrev pub WritesFileFault : Disk → Names → Option (List ℕ) → Option (List ℕ) → Bool → ℕ → Type 0
WritesFileFault disk names old new failed status =
    ((label : Label) × Contains (labels names) label
    × WritesUnread disk.reads label.1 old new failed status)
    ⊎ (((e : Untaken) × IsUnnamed disk.reads disk.lists names.profiles e
    × WritesUntaken e old new failed status)
    ⊎ (((file : List ℕ) × (names.hosts ≡ Some file)
    × (WritesUnread disk.reads file old new failed status
    ⊎ WritesBadHosts disk.reads file old new failed status))
    ⊎ WritesMachineFault disk names old new failed status))

-- The answer is given over these sections and over no other ones, and with `--unison` none of their
-- profiles reaches the folder of one, where Unison has its archives. Or it was written what is wrong
-- with one of the files, or that memory is out.
abbrev pub ServesFiles : Disk → Option Request → Sources → Option (List ℕ) → Option (List ℕ)
    → Bool → ℕ → Type 0
ServesFiles disk asked sources old new failed status =
    ((parts : List Part) × (folders : List Path)
    × AreSections disk sources (map label_of parts) (map bytes_of parts)
    × AreFolders disk sources (map label_of parts) folders
    × ServesParts asked sources.is_for_unison folders parts old new failed status)
    ⊎ (WritesFileFault disk sources.names old new failed status
    ⊎ WritesText old new memory_line 2 failed status)

-- This is so if the words ask for something. Else nothing is answered.
pub record ServesNamed (disk : Disk) (asked : Option Request) (sources : Sources)
    (old new : Option (List ℕ)) (failed : Bool) (status : ℕ) : Type 0 where
  pub served : is_some asked ≡ true → ServesFiles disk asked sources old new failed status
  pub nothing : asked ≡ None → AnswersNothing old new status

-- The files that are read.
use Rattle.std.specs.Prelude.{◌≡◌, ◌++◌, map, List, ℕ, Bool, false, true, Err, Option, Some, IfSome, option_map, string_bytes}
use Rattle.std.specs.List.{Contains}
use Rattle.hub_path.specs.Path.{Path}
use Rattle.hub_cli.specs.Words.{Names, names_of}
use Rattle.hub_cli.specs.declared.files.Options.{Options}
use Rattle.hub_bundle.specs.declared.part.Kind.{Kind}
use Rattle.hub_bundle.specs.declared.part.Kind.TheVariants.{Profile}
use Rattle.hub_folder.specs.Machines.{machine_in, second_machine}
use Rattle.hub_folder.specs.Operands.{IsUnnamed}
use Rattle.hub_folder.specs.Told.{owned_of}
use Rattle.hub_folder.specs.declared.operands.NamedProfile.{NamedProfile}
use Rattle.hub_folder.specs.Reading.{Folders, HasBytes, HasFault, HasFolder, Lists, Reads}
use Rattle.hub_hosts.specs.Table.{Row, rows_of}
use denote.Ref.{Bor}
use Rattle.hubsync.specs.declared.files.Held.{Held}
use Rattle.hubsync.specs.declared.files.Named.{Named}
use Rattle.hubsync.specs.declared.files.Unserved.{Unserved}
use Rattle.hubsync.specs.declared.files.Unserved.TheVariants.{BadHosts, File, Hosts, OutOfMemory, SecondMachine, UnknownHost, Untaken}
use Rattle.hubsync.specs.Bundled.{AreFolders, AreRead, AreSections, AreTaken, Disk, IsTable, Label, Sources, disk_of, for_hosts, for_section, label_alone, labels, profile_label, unknown_host}

abbrev pub label_named : Named → Label
label_named n = label_alone n.kind n.file.now

abbrev pub label_held : Held → Label
label_held h = (h.kind, string_bytes h.file, machine_in h.machine)

-- The path of a file that was read, and its bytes.
abbrev pub bytes_held : Held → List ℕ × List ℕ
bytes_held h = (string_bytes h.file, h.bytes.items)

-- The same with paths in place of the roots of hosts.
abbrev pub bytes_for : Option (List Row) → Held → List ℕ × List ℕ
bytes_for table h = for_section table h.kind (bytes_held h)

-- What is held has the sections of files, as `AreRead`, `AreTaken` and `AreSections` say.
abbrev pub HoldRead : Reads → Names → List Held → Type 0
HoldRead reads names held = AreRead reads names (map label_held held) (map bytes_held held)

abbrev pub HoldTaken : {F : Type 0} → (F → Reads) → (F → Lists) → (F → Folders) → F → Names
    → List Held → Type 0
HoldTaken reads lists folders reader names held =
    AreTaken (disk_of reads lists folders reader) names (map label_held held) (map bytes_held held)

abbrev pub HoldSections : {F : Type 0} → (F → Reads) → (F → Lists) → (F → Folders) → F → Sources
    → List Held → Type 0
HoldSections reads lists folders reader sources held =
    AreSections (disk_of reads lists folders reader) sources (map label_held held) (map bytes_held held)

abbrev pub HoldFolders : Disk → Sources → List Held → List Path → Type 0
HoldFolders disk sources held folders = AreFolders disk sources (map label_held held) folders

-- The claim holds of sources whose profiles are read so.
abbrev pub OfReading : Bool → (Sources → Type 0) → Type 0
OfReading is_for_unison C = (sources : Sources) → sources.is_for_unison ≡ is_for_unison → C sources

abbrev pub is_of_profile : Kind → Bool
is_of_profile Profile = true
is_of_profile _ = false

-- The folder of this file is among those, if it is that of a profile and can be told.
abbrev pub AddsFolder : Folders → Held → List Path → Type 0
AddsFolder folders h all =
    h.kind ≡ Profile → (told : Option Path) × HasFolder folders (string_bytes h.file) told
    × IfSome told (Contains all)

-- The first ones are among the others.
abbrev pub AreAmong : List Path → List Path → Type 0
AreAmong ps qs = (p : Path) → Contains ps p → Contains qs p

-- What is held has the labels of these profiles and then of the others, and their texts with paths
-- in place of the roots of hosts.
abbrev pub HaveLabels : List NamedProfile → List Held → List Held → Type 0
HaveLabels profiles others held =
    map label_held held
    ≡ map profile_label (map owned_of profiles) ++ map label_held others

abbrev pub HaveTexts : Option (List Row) → List NamedProfile → List Held → List Held → Type 0
HaveTexts table profiles others held =
    map bytes_held held
    ≡ map (for_hosts table) (map owned_of profiles) ++ map (bytes_for table) others

-- These labels are added to those of the files that are named.
abbrev pub AddsLabels : List Named → List Named → List Label → Type 0
AddsLabels old new ls = map label_named new ≡ map label_named old ++ ls

-- A borrowed text, if there is one.
abbrev pub text_in : Option (Bor (List ℕ)) → Option (List ℕ)
text_in text = option_map (λ f. f.now) text

-- The claim holds of names that have this file of a table of hosts.
abbrev pub OfHosts : Option (Bor (List ℕ)) → (Names → Type 0) → Type 0
OfHosts file C = (names : Names) → names.hosts ≡ text_in file → C names

-- A borrowed table of hosts, if there is one.
abbrev pub table_in : Option (Bor (List Row)) → Option (List Row)
table_in table = option_map (λ hosts. hosts.now) table

-- The files that options name.
abbrev pub sources_in : Options → Sources
sources_in o = record { names = names_of o.files; is_for_unison = o.is_for_unison }

-- What wasn't read is this file.
abbrev pub IsUnreadFile : Reads → Label → Unserved → Type 0
IsUnreadFile reads label (File file fault) = (label.1 ≡ file.now) × HasFault reads file.now fault
IsUnreadFile reads label (Untaken e) = ⊥
IsUnreadFile reads label (Hosts file fault) = ⊥
IsUnreadFile reads label (BadHosts file fault) = ⊥
IsUnreadFile reads label (SecondMachine operand) = ⊥
IsUnreadFile reads label (UnknownHost operand) = ⊥
IsUnreadFile reads label OutOfMemory = Unit {0}

-- What wasn't read is one of these files.
abbrev pub IsUnreadOf : Reads → List Label → Unserved → Type 0
IsUnreadOf reads ls (File file fault) =
    (label : Label) × Contains ls label × (label.1 ≡ file.now) × HasFault reads file.now fault
IsUnreadOf reads ls (Untaken e) = ⊥
IsUnreadOf reads ls (Hosts file fault) = ⊥
IsUnreadOf reads ls (BadHosts file fault) = ⊥
IsUnreadOf reads ls (SecondMachine operand) = ⊥
IsUnreadOf reads ls (UnknownHost operand) = ⊥
IsUnreadOf reads ls OutOfMemory = Unit {0}

-- What wasn't read is one of the files that are named.
abbrev pub IsUnserved : Disk → Names → Unserved → Type 0
IsUnserved disk names (File file fault) =
    (label : Label) × Contains (labels names) label × (label.1 ≡ file.now)
    × HasFault disk.reads file.now fault
IsUnserved disk names (Untaken e) = IsUnnamed disk.reads disk.lists names.profiles e
IsUnserved disk names (Hosts file fault) =
    (names.hosts ≡ Some file.now) × HasFault disk.reads file.now fault
IsUnserved disk names (BadHosts file fault) =
    (names.hosts ≡ Some file.now) × ((bytes : List ℕ) × HasBytes disk.reads file.now bytes
    × (rows_of bytes ≡ Err fault))
IsUnserved disk names (SecondMachine operand) = second_machine names.profiles ≡ Some operand.now
IsUnserved disk names (UnknownHost operand) =
    (table : Option (List Row)) × IsTable disk.reads names.hosts table
    × (unknown_host table names.profiles ≡ Some operand.now)
IsUnserved disk names OutOfMemory = Unit {0}

-- What reads of files give, what folders list, and which folder a file is in.
use Rattle.std.specs.Prelude.{◌≡◌, ℕ, List, Option, IfSome, codes}
use Rattle.hub_path.specs.Path.{Path}
use Rattle.hub_folder.specs.declared.reader.ReadFault.{ReadFault}
use Rattle.hub_folder.specs.declared.reader.ReadFault.TheVariants as fault
use Rattle.hub_folder.specs.declared.reader.Unread.{Unread}
use Rattle.hub_folder.specs.declared.reader.Unread.TheVariants as unread

-- What is wrong with a file, as a word of an answer.
abbrev pub fault_word : ReadFault → List ℕ
fault_word (fault.Missing error) = codes "ReadFailed"
fault_word (fault.ReadFailed error) = codes "ReadFailed"
fault_word fault.TurnsSpent = codes "TurnsSpent"

-- What a read of a file gives: its bytes, or that there is no such file, or what is wrong with it.
pub data FileRead : Type 0 where
  Bytes : List ℕ → FileRead
  Missing : FileRead
  Fault : List ℕ → FileRead

-- What reads of files give by their paths, where it is known.
abbrev pub Reads : Type 0
Reads = List ℕ → Option FileRead

abbrev pub read_of : ReadFault → FileRead
read_of (fault.Missing error) = Missing
read_of (fault.ReadFailed error) = Fault (fault_word (fault.ReadFailed error))
read_of fault.TurnsSpent = Fault (fault_word fault.TurnsSpent)

-- A read of the file of this path gives these bytes, if that is known,
abbrev pub HasBytes : Reads → List ℕ → List ℕ → Type 0
HasBytes reads file bytes = IfSome (reads file) (λ r. r ≡ Bytes bytes)

-- or this is wrong with it,
abbrev pub HasFault : Reads → List ℕ → ReadFault → Type 0
HasFault reads file fault = IfSome (reads file) (λ r. r ≡ read_of fault)

-- or there is no such file,
abbrev pub IsMissing : Reads → List ℕ → Type 0
IsMissing reads file = IfSome (reads file) (λ r. r ≡ Missing)

-- or it wasn't read for this reason.
abbrev pub IsUnread : Reads → List ℕ → Unread → Type 0
IsUnread reads file (unread.File fault) = HasFault reads file fault
IsUnread reads file unread.OutOfMemory = Unit {0}

-- What a folder lists: the names of its files in the order of their bytes, or what is wrong with it.
pub data Listing : Type 0 where
  Names : List (List ℕ) → Listing
  Unlisted : List ℕ → Listing

-- What folders list by their paths, where it is known.
abbrev pub Lists : Type 0
Lists = List ℕ → Option Listing

-- The folder of this path lists these names, if that is known,
abbrev pub HasNames : Lists → List ℕ → List (List ℕ) → Type 0
HasNames lists folder names = IfSome (lists folder) (λ l. l ≡ Names names)

-- or this is wrong with it,
abbrev pub HasListFault : Lists → List ℕ → ReadFault → Type 0
HasListFault lists folder fault = IfSome (lists folder) (λ l. l ≡ Unlisted (fault_word fault))

-- or it wasn't listed for this reason.
abbrev pub IsUnlisted : Lists → List ℕ → Unread → Type 0
IsUnlisted lists folder (unread.File fault) = HasListFault lists folder fault
IsUnlisted lists folder unread.OutOfMemory = Unit {0}

-- The folders of files by their paths, where it is known: the folder's path, or that it can't be told.
abbrev pub Folders : Type 0
Folders = List ℕ → Option (Option Path)

-- The folder of the file of this path is that, or can't be told, if that is known.
abbrev pub HasFolder : Folders → List ℕ → Option Path → Type 0
HasFolder folders file folder = IfSome (folders file) (λ told. folder ≡ told)

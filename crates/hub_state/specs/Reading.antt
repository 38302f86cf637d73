-- Which bytes are state texts, of version 1 or 2, what they say, and the first fault of all others.
use Rattle.std.specs.Prelude.{◌≡◌, ℕ, ◌+◌, Bool, true, false, not, ◌&&◌, ◌||◌, ◌==◌, nat_eq, nat_le, nat_lt, List, [], ◌∷◌, map, drop, length, Option, Some, None, Result, Ok, Err, is_some, if◌then◌else◌, codes, bytes_eq}
use Rattle.std.specs.List.{list_any, starts_with, before_first, after_first}
use Rattle.std.specs.Str.{is_utf8, chars}
use Rattle.std.specs.FinMap as fin
use Rattle.hex.specs.Hex.{decode_of}
use Rattle.sha2.specs.Sha256.{sha256}
use Rattle.hub_text.specs.declared.line.Line.{Line as TextLine}
use Rattle.hub_text.specs.Lines.{lines_of}
use Rattle.hub_path.specs.Path.{Path, path_eq, path_cmp, name_cmp, parent}
use Rattle.hub_path.specs.Reading.{path_reading, root_reading}
use Rattle.hub_tree.specs.declared.contents.Contents.{Contents}
use Rattle.hub_tree.specs.declared.contents.Contents.TheVariants as contents
use Rattle.hub_tree.specs.declared.contents.Mark.{Mark}
use Rattle.hub_tree.specs.declared.contents.Mark.TheVariants as mark
use Rattle.hub_tree.specs.Tree.{is_directory}
use Rattle.hub_state.specs.declared.TheConstants.{ENTRIES, BLOBS, FILE_BYTES}
use Rattle.hub_state.specs.declared.fault.Fault.{Fault}
use Rattle.hub_state.specs.declared.fault.Fault.TheVariants.{BadHeader, BadLine, BadPath, BadHex, NoParent, Repeated, TooLarge, Truncated, OutOfMemory, UnknownBlob, WrongDigest}
use Rattle.hub_state.specs.declared.fault.StateFault.{StateFault}
use Rattle.hub_state.specs.declared.form.Form.{Form}
use Rattle.hub_state.specs.declared.form.Form.TheVariants as form
use Rattle.hub_state.specs.declared.form.Section.{Section}
use Rattle.hub_state.specs.declared.form.Section.TheVariants as section
use Rattle.hub_state.specs.declared.form.Version.TheVariants.{One, Two}
use Rattle.hub_state.specs.State.{State, Text, root_text, pair_of}
use Rattle.hub_state.specs.Writing.{state_header, end_line}
use Rattle.hub_text.specs.Blanks.{is_space}
use Rattle.hub_text.specs.Fails.{Fails, and_then}

-- Blobs: the digest and the bytes of each, the last one first.
abbrev pub Blobs : Type 0
Blobs = List (List ℕ × List ℕ)

-- What the lines above say: the blobs, if the text is of version 2; the replicas and the archives,
-- with their entries, the last one first; to which the next entry belongs; how many entries there
-- are; and whether there was an `end`.
pub record Above : Type 0 where
  pub blobs : Option Blobs
  pub replicas : List (Text × List (Path × Contents))
  pub archives : List (List Text × List (Path × Mark))
  pub section : Section
  pub entries : ℕ
  pub ended : Bool

abbrev pub nothing_above : Above
nothing_above =
    record {
      blobs = None;
      replicas = [];
      archives = [];
      section = section.Nothing;
      entries =
          0;
      ended = false;
    }

-- The state that these lines say.
abbrev pub state_of : Above → State
state_of d = record {
  replicas = fin.from_entries (map (λ e. (e.0, fin.from_entries e.1)) d.replicas);
  archives = fin.from_entries (map (λ e. (e.0, fin.from_entries e.1)) d.archives);
}

-- The words that begin lines, each with the space after it: those of lines within a section, and
-- all.
abbrev pub inner_words : List (List ℕ × Form)
inner_words =
    (codes "with ", form.With) ∷ (codes "dir ", form.Dir) ∷ (codes "file ", form.File) ∷ []

abbrev pub words : List (List ℕ × Form)
words =
    (codes "blob ", form.Blob) ∷ (codes "replica ", form.Replica)
    ∷ (codes "archive ", form.Archive) ∷ inner_words

pub record Line : Type 0 where
  pub form : Form
  pub rest : List ℕ

abbrev pub line_among : List (List ℕ × Form) → List ℕ → Option Line
line_among [] l = None
line_among (w ∷ ws) l =
    if starts_with nat_eq l w.0 then Some (record { form = w.1; rest = drop (length w.0) l })
    else line_among ws l

-- The form of a line, and what follows its word.
abbrev pub line_of : List ℕ → Option Line
line_of l =
    if bytes_eq l end_line then Some (record { form = form.End; rest = [] }) else line_among words l

-- The line has this form, and this follows its word.
abbrev pub HasForm : Option Line → Form → List ℕ → Type 0
HasForm l f t = l ≡ Some (record { form = f; rest = t })

-- A text with a space is this field and the rest, before and after its first space.
abbrev pub AreFields : List ℕ → List ℕ → List ℕ → Type 0
AreFields text field rest =
    (list_any is_space text ≡ true) × (field ≡ before_first is_space text)
    × (rest ≡ after_first is_space text)

-- The fault is that memory is out, or the fault of the reading.
abbrev pub FailsReading : {T : Type 0} → Result T Fault → Fault → Type 0
FailsReading reading = Fails OutOfMemory reading

abbrev pub is_half : Section → Bool
is_half section.Nothing = false
is_half section.Replica = false
is_half (section.HalfArchive r) = true
is_half section.Archive = false

abbrev pub takes_entries : Section → Bool
takes_entries section.Nothing = false
takes_entries section.Replica = true
takes_entries (section.HalfArchive r) = false
takes_entries section.Archive = true

abbrev pub is_start : Section → Bool
is_start section.Nothing = true
is_start section.Replica = false
is_start (section.HalfArchive r) = false
is_start section.Archive = false

-- Where a line may stand: `blob` above all sections, `with` right below `archive` and nowhere else,
-- and entries in a section.
abbrev pub may_stand : Section → Form → Bool
may_stand s form.Blob = is_start s
may_stand s form.Replica = not (is_half s)
may_stand s form.Archive = not (is_half s)
may_stand s form.With = is_half s
may_stand s form.Dir = takes_entries s
may_stand s form.File = takes_entries s
may_stand s form.End = not (is_half s)

-- What a field says, or the fault of one that can't be read.
abbrev pub or_else : {T E : Type 0} → Fault → Result T E → Result T Fault
or_else f (Ok x) = Ok x
or_else f (Err e) = Err f

-- A test that comes before the rest.
abbrev pub unless : {T : Type 0} → Bool → Fault → Result T Fault → Result T Fault
unless bad fault rest = if bad then Err fault else rest

abbrev pub root_field : List ℕ → Result Path Fault
root_field t = or_else BadPath (root_reading (chars t))

abbrev pub path_field : List ℕ → Result Path Fault
path_field t = or_else BadPath (path_reading (chars t))

-- `-` stands for no bytes. An empty field is refused.
abbrev pub bytes_field : List ℕ → Result (List ℕ) Fault
bytes_field t =
    if bytes_eq t (codes "-") then Ok []
    else unless (length t == 0) BadHex (or_else BadHex (decode_of t))

-- A digest has 64 digits.
abbrev pub digest_field : List ℕ → Result (List ℕ) Fault
digest_field t = unless (not (length t == 64)) BadHex (or_else BadHex (decode_of t))

-- A section that begins.
abbrev pub with_replica_begun : Above → Path → Result Above Fault
with_replica_begun d r =
    unless (list_any (λ e. bytes_eq e.0 (root_text r)) d.replicas) Repeated
    (Ok (record d { replicas = (root_text r, []) ∷ d.replicas; section = section.Replica }))

abbrev pub with_pair_begun : Above → Path → Path → Result Above Fault
with_pair_begun d r s =
    unless (path_eq r s) BadLine
    (unless (list_any (λ e. path_eq e.0 (pair_of r s)) d.archives) Repeated
    (Ok (record d { archives = (pair_of r s, []) ∷ d.archives; section = section.Archive })))

abbrev pub with_other_root : Above → Section → Path → Result Above Fault
with_other_root d section.Nothing s = Err BadLine
with_other_root d section.Replica s = Err BadLine
with_other_root d (section.HalfArchive r) s = with_pair_begun d r s
with_other_root d section.Archive s = Err BadLine

abbrev pub is_directory_among : Option Contents → Bool
is_directory_among None = false
is_directory_among (Some c) = is_directory c

-- Whether the entries above have a directory at a path.
abbrev pub has_directory : List (Path × Contents) → Path → Bool
has_directory es p = length p == 0 || is_directory_among (fin.find path_cmp p es)

-- An entry of the replica that began last, at a path that it doesn't have yet.
abbrev pub with_new_entry : Above → Path → Contents → Text × List (Path × Contents)
    → List (Text × List (Path × Contents)) → Result Above Fault
with_new_entry d p c e es =
    unless (not (has_directory e.1 (parent p))) NoParent
    (Ok (record d { replicas = (e.0, (p, c) ∷ e.1) ∷ es; entries = d.entries + 1 }))

-- An entry of the replica that began last.
abbrev pub with_contents_put : Above → Path → Contents → List (Text × List (Path × Contents))
    → Result Above Fault
with_contents_put d p c [] = Err BadLine
with_contents_put d p c (e ∷ es) =
    unless (is_some (fin.find path_cmp p e.1)) Repeated (with_new_entry d p c e es)

-- A file of the replica that began last, whose bytes are those of a blob.
abbrev pub blob_found : Option (List ℕ) → Result (List ℕ) Fault
blob_found None = Err UnknownBlob
blob_found (Some bytes) = Ok bytes

abbrev pub with_blob_named : Above → Path → Option (List ℕ) → List (Text × List (Path × Contents))
    → Result Above Fault
with_blob_named d p blob [] = Err BadLine
with_blob_named d p blob (e ∷ es) =
    unless (is_some (fin.find path_cmp p e.1)) Repeated
    (and_then (blob_found blob) (λ bytes. with_new_entry d p (contents.File bytes) e es))

-- An entry of the archive that began last; nothing is asked of parents.
abbrev pub with_mark_put : Above → Path → Mark → List (List Text × List (Path × Mark))
    → Result Above Fault
with_mark_put d p m [] = Err BadLine
with_mark_put d p m (e ∷ es) =
    unless (is_some (fin.find path_cmp p e.1)) Repeated
    (Ok (record d { archives = (e.0, (p, m) ∷ e.1) ∷ es; entries = d.entries + 1 }))

abbrev pub is_full : Above → Bool
is_full d = nat_le ENTRIES d.entries

-- `dir PATH`
abbrev pub with_dir : Above → Section → Path → Result Above Fault
with_dir d section.Nothing p = Err BadLine
with_dir d section.Replica p =
    unless (is_full d) TooLarge (with_contents_put d p contents.Directory d.replicas)
with_dir d (section.HalfArchive r) p = Err BadLine
with_dir d section.Archive p =
    unless (is_full d) TooLarge (with_mark_put d p mark.Directory d.archives)

-- `file HEX PATH` in a replica, or `file DIGEST PATH` if the text is of version 2; and `file DIGEST
-- PATH` in an archive.
abbrev pub with_file : Above → Option Blobs → List ℕ → List ℕ → Result Above Fault
with_file d None field t =
    and_then (bytes_field field) (λ bytes. and_then (path_field t) (λ p.
    unless (is_full d || nat_lt FILE_BYTES (length bytes)) TooLarge
    (with_contents_put d p (contents.File bytes) d.replicas)))
with_file d (Some bs) field t =
    and_then (digest_field field) (λ digest. and_then (path_field t) (λ p.
    unless (is_full d) TooLarge (with_blob_named d p (fin.find name_cmp digest bs) d.replicas)))

abbrev pub with_digest : Above → List ℕ → List ℕ → Result Above Fault
with_digest d field t =
    and_then (digest_field field) (λ digest. and_then (path_field t) (λ p.
    unless (is_full d) TooLarge (with_mark_put d p (mark.File digest) d.archives)))

abbrev pub with_fields : Above → Section → List ℕ → List ℕ → Result Above Fault
with_fields d section.Nothing field t = Err BadLine
with_fields d section.Replica field t = with_file d d.blobs field t
with_fields d (section.HalfArchive r) field t = Err BadLine
with_fields d section.Archive field t = with_digest d field t

-- `blob DIGEST HEX`, if the text is of version 2.
abbrev pub with_blob_put : Above → Blobs → List ℕ → List ℕ → Result Above Fault
with_blob_put d bs digest bytes =
    unless (nat_le BLOBS (length bs) || nat_lt FILE_BYTES (length bytes)) TooLarge
    (unless (not (bytes_eq (sha256 bytes) digest)) WrongDigest
    (unless (is_some (fin.find name_cmp digest bs)) Repeated
    (Ok (record d { blobs = Some ((digest, bytes) ∷ bs) }))))

abbrev pub with_blob_fields : Above → Blobs → List ℕ → List ℕ → Result Above Fault
with_blob_fields d bs field t =
    and_then (digest_field field) (λ digest. and_then (bytes_field t)
    (λ bytes. with_blob_put d bs digest bytes))

abbrev pub with_blob : Above → Option Blobs → List ℕ → Result Above Fault
with_blob d None t = Err BadLine
with_blob d (Some bs) t =
    unless (not (list_any is_space t)) BadLine
    (with_blob_fields d bs (before_first is_space t) (after_first is_space t))

-- What a line adds that may stand there.
abbrev pub with_line : Above → Form → List ℕ → Result Above Fault
with_line d form.Blob t = with_blob d d.blobs t
with_line d form.Replica t = and_then (root_field t) (with_replica_begun d)
with_line d form.Archive t =
    and_then (root_field t) (λ r. Ok (record d { section = section.HalfArchive r }))
with_line d form.With t = and_then (root_field t) (with_other_root d d.section)
with_line d form.Dir t = and_then (path_field t) (with_dir d d.section)
with_line d form.File t =
    unless (not (list_any is_space t)) BadLine
    (with_fields d d.section (before_first is_space t) (after_first is_space t))
with_line d form.End t = Ok (record d { ended = true })

abbrev pub with_line_of : Above → Option Line → Result Above Fault
with_line_of d None = Err BadLine
with_line_of d (Some l) =
    unless (d.ended || not (may_stand d.section l.form)) BadLine (with_line d l.form l.rest)

-- A line below the header. A line that isn't UTF-8 has no form.
abbrev pub line_reading : Above → List ℕ → Result Above Fault
line_reading d l = if is_utf8 l then with_line_of d (line_of l) else Err BadLine

-- The header has the version.
abbrev pub header_reading : Above → List ℕ → Result Above Fault
header_reading d l =
    if bytes_eq l (state_header One) then Ok d
    else unless (not (bytes_eq l (state_header Two))) BadHeader (Ok (record d { blobs = Some [] }))

-- The first line is the header.
abbrev pub numbered_reading : ℕ → Above → List ℕ → Result Above Fault
numbered_reading n d l = if n == 1 then header_reading d l else line_reading d l

-- A text is whole if its last line is `end`, or if there is an `end` above and the last line ends
-- with LF.
abbrev pub is_truncated : Bool → Above → List ℕ → Bool
is_truncated whole d l = not (bytes_eq l end_line) && not (whole && d.ended)

abbrev pub fault_at : {T : Type 0} → ℕ → Result T Fault → Result T StateFault
fault_at n (Ok x) = Ok x
fault_at n (Err f) = Err (record { line = n; fault = f })

-- The lines from the n-th on. A text that is cut off is reported at its last line, whatever that
-- line is.
abbrev pub lines_reading : ℕ → Above → List (TextLine (List ℕ)) → Result Above StateFault
lines_reading n d [] = Err (record { line = 1; fault = Truncated })
lines_reading n d (l ∷ []) =
    fault_at n (unless (is_truncated l.is_ended d l.text) Truncated (numbered_reading n d l.text))
lines_reading n d (l ∷ k ∷ ls) =
    and_then (fault_at n (numbered_reading n d l.text)) (λ e. lines_reading (n + 1) e (k ∷ ls))

abbrev pub above_end : List ℕ → Result Above StateFault
above_end bytes = lines_reading 1 nothing_above (lines_of bytes)

abbrev pub state_or_fault : Result Above StateFault → Result State StateFault
state_or_fault (Ok d) = Ok (state_of d)
state_or_fault (Err e) = Err e

-- What a state text says, or its first fault.
unfoldable pub state_reading : List ℕ → Result State StateFault
state_reading bytes = state_or_fault (above_end bytes)

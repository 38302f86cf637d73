-- What a line adds to a draft, whose entries stand in maps. `Reading` says the same of lists of
-- entries.
use Rattle.std.specs.Prelude.{◌≡◌, ◌≢◌, ◌⊎◌, ℕ, ◌+◌, Bool, true, false, not, ◌&&◌, ◌||◌, ◌==◌, bytes_eq, nat_le, nat_lt, List, length, Option, Some, None, Result, Ok, Err, is_some, if◌then◌else◌}
use Rattle.std.specs.List.{list_any, before_first, after_first}
use Rattle.std.specs.Str.{is_utf8}
use Rattle.std.specs.FinMap as fin
use denote.Ref.{Bor}
use Rattle.sha2.specs.Sha256.{sha256}
use Rattle.hub_path.specs.Path.{Path, path_eq, name_cmp, parent}
use Rattle.hub_tree.specs.declared.contents.Contents.{Contents}
use Rattle.hub_tree.specs.declared.contents.Contents.TheVariants as contents
use Rattle.hub_tree.specs.declared.contents.Mark.{Mark}
use Rattle.hub_tree.specs.declared.contents.Mark.TheVariants as mark
use Rattle.hub_tree.specs.Tree.{Replica, Archive, is_directory, contents_at}
use Rattle.hub_state.specs.declared.TheConstants.{ENTRIES, BLOBS, FILE_BYTES}
use Rattle.hub_state.specs.declared.fault.Fault.{Fault}
use Rattle.hub_state.specs.declared.fault.Fault.TheVariants.{BadHeader, BadLine, NoParent, Repeated, TooLarge, Truncated, OutOfMemory, WrongDigest}
use Rattle.hub_state.specs.declared.fault.StateFault.{StateFault}
use Rattle.hub_state.specs.declared.form.Form.{Form}
use Rattle.hub_state.specs.declared.form.Form.TheVariants as form
use Rattle.hub_state.specs.declared.form.Section.{Section}
use Rattle.hub_state.specs.declared.form.Section.TheVariants as section
use Rattle.hub_state.specs.declared.form.Version.TheVariants.{One, Two}
use Rattle.hub_state.specs.declared.draft.Draft.{Draft}
use Rattle.hub_state.specs.declared.draft.Open.{Open}
use Rattle.hub_state.specs.declared.draft.Open.TheVariants as opened
use Rattle.hub_state.specs.State.{State, replica_at, archive_at, with_replica, with_archive}
use Rattle.hub_state.specs.Writing.{state_header, end_line}
use Rattle.hub_state.specs.Reading.{Line, line_of, may_stand, unless, root_field, path_field, bytes_field, digest_field, blob_found}
use Rattle.hub_text.specs.Blanks.{is_space}
use Rattle.hub_text.specs.declared.line.Line.{Line as TextLine}
use Rattle.hub_text.specs.Fails.{and_then}

-- The section that is open.
abbrev pub section_of : Open → Section
section_of opened.Nothing = section.Nothing
section_of (opened.Replica r t) = section.Replica
section_of (opened.HalfArchive r) = section.HalfArchive r
section_of (opened.Archive r s a) = section.Archive

-- The roots of an archive are different.
abbrev pub IsApart : Open → Type 0
IsApart opened.Nothing = Unit {0}
IsApart (opened.Replica r t) = Unit {0}
IsApart (opened.HalfArchive r) = Unit {0}
IsApart (opened.Archive r s a) = r ≢ s

-- The state with what is open.
abbrev pub closed : State → Open → State
closed S opened.Nothing = S
closed S (opened.Replica r t) = with_replica S r t
closed S (opened.HalfArchive r) = S
closed S (opened.Archive r s a) = with_archive S r s a

abbrev pub nothing_taken : State → Draft
nothing_taken S =
    record {
      blobs = None;
      state = S;
      current = opened.Nothing;
      entries = 0;
      ended = false;
      near =
          tt;
    }

abbrev pub shut : Draft → Draft
shut a = record a { state = closed a.state a.current; current = opened.Nothing }

abbrev pub replica_begun : Draft → Path → Result Draft Fault
replica_begun a r =
    unless (is_some (replica_at (closed a.state a.current) r)) Repeated
    (Ok (record a { state = closed a.state a.current; current = opened.Replica r fin.empty }))

abbrev pub with_half_open : Draft → Path → Draft
with_half_open a r = record a { state = closed a.state a.current; current = opened.HalfArchive r }

abbrev pub with_pair_open : Draft → Path → Path → Draft
with_pair_open a r s = record a { current = opened.Archive r s fin.empty }

abbrev pub pair_begun : Draft → Path → Path → Result Draft Fault
pair_begun a r s =
    unless (path_eq r s) BadLine
    (unless (is_some (archive_at a.state r s)) Repeated (Ok (with_pair_open a r s)))

abbrev pub other_taken : Draft → Open → Path → Result Draft Fault
other_taken a opened.Nothing s = Err BadLine
other_taken a (opened.Replica r t) s = Err BadLine
other_taken a (opened.HalfArchive r) s = pair_begun a r s
other_taken a (opened.Archive r q m) s = Err BadLine

-- What the other root of an archive adds to a draft, and which root it already has.
abbrev pub other_root_taken : Draft → Path → Result Draft Fault
other_root_taken a s = other_taken a a.current s

abbrev pub OpensPair : Draft → Path → Path → Type 0
OpensPair a r s = other_root_taken a s ≡ Ok (with_pair_open a r s)

-- The blobs of a text by their digests.
abbrev pub BlobMap : Type 0
BlobMap = fin.FinMap name_cmp (List ℕ)

abbrev pub blob_put : BlobMap → List ℕ → List ℕ → Result BlobMap Fault
blob_put m digest bytes =
    unless (nat_le BLOBS (fin.len m) || nat_lt FILE_BYTES (length bytes)) TooLarge
    (unless (not (bytes_eq (sha256 bytes) digest)) WrongDigest
    (unless (is_some (fin.get m digest)) Repeated (Ok (fin.insert m digest bytes))))

abbrev pub blob_fields_put : BlobMap → List ℕ → List ℕ → Result BlobMap Fault
blob_fields_put m field text =
    and_then (digest_field field) (λ digest. and_then (bytes_field text)
    (λ bytes. blob_put m digest bytes))

-- An entry of a replica, at a path that it doesn't have yet and at any path; a file of a blob; and
-- an entry of an archive.
abbrev pub new_contents_put : Replica → Path → Contents → Result Replica Fault
new_contents_put m p c =
    unless (not (is_directory (contents_at m (parent p)))) NoParent (Ok (fin.insert m p c))

abbrev pub contents_put : Replica → Path → Contents → Result Replica Fault
contents_put m p c = unless (is_some (fin.get m p)) Repeated (new_contents_put m p c)

abbrev pub blob_named_put : Replica → Path → Option (List ℕ) → Result Replica Fault
blob_named_put m p blob =
    unless (is_some (fin.get m p)) Repeated
    (and_then (blob_found blob) (λ bytes. new_contents_put m p (contents.File bytes)))

abbrev pub mark_put : Archive → Path → Mark → Result Archive Fault
mark_put a p m = unless (is_some (fin.get a p)) Repeated (Ok (fin.insert a p m))

-- An entry after so many others.
abbrev pub contents_entered : ℕ → Replica → Path → Contents → Result Replica Fault
contents_entered n t p c = unless (nat_le ENTRIES n) TooLarge (contents_put t p c)

abbrev pub mark_entered : ℕ → Archive → Path → Mark → Result Archive Fault
mark_entered n a p m = unless (nat_le ENTRIES n) TooLarge (mark_put a p m)

abbrev pub bytes_put : ℕ → Replica → List ℕ → List ℕ → Result Replica Fault
bytes_put n t field text =
    and_then (bytes_field field) (λ bytes. and_then (path_field text) (λ p.
    unless (nat_le ENTRIES n || nat_lt FILE_BYTES (length bytes)) TooLarge
    (contents_put t p (contents.File bytes))))

abbrev pub shared_put : ℕ → Replica → Path → Option (List ℕ) → Result Replica Fault
shared_put n t p blob = unless (nat_le ENTRIES n) TooLarge (blob_named_put t p blob)

abbrev pub digest_put : BlobMap → ℕ → Replica → List ℕ → List ℕ → Result Replica Fault
digest_put m n t field text =
    and_then (digest_field field)
    (λ digest. and_then (path_field text) (λ p. shared_put n t p (fin.get m digest)))

abbrev pub file_put : Option BlobMap → ℕ → Replica → List ℕ → List ℕ → Result Replica Fault
file_put None n t field text = bytes_put n t field text
file_put (Some m) n t field text = digest_put m n t field text

abbrev pub old_file_put : ℕ → Archive → List ℕ → List ℕ → Result Archive Fault
old_file_put n m field text =
    and_then (digest_field field) (λ digest. and_then (path_field text)
    (λ p. mark_entered n m p (mark.File digest)))

-- The draft with other blobs.
abbrev pub with_blobs : Draft → Result BlobMap Fault → Result Draft Fault
with_blobs a x = and_then x (λ m. Ok (record a { blobs = Some m }))

abbrev pub blob_taken : Draft → Option BlobMap → List ℕ → Result Draft Fault
blob_taken a None t = Err BadLine
blob_taken a (Some m) t =
    unless (not (list_any is_space t)) BadLine
    (with_blobs a (blob_fields_put m (before_first is_space t) (after_first is_space t)))

-- The draft with one more entry.
abbrev pub with_tree : Draft → Path → Result Replica Fault → Result Draft Fault
with_tree a r x =
    and_then x (λ t. Ok (record a { current = opened.Replica r t; entries = a.entries + 1 }))

abbrev pub with_marks : Draft → Path → Path → Result Archive Fault → Result Draft Fault
with_marks a r s x =
    and_then x (λ m. Ok (record a { current = opened.Archive r s m; entries = a.entries + 1 }))

abbrev pub dir_taken : Draft → Open → Path → Result Draft Fault
dir_taken a opened.Nothing p = Err BadLine
dir_taken a (opened.Replica r t) p =
    with_tree a r (contents_entered a.entries t p contents.Directory)
dir_taken a (opened.HalfArchive r) p = Err BadLine
dir_taken a (opened.Archive r s m) p =
    with_marks a r s (mark_entered a.entries m p mark.Directory)

abbrev pub fields_taken : Draft → Open → List ℕ → List ℕ → Result Draft Fault
fields_taken a opened.Nothing field text = Err BadLine
fields_taken a (opened.Replica r t) field text =
    with_tree a r (file_put a.blobs a.entries t field text)
fields_taken a (opened.HalfArchive r) field text = Err BadLine
fields_taken a (opened.Archive r s m) field text =
    with_marks a r s (old_file_put a.entries m field text)

abbrev pub file_taken : Draft → List ℕ → Result Draft Fault
file_taken a t =
    unless (not (list_any is_space t)) BadLine
    (fields_taken a a.current (before_first is_space t) (after_first is_space t))

abbrev pub form_taken : Draft → Form → List ℕ → Result Draft Fault
form_taken a form.Blob t = blob_taken a a.blobs t
form_taken a form.Replica t = and_then (root_field t) (replica_begun a)
form_taken a form.Archive t = and_then (root_field t) (λ r. Ok (with_half_open a r))
form_taken a form.With t = and_then (root_field t) (other_taken a a.current)
form_taken a form.Dir t = and_then (path_field t) (dir_taken a a.current)
form_taken a form.File t = file_taken a t
form_taken a form.End t = Ok (record a { ended = true })

abbrev pub line_form_taken : Draft → Option Line → Result Draft Fault
line_form_taken a None = Err BadLine
line_form_taken a (Some l) =
    unless (a.ended || not (may_stand (section_of a.current) l.form)) BadLine
    (form_taken a l.form l.rest)

abbrev pub line_taken : Draft → List ℕ → Result Draft Fault
line_taken a l = if is_utf8 l then line_form_taken a (line_of l) else Err BadLine

abbrev pub header_taken : Draft → List ℕ → Result Draft Fault
header_taken a l =
    if bytes_eq l (state_header One) then Ok a
    else unless (not (bytes_eq l (state_header Two))) BadHeader
    (Ok (record a { blobs = Some fin.empty }))

-- The first line is the header.
abbrev pub numbered_taken : ℕ → Draft → List ℕ → Result Draft Fault
numbered_taken n a l = if n == 1 then header_taken a l else line_taken a l

-- The last line, and the state then.
abbrev pub last_taken : ℕ → Draft → Bool → List ℕ → Result State Fault
last_taken n a whole l =
    and_then (unless (not (bytes_eq l end_line) && not (whole && a.ended)) Truncated
    (numbered_taken n a l)) (λ b. Ok (closed b.state b.current))

-- The same of a borrowed line.
abbrev pub last_line_taken : ℕ → Draft → TextLine (Bor (List ℕ)) → Result State Fault
last_line_taken n a l = last_taken n a l.is_ended l.text.now

abbrev pub is_memory : Fault → Bool
is_memory OutOfMemory = true
is_memory _ = false

-- Where a fault of a line is reported: want of memory is one of no line.
abbrev pub placed : ℕ → Fault → StateFault
placed n f = record { line = if is_memory f then 0 else n; fault = f }

-- What is reported of the line with that number: a fault of what was taken, or want of memory.
abbrev pub TellsLine : {T : Type 0} → ℕ → Result T Fault → StateFault → Type 0
TellsLine n r e = (f : Fault) × (e ≡ placed n f) × ((f ≡ OutOfMemory) ⊎ (r ≡ Err f))

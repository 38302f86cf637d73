-- Replicas and archives: finite maps from paths.
use Rattle.std.specs.Prelude.{◌≡◌, ◌≢◌, ℕ, ◌<◌, slice_index, Bool, true, false, not, ◌&&◌, ◌==◌, List, [], ◌∷◌, map, length, Option, Some, None, unwrap_or, if◌then◌else◌, is_some}
use Rattle.std.specs.List.{filter}
use Rattle.std.specs.FinMap as fin
use Rattle.sha2.specs.Sha256.{sha256}
use Rattle.hub_path.specs.Path.{Name, Path, path_eq, path_cmp, is_path, parent, last_name}
use Rattle.hub_tree.specs.declared.contents.Contents.{Contents}
use Rattle.hub_tree.specs.declared.contents.Contents.TheVariants as contents
use Rattle.hub_tree.specs.declared.contents.Mark.{Mark}
use Rattle.hub_tree.specs.declared.contents.Mark.TheVariants as mark
use Rattle.hub_tree.specs.declared.fault.SetFault.{SetFault}
use Rattle.hub_tree.specs.declared.fault.SetFault.TheVariants.{RootPath, NoParent, NotEmpty, NothingThere, OutOfMemory}

-- A replica has a file or a directory at finitely many paths. Elsewhere is nothing.
abbrev pub Replica : Type 0
Replica = fin.FinMap path_cmp Contents

-- An archive has a mark at finitely many paths.
abbrev pub Archive : Type 0
Archive = fin.FinMap path_cmp Mark

-- The whole replica is a directory.
abbrev pub contents_at : Replica → Path → Contents
contents_at m [] = contents.Directory
contents_at m (n ∷ p) = unwrap_or (fin.get m (n ∷ p)) contents.Absent

-- A file is marked by the digest of its bytes.
abbrev pub mark_of : Contents → Mark
mark_of (contents.File bytes) = mark.File (sha256 bytes)
mark_of contents.Directory = mark.Directory
mark_of contents.Absent = mark.Absent

-- The bytes of a file.
abbrev pub bytes_of : Contents → Option (List ℕ)
bytes_of (contents.File bytes) = Some bytes
bytes_of contents.Directory = None
bytes_of contents.Absent = None

abbrev pub bytes_at : Replica → Path → Option (List ℕ)
bytes_at m p = bytes_of (contents_at m p)

abbrev pub mark_at : Replica → Path → Mark
mark_at m p = mark_of (contents_at m p)

abbrev pub old_mark_at : Archive → Path → Mark
old_mark_at a p = unwrap_or (fin.get a p) mark.Absent

-- p is d with one more name.
abbrev pub is_child : Path → Path → Bool
is_child d p = not (length p == 0) && path_eq (parent p) d

abbrev pub is_directory : Contents → Bool
is_directory (contents.File bytes) = false
is_directory contents.Directory = true
is_directory contents.Absent = false

abbrev pub is_absent : Contents → Bool
is_absent (contents.File bytes) = false
is_absent contents.Directory = false
is_absent contents.Absent = true

-- The paths one name below d that have contents, ascending.
abbrev pub children : Replica → Path → List Path
children m d = filter (λ p. is_child d p && not (is_absent (contents_at m p))) (fin.keys m)

-- Their names.
abbrev pub names_at : Replica → Path → List Name
names_at m d = map last_name (children m d)

-- The parent of each path with contents is a directory. No entry says that nothing is there, and
-- none is for the whole replica, so that replicas with the same contents at each path are equal.
pub record IsTree (m : Replica) : Type 0 where
  pub parents : (p : Path) → is_absent (contents_at m p) ≡ false
      → is_directory (contents_at m (parent p)) ≡ true
  pub present : (p : Path) → fin.get m p ≢ Some contents.Absent
  pub no_top : fin.get m [] ≡ None

-- Every entry is at a path. Without this a map can't be written as a text and read again.
abbrev pub HasPaths : {T : Type 0} → fin.FinMap path_cmp T → Type 0
HasPaths m = (p : Path) → is_some (fin.get m p) ≡ true → is_path p ≡ true

-- A byte is below 256.
abbrev pub IsBytes : List ℕ → Type 0
IsBytes xs = (i : ℕ) → slice_index xs i < 256

-- A digest has 32 bytes.
abbrev pub IsDigest : List ℕ → Type 0
IsDigest xs = (length xs ≡ 32) × IsBytes xs

-- A file has bytes.
abbrev pub HasBytes : Replica → Type 0
HasBytes m = (p : Path) (bytes : List ℕ) → fin.get m p ≡ Some (contents.File bytes) → IsBytes bytes

-- The mark of a file has a digest.
abbrev pub HasDigests : Archive → Type 0
HasDigests a =
    (p : Path) (digest : List ℕ) → fin.get a p ≡ Some (mark.File digest) → IsDigest digest

-- The same as for a tree, for an archive; nothing is asked of parents.
pub record IsArchive (a : Archive) : Type 0 where
  pub present : (p : Path) → fin.get a p ≢ Some mark.Absent
  pub no_top : fin.get a [] ≡ None

-- What an archive keeps of a mark: nothing of one that says that nothing is there.
abbrev pub kept_mark : Mark → Option Mark
kept_mark (mark.File digest) = Some (mark.File digest)
kept_mark mark.Directory = Some mark.Directory
kept_mark mark.Absent = None

abbrev pub with_kept : Archive → Path → Option Mark → Archive
with_kept a p (Some m) = fin.insert a p m
with_kept a p None = fin.remove a p

-- The archive with this mark at a path, and as before elsewhere.
abbrev pub with_mark : Archive → Path → Mark → Archive
with_mark a p m = with_kept a p (kept_mark m)

-- The replica with these contents at a path, and as before elsewhere.
abbrev pub with_contents : Replica → Path → Contents → Replica
with_contents m p (contents.File bytes) = fin.insert m p (contents.File bytes)
with_contents m p contents.Directory = fin.insert m p contents.Directory
with_contents m p contents.Absent = fin.remove m p

-- Why contents can't be set at a path: the first of these.
abbrev pub set_fault : Replica → Path → Contents → Option SetFault
set_fault m p c =
    if length p == 0 then Some RootPath
    else (if not (is_directory (contents_at m (parent p))) then Some NoParent
    else (if is_directory (contents_at m p) && not (is_directory c)
    && not (length (children m p) == 0) then Some NotEmpty
    else (if is_absent (contents_at m p) && is_absent c then Some NothingThere else None)))

-- Why contents can't be set at a path that has none yet. One that has some is left as it is.
abbrev pub new_fault : Replica → Path → Contents → Option SetFault
new_fault m p c = if is_some (fin.get m p) then None else set_fault m p c

-- The replica with these contents at a path, if it had none there.
abbrev pub with_new_contents : Replica → Path → Contents → Replica
with_new_contents m p c = if is_some (fin.get m p) then m else with_contents m p c

-- The fault of a refusal: that of the rule, and want of memory where the rule has none.
abbrev pub IsRefusal : Option SetFault → SetFault → Type 0
IsRefusal None e = e ≡ OutOfMemory
IsRefusal (Some f) e = e ≡ f

-- Both replicas have the same contents at each path.
abbrev pub SameContents : Replica → Replica → Type 0
SameContents m k = (p : Path) → contents_at m p ≡ contents_at k p

-- Both archives have the same mark at each path.
abbrev pub SameMarks : Archive → Archive → Type 0
SameMarks a b = (p : Path) → old_mark_at a p ≡ old_mark_at b p

-- The marks of an archive, with this one at p.
abbrev pub marks_with : Archive → Path → Mark → Path → Mark
marks_with a p m q = if path_eq q p then m else old_mark_at a q

-- q is one name below d, and has contents.
abbrev pub is_present_child : Replica → Path → Path → Bool
is_present_child m d q = is_child d q && not (is_absent (contents_at m q))

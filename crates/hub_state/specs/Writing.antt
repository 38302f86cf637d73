-- The text of a state, by its bytes: version 2, or version 1 if two files of one digest have
-- different bytes.
use Rattle.std.specs.Prelude.{◌≡◌, ℕ, Bool, not, ◌||◌, ◌==◌, List, [], ◌∷◌, ◌++◌, map, length, codes, bytes_eq, if◌then◌else◌}
use Rattle.std.specs.List.{flat_map, list_all}
use Rattle.std.specs.FinMap as fin
use Rattle.std.specs.Str.{encode_utf8_all}
use Rattle.hex.specs.Hex.{encode_lower}
use Rattle.sha2.specs.Sha256.{sha256}
use Rattle.hub_path.specs.Path.{Path, text_of, name_cmp}
use Rattle.hub_tree.specs.Tree.{Replica, Archive}
use Rattle.hub_tree.specs.declared.contents.Contents.{Contents}
use Rattle.hub_tree.specs.declared.contents.Contents.TheVariants as contents
use Rattle.hub_tree.specs.declared.contents.Mark.{Mark}
use Rattle.hub_tree.specs.declared.contents.Mark.TheVariants as mark
use Rattle.hub_tree.specs.Stored.{stored_contents}
use Rattle.hub_tree.specs.declared.entries.Stored.{Stored}
use Rattle.hub_state.specs.declared.blobs.Head.{Head}
use Rattle.hub_state.specs.declared.form.Version.{Version}
use Rattle.hub_state.specs.declared.form.Version.TheVariants.{One, Two}
use Rattle.hub_state.specs.State.{State, Text}

abbrev pub state_header : Version → List ℕ
state_header One = codes "hubsync state 1"
state_header Two = codes "hubsync state 2"

abbrev pub end_line : List ℕ
end_line = codes "end"

-- Hexadecimal digits of the bytes in lower case, or `-` for none.
abbrev pub hex_field : List ℕ → List ℕ
hex_field bytes = if length bytes == 0 then codes "-" else encode_lower bytes

-- What stands for the bytes of a replica's file: in version 2 their digest.
abbrev pub file_field : Version → List ℕ → List ℕ
file_field One bytes = hex_field bytes
file_field Two bytes = encode_lower (sha256 bytes)

abbrev pub path_bytes : Path → List ℕ
path_bytes p = encode_utf8_all (text_of p)

abbrev pub dir_line : Path → List ℕ
dir_line p = codes "dir " ++ path_bytes p

abbrev pub file_line : List ℕ → Path → List ℕ
file_line field p = codes "file " ++ field ++ 32 ∷ path_bytes p

-- A replica and an archive store nothing that is absent, so such an entry has no line.
abbrev pub contents_lines : Version → Path × Contents → List (List ℕ)
contents_lines v (p, contents.File bytes) = file_line (file_field v bytes) p ∷ []
contents_lines v (p, contents.Directory) = dir_line p ∷ []
contents_lines v (p, contents.Absent) = []

abbrev pub mark_lines : Path × Mark → List (List ℕ)
mark_lines (p, mark.File digest) = file_line (encode_lower digest) p ∷ []
mark_lines (p, mark.Directory) = dir_line p ∷ []
mark_lines (p, mark.Absent) = []

abbrev pub replica_lines : Version → Text × Replica → List (List ℕ)
replica_lines v e = (codes "replica " ++ e.0) ∷ flat_map (contents_lines v) (fin.entries e.1)

-- The two roots of a pair, a line each.
abbrev pub pair_lines : List Text → List (List ℕ)
pair_lines [] = []
pair_lines (r ∷ []) = (codes "archive " ++ r) ∷ []
pair_lines (r ∷ s ∷ ts) = (codes "archive " ++ r) ∷ (codes "with " ++ s) ∷ []

abbrev pub archive_lines : List Text × Archive → List (List ℕ)
archive_lines e = pair_lines e.0 ++ flat_map mark_lines (fin.entries e.1)

-- The lines of what a replica has at a path.
abbrev pub entry_lines : Version → Path → Stored → List (List ℕ)
entry_lines v p s = contents_lines v (p, stored_contents s)

-- The files of a state, each by its bytes.
abbrev pub contents_files : Contents → List (List ℕ)
contents_files (contents.File bytes) = bytes ∷ []
contents_files contents.Directory = []
contents_files contents.Absent = []

abbrev pub files_of : Replica → List (List ℕ)
files_of m = flat_map (λ x. contents_files x.1) (fin.entries m)

abbrev pub replica_files : Text × Replica → List (List ℕ)
replica_files e = files_of e.1

abbrev pub state_files : State → List (List ℕ)
state_files S = flat_map replica_files (fin.entries S.replicas)

-- Bytes under their digest.
abbrev pub blob_of : List ℕ → List ℕ × List ℕ
blob_of bytes = (sha256 bytes, bytes)

-- The bytes of these files by their digests, each digest once and in ascending order.
abbrev pub blobs_of : List (List ℕ) → fin.FinMap name_cmp (List ℕ)
blobs_of fs = fin.from_entries (map blob_of fs)

abbrev pub blob_line : List ℕ × List ℕ → List ℕ
blob_line b = codes "blob " ++ encode_lower b.0 ++ 32 ∷ hex_field b.1

abbrev pub blob_lines : Version → List (List ℕ) → List (List ℕ)
blob_lines One fs = []
blob_lines Two fs = map blob_line (fin.entries (blobs_of fs))

-- The blobs of a head are written as those of a text with these files.
abbrev pub HasBlobsOf : Head → List (List ℕ) → Type 0
HasBlobsOf h fs = map blob_line (fin.entries h.blobs) ≡ blob_lines h.version fs

-- Whether all of these files with one digest have the same bytes.
abbrev pub tell_apart : List (List ℕ) → Bool
tell_apart fs =
    list_all (λ a. list_all (λ b. not (bytes_eq (sha256 a) (sha256 b)) || bytes_eq a b) fs) fs

-- The version that is written.
abbrev pub version_of : List (List ℕ) → Version
version_of fs = if tell_apart fs then Two else One

-- The header; the blobs that the files name, in the order of their digests; replicas and then
-- archives in the order of their roots' texts, the entries of each in the order of paths.
abbrev pub version_lines : Version → State → List (List ℕ)
version_lines v S =
    state_header v ∷ blob_lines v (state_files S)
    ++ flat_map (replica_lines v) (fin.entries S.replicas)
    ++ flat_map archive_lines (fin.entries S.archives) ++ end_line ∷ []

abbrev pub state_lines : State → List (List ℕ)
state_lines S = version_lines (version_of (state_files S)) S

-- Each line ends with LF.
abbrev pub joined_lines : List (List ℕ) → List ℕ
joined_lines ls = flat_map (λ l. l ++ 10 ∷ []) ls

-- Bytes after these lines, or this line, were added to those before.
abbrev pub AddsLines : List ℕ → List ℕ → List (List ℕ) → Type 0
AddsLines before after ls = after ≡ before ++ joined_lines ls

abbrev pub AddsLine : List ℕ → List ℕ → List ℕ → Type 0
AddsLine before after l = after ≡ before ++ l ++ 10 ∷ []

unfoldable pub state_text : State → List ℕ
state_text S = joined_lines (state_lines S)

-- The lines of several replicas, and of several archives.
abbrev pub replicas_lines : Version → List (Text × Replica) → List (List ℕ)
replicas_lines v es = flat_map (replica_lines v) es

abbrev pub archives_lines : List (List Text × Archive) → List (List ℕ)
archives_lines es = flat_map archive_lines es

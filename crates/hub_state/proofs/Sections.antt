-- Replicas and archives as they are written, read one after the other.
use Rattle.std.proofs.Common.{◌≡◌, ◌≢◌, ℕ, suc, ◌+◌, ◌<◌, ◌≤◌, true, false, ◌==◌, List, [], ◌∷◌, ◌++◌, length, refl, sym, ap, ◌∙◌, arith, subst, T, length-append}
use Rattle.std.specs.Prelude.{codes, Option, Some, None, Ok, is_some, unwrap_or, bytes_eq}
use Rattle.std.specs.FinMap as fin
use Rattle.std.specs.FinMap.Entries.{find, is_sorted}
use Rattle.std.specs.List.{list_any, flat_map}
use Rattle.std.specs.Str.{is_utf8, chars}
use Rattle.std.specs.Cmp.{IsTotalOrder}
use Rattle.std.specs.declared.cmp.Ordering.{Ordering}
use Rattle.std.specs.declared.cmp.Ordering.TheVariants.{Less}
use Rattle.hex.specs.Hex.{IsBytes, encode_lower}
use lib.Utf8.{encode}
use Rattle.sha2.specs.Sha256.{sha256}
use Rattle.hub_path.specs.Path.{Name, Path, name_cmp, path_cmp, path_eq, is_path, is_place, parent, last_name}
use Rattle.hub_path.specs.Reading.{names_fault}
use Rattle.hub_path.specs.laws.General.{path_cmp-over, path_cmp-total, is_over-parent, parent-last_name}
use Rattle.hub_tree.specs.Tree.{Replica, Archive, IsTree, IsArchive, HasPaths, contents_at, is_directory, is_absent}
use Rattle.hub_tree.specs.declared.contents.Contents.{Contents}
use Rattle.hub_tree.specs.declared.contents.Contents.TheVariants as contents
use Rattle.hub_tree.specs.declared.contents.Mark.{Mark}
use Rattle.hub_tree.specs.declared.contents.Mark.TheVariants as mark
use Rattle.hub_state.specs.declared.TheConstants.{ENTRIES, FILE_BYTES}
use Rattle.hub_state.specs.declared.form.Section.{Section}
use Rattle.hub_state.specs.declared.form.Section.TheVariants as section
use Rattle.hub_state.specs.declared.form.Version.{Version}
use Rattle.hub_state.specs.declared.form.Version.TheVariants.{One, Two}
use Rattle.hub_state.specs.State.{Text, root_text, pair_of}
use Rattle.hub_state.specs.Writing.{path_bytes, dir_line, file_line, hex_field, contents_lines, mark_lines}
use Rattle.hub_state.specs.Reading.{Blobs, line_reading, is_half, has_directory, is_directory_among}
use Rattle.std.proofs.lemmas.Bool.{or_right}
use Rattle.hub_state.proofs.Lines.{digits-in_line}
use Rattle.hub_state.proofs.Digests.{IsDigest-sha256}
use Rattle.hub_state.proofs.Fields.{path-in_line, IsUtf8-root, root_field-written, hex-in_line}
use Rattle.hub_path.specs.laws.ReadBack.{path-place}
use Rattle.hub_state.proofs.Kept.{back, onto, next_is_new, next_is_there, find-before}
use Rattle.hub_state.proofs.Written.{Reads, Reads-none, Reads-append, Reads-line, above, word_utf8, word_in_line, fields_in_line, dir_reads, file_reads, named_reads, old_dir_reads, old_file_reads}

-- What the entries of a replica and of an archive must be.
pub record IsWritable (m : Replica) : Type 0 where
  pub tree : IsTree m
  pub paths : HasPaths m
  pub names : (p : Path) → is_some (fin.get m p) ≡ true → names_fault 0 p ≡ None
  pub short : (p : Path) (bytes : List ℕ) → fin.get m p ≡ Some (contents.File bytes) → length bytes ≤ FILE_BYTES
  pub bytes : (p : Path) (bytes : List ℕ) → fin.get m p ≡ Some (contents.File bytes) → IsBytes bytes

pub record IsOldWritable (a : Archive) : Type 0 where
  pub marks : IsArchive a
  pub paths : HasPaths a
  pub names : (p : Path) → is_some (fin.get a p) ≡ true → names_fault 0 p ≡ None
  pub digests : (p : Path) (digest : List ℕ) → fin.get a p ≡ Some (mark.File digest) → (length digest ≡ 32) × IsBytes digest

sorted_back : {K X : Type 0} {R : K → K → Ordering} (m : fin.FinMap R X) (es : List (K × X)) → es ≡ fin.entries m → T (is_sorted R es)
sorted_back {R = R} m es e = subst (λ es. T (is_sorted R es)) (sym e) (fin.entries_sorted m)

-- The parent of an entry stands before it.
among : (o : Option Contents) → is_directory (unwrap_or o contents.Absent) ≡ true → is_directory_among o ≡ true
among None h = cc
among (Some c) h = h

directory_before : (m : Replica) (acc : List (Path × Contents)) (d : Path) → is_directory (contents_at m d) ≡ true → fin.get m d ≡ find path_cmp d acc → has_directory acc d ≡ true
directory_before m acc [] h e = refl
directory_before m acc (n ∷ q) h e =
    or_right (length (n ∷ q) == 0) (is_directory_among (find path_cmp (n ∷ q) acc))
    (among (find path_cmp (n ∷ q) acc) (sym (ap (λ o. is_directory (unwrap_or o contents.Absent)) e) ∙ h))

shorter : (n : Name) (q : Path) → parent (n ∷ q) ≢ n ∷ q
shorter n q e = absurd (omega (arith, ap length e, ap length (parent-last_name n q), length-append (parent (n ∷ q)) (last_name (n ∷ q) ∷ [])))

parent_before : (n : Name) (q : Path) → path_cmp (parent (n ∷ q)) (n ∷ q) ≡ Less
parent_before n q = path_cmp-over (parent (n ∷ q)) (n ∷ q) (is_over-parent (n ∷ q)) (shorter n q)

parents : (m : Replica) → IsTree m → (acc : List (Path × Contents)) (p : Path) (c : Contents) (es : List (Path × Contents)) → back acc ((p, c) ∷ es) ≡ fin.entries m
    → is_path p ≡ true → fin.get m p ≡ Some c → is_absent c ≡ false → has_directory acc (parent p) ≡ true
parents m tree acc [] c es e path there k = refl
parents m tree acc (n ∷ q) c es e path there k =
    let d = parent (n ∷ q) in
    let shown : is_directory (contents_at m d) ≡ true = tree.parents (n ∷ q) (ap (λ o. is_absent (unwrap_or o contents.Absent)) there ∙ k) in
    directory_before m acc d shown
    (fin.get-entries m d ∙ ap (find path_cmp d) (sym e) ∙ find-before path_cmp-total acc (n ∷ q, c) es d (sorted_back m _ e) (parent_before n q))

-- What the files of a replica are written as, and read by.
abbrev pub version_in : Option Blobs → Version
version_in None = One
version_in (Some xs) = Two

abbrev pub HasBlobs : Option Blobs → Replica → Type 0
HasBlobs None m = Unit {0}
HasBlobs (Some xs) m = (p : Path) (bytes : List ℕ) → fin.get m p ≡ Some (contents.File bytes) → find name_cmp (sha256 bytes) xs ≡ Some bytes

-- An entry of a replica.
pub there_in : {K X : Type 0} {R : K → K → Ordering} (o : IsTotalOrder R) (m : fin.FinMap R X) (acc : List (K × X)) (e : K × X) (es : List (K × X)) → back acc (e ∷ es) ≡ fin.entries m → fin.get m e.0 ≡ Some e.1
there_in {R = R} o m acc e es s = fin.get-entries m e.0 ∙ ap (find R e.0) (sym s) ∙ next_is_there o acc e es (sorted_back m _ s)

pub new_in : {K X : Type 0} {R : K → K → Ordering} (o : IsTotalOrder R) (m : fin.FinMap R X) (acc : List (K × X)) (e : K × X) (es : List (K × X)) → back acc (e ∷ es) ≡ fin.entries m → find R e.0 acc ≡ None
new_in o m acc e es s = next_is_new o acc e es (sorted_back m _ s)

entry_reads : (m : Replica) → IsWritable m → (bs : Option Blobs) → HasBlobs bs m → (rs : List (Text × List (Path × Contents))) (ks : List (List Text × List (Path × Mark))) (n : ℕ) (t : Text) (acc : List (Path × Contents)) (p : Path) (c : Contents) (es : List (Path × Contents))
    → back acc ((p, c) ∷ es) ≡ fin.entries m → n < ENTRIES
    → Reads (above bs ((t, acc) ∷ rs) ks section.Replica n) (contents_lines (version_in bs) (p, c)) (above bs ((t, (p, c) ∷ acc) ∷ rs) ks section.Replica (n + 1))
entry_reads m w None blobs rs ks n t acc p (contents.File bytes) es e room =
    let c : Contents = contents.File bytes in
    let there : fin.get m p ≡ Some c = there_in path_cmp-total m acc (p, c) es e in
    let path : is_path p ≡ true = w.paths p (ap is_some there) in
    Reads-line _ _ (file_line (hex_field bytes) p) (fields_in_line (hex_field bytes) _ (hex-in_line bytes) (path-in_line p (path-place p path)))
    (file_reads rs ks n t acc p bytes path (w.names p (ap is_some there)) (w.bytes p bytes there) (w.short p bytes there) room (new_in path_cmp-total m acc (p, c) es e)
    (parents m w.tree acc p c es e path there refl))
entry_reads m w (Some xs) blobs rs ks n t acc p (contents.File bytes) es e room =
    let c : Contents = contents.File bytes in
    let digest : List ℕ = sha256 bytes in
    let there : fin.get m p ≡ Some c = there_in path_cmp-total m acc (p, c) es e in
    let path : is_path p ≡ true = w.paths p (ap is_some there) in
    let fit = IsDigest-sha256 bytes in
    Reads-line _ _ (file_line (encode_lower digest) p) (fields_in_line (encode_lower digest) _ (digits-in_line digest) (path-in_line p (path-place p path)))
    (named_reads xs rs ks n t acc p digest bytes path (w.names p (ap is_some there)) fit.0 fit.1 (blobs p bytes there) room (new_in path_cmp-total m acc (p, c) es e)
    (parents m w.tree acc p c es e path there refl))
entry_reads m w bs blobs rs ks n t acc p contents.Directory es e room =
    let there : fin.get m p ≡ Some contents.Directory = there_in path_cmp-total m acc (p, contents.Directory) es e in
    let path : is_path p ≡ true = w.paths p (ap is_some there) in
    Reads-line _ _ (dir_line p) (word_in_line (codes "dir ") (path_bytes p) refl (path-in_line p (path-place p path)))
    (dir_reads bs rs ks n t acc p path (w.names p (ap is_some there)) room (new_in path_cmp-total m acc (p, contents.Directory) es e)
    (parents m w.tree acc p contents.Directory es e path there refl))
entry_reads m w bs blobs rs ks n t acc p contents.Absent es e room = absurd (w.tree.present p (there_in path_cmp-total m acc (p, contents.Absent) es e))

-- The entries of a replica from one on.
one_later : (n k : ℕ) → n + 1 + k ≡ n + suc k
one_later n k = omega arith

pub entries_read : (m : Replica) → IsWritable m → (bs : Option Blobs) → HasBlobs bs m → (rs : List (Text × List (Path × Contents))) (ks : List (List Text × List (Path × Mark))) (t : Text) (es acc : List (Path × Contents)) (n : ℕ)
    → back acc es ≡ fin.entries m → n + length es ≤ ENTRIES
    → Reads (above bs ((t, acc) ∷ rs) ks section.Replica n) (flat_map (contents_lines (version_in bs)) es) (above bs ((t, onto acc es) ∷ rs) ks section.Replica (n + length es))
entries_read m w bs blobs rs ks t [] acc n e room =
    let same : n ≡ n + 0 = omega arith in
    subst (λ (k : ℕ). Reads (above bs ((t, acc) ∷ rs) ks section.Replica n) [] (above bs ((t, acc) ∷ rs) ks section.Replica k)) same (Reads-none _)
entries_read m w bs blobs rs ks t ((p, c) ∷ es) acc n e room =
    let one = entry_reads m w bs blobs rs ks n t acc p c es e (omega arith) in
    let more = entries_read m w bs blobs rs ks t es ((p, c) ∷ acc) (n + 1) e (omega arith) in
    let all = Reads-append (above bs ((t, acc) ∷ rs) ks section.Replica n) (above bs ((t, (p, c) ∷ acc) ∷ rs) ks section.Replica (n + 1)) _ (contents_lines (version_in bs) (p, c)) (flat_map (contents_lines (version_in bs)) es) one more in
    subst (λ (k : ℕ). Reads (above bs ((t, acc) ∷ rs) ks section.Replica n) (contents_lines (version_in bs) (p, c) ++ flat_map (contents_lines (version_in bs)) es) (above bs ((t, onto ((p, c) ∷ acc) es) ∷ rs) ks section.Replica k)) (one_later n (length es)) all

-- The same of an archive.
old_entry_reads : (a : Archive) → IsOldWritable a → (bs : Option Blobs) (rs : List (Text × List (Path × Contents))) (ks : List (List Text × List (Path × Mark))) (n : ℕ) (k : List Text) (acc : List (Path × Mark)) (p : Path) (c : Mark) (es : List (Path × Mark))
    → back acc ((p, c) ∷ es) ≡ fin.entries a → n < ENTRIES
    → Reads (above bs rs ((k, acc) ∷ ks) section.Archive n) (mark_lines (p, c)) (above bs rs ((k, (p, c) ∷ acc) ∷ ks) section.Archive (n + 1))
old_entry_reads a w bs rs ks n k acc p (mark.File digest) es e room =
    let c : Mark = mark.File digest in
    let there : fin.get a p ≡ Some c = there_in path_cmp-total a acc (p, c) es e in
    let path : is_path p ≡ true = w.paths p (ap is_some there) in
    let fit = w.digests p digest there in
    Reads-line _ _ (file_line (encode_lower digest) p) (fields_in_line (encode_lower digest) _ (digits-in_line digest) (path-in_line p (path-place p path)))
    (old_file_reads bs rs ks n k acc p digest path (w.names p (ap is_some there)) fit.0 fit.1 room (new_in path_cmp-total a acc (p, c) es e))
old_entry_reads a w bs rs ks n k acc p mark.Directory es e room =
    let there : fin.get a p ≡ Some mark.Directory = there_in path_cmp-total a acc (p, mark.Directory) es e in
    let path : is_path p ≡ true = w.paths p (ap is_some there) in
    Reads-line _ _ (dir_line p) (word_in_line (codes "dir ") (path_bytes p) refl (path-in_line p (path-place p path)))
    (old_dir_reads bs rs ks n k acc p path (w.names p (ap is_some there)) room (new_in path_cmp-total a acc (p, mark.Directory) es e))
old_entry_reads a w bs rs ks n k acc p mark.Absent es e room = absurd (w.marks.present p (there_in path_cmp-total a acc (p, mark.Absent) es e))

pub old_entries_read : (a : Archive) → IsOldWritable a → (bs : Option Blobs) (rs : List (Text × List (Path × Contents))) (ks : List (List Text × List (Path × Mark))) (k : List Text) (es acc : List (Path × Mark)) (n : ℕ)
    → back acc es ≡ fin.entries a → n + length es ≤ ENTRIES
    → Reads (above bs rs ((k, acc) ∷ ks) section.Archive n) (flat_map mark_lines es) (above bs rs ((k, onto acc es) ∷ ks) section.Archive (n + length es))
old_entries_read a w bs rs ks k [] acc n e room =
    let same : n ≡ n + 0 = omega arith in
    subst (λ (j : ℕ). Reads (above bs rs ((k, acc) ∷ ks) section.Archive n) [] (above bs rs ((k, acc) ∷ ks) section.Archive j)) same (Reads-none _)
old_entries_read a w bs rs ks k ((p, c) ∷ es) acc n e room =
    let one = old_entry_reads a w bs rs ks n k acc p c es e (omega arith) in
    let more = old_entries_read a w bs rs ks k es ((p, c) ∷ acc) (n + 1) e (omega arith) in
    let all = Reads-append (above bs rs ((k, acc) ∷ ks) section.Archive n) (above bs rs ((k, (p, c) ∷ acc) ∷ ks) section.Archive (n + 1)) _ (mark_lines (p, c)) (flat_map mark_lines es) one more in
    subst (λ (j : ℕ). Reads (above bs rs ((k, acc) ∷ ks) section.Archive n) (mark_lines (p, c) ++ flat_map mark_lines es) (above bs rs ((k, onto ((p, c) ∷ acc) es) ∷ ks) section.Archive j)) (one_later n (length es)) all

-- A section begins.
replica_word : is_utf8 (codes "replica ") ≡ true
unfolding is_utf8 chars encode
replica_word = refl

archive_word : is_utf8 (codes "archive ") ≡ true
unfolding is_utf8 chars encode
archive_word = refl

with_word : is_utf8 (codes "with ") ≡ true
unfolding is_utf8 chars encode
with_word = refl

pub replica_begins : (bs : Option Blobs) (rs : List (Text × List (Path × Contents))) (ks : List (List Text × List (Path × Mark))) (s : Section) (n : ℕ) (r : Path) → is_place r ≡ true → names_fault 0 r ≡ None → is_half s ≡ false
    → list_any (λ e. bytes_eq e.0 (root_text r)) rs ≡ false
    → line_reading (above bs rs ks s n) (codes "replica " ++ root_text r) ≡ Ok (above bs ((root_text r, []) ∷ rs) ks section.Replica n)
replica_begins bs rs ks s n r place ok whole new =
    rw (word_utf8 (codes "replica ") replica_word (root_text r) (IsUtf8-root r place), whole, root_field-written r place ok, new) refl

pub archive_begins : (bs : Option Blobs) (rs : List (Text × List (Path × Contents))) (ks : List (List Text × List (Path × Mark))) (s : Section) (n : ℕ) (r : Path) → is_place r ≡ true → names_fault 0 r ≡ None → is_half s ≡ false
    → line_reading (above bs rs ks s n) (codes "archive " ++ root_text r) ≡ Ok (above bs rs ks (section.HalfArchive r) n)
archive_begins bs rs ks s n r place ok whole =
    rw (word_utf8 (codes "archive ") archive_word (root_text r) (IsUtf8-root r place), whole, root_field-written r place ok) refl

pub with_reads : (bs : Option Blobs) (rs : List (Text × List (Path × Contents))) (ks : List (List Text × List (Path × Mark))) (n : ℕ) (r s : Path) → is_place s ≡ true → names_fault 0 s ≡ None → path_eq r s ≡ false
    → list_any (λ e. path_eq e.0 (pair_of r s)) ks ≡ false
    → line_reading (above bs rs ks (section.HalfArchive r) n) (codes "with " ++ root_text s) ≡ Ok (above bs rs ((pair_of r s, []) ∷ ks) section.Archive n)
with_reads bs rs ks n r s place ok other new =
    rw (word_utf8 (codes "with ") with_word (root_text s) (IsUtf8-root s place), root_field-written s place ok, other, new) refl

-- The whole text that is written, read.
use Rattle.std.proofs.Common.{◌≡◌, inl, ℕ, suc, ◌+◌, ◌<◌, ◌≤◌, cond, append_assoc, length-append, Bool, true, false, not, List, [], ◌∷◌, ◌++◌, map, length, refl, sym, ap, ◌∙◌, arith, subst, T}
use Rattle.std.specs.Prelude.{codes, IsTrue, Option, Some, None, Ok, bytes_eq, sum_by}
use Rattle.std.specs.FinMap as fin
use Rattle.std.specs.List.{list_all, list_any, flat_map}
use Rattle.std.specs.Cmp.{IsTotalOrder}
use Rattle.std.specs.declared.cmp.Ordering.{Ordering}
use Rattle.std.proofs.lemmas.Cmp.{tied_itself}
use Rattle.std.proofs.lemmas.List.Sums.{sum_by-cons}
use Rattle.std.proofs.lemmas.List.Folds.{list_all-append}
use Rattle.std.proofs.lemmas.Slice.Eq.{slice_eq-Decides, bytes_eq-Decides}
use Rattle.std.proofs.lemmas.Bool.{and_from, false≢true}
use Rattle.sha2.specs.Sha256.{sha256}
use Rattle.hub_path.specs.Path.{Path, name_cmp, path_cmp, path_eq, is_place}
use Rattle.hub_path.specs.Reading.{names_fault}
use Rattle.hub_path.specs.laws.General.{path_cmp-total, path_cmp-exact, name_cmp-total, name_cmp-exact}
use Rattle.hub_tree.specs.Tree.{Replica, Archive, IsBytes, IsDigest}
use Rattle.hub_tree.specs.declared.contents.Contents.{Contents}
use Rattle.hub_tree.specs.declared.contents.Contents.TheVariants as contents
use Rattle.hub_tree.specs.declared.contents.Mark.{Mark}
use Rattle.hub_state.specs.declared.TheConstants.{ENTRIES, BLOBS, FILE_BYTES}
use Rattle.hub_state.specs.declared.form.Section.{Section}
use Rattle.hub_state.specs.declared.form.Section.TheVariants as section
use Rattle.hub_state.specs.declared.form.Version.{Version}
use Rattle.hub_state.specs.declared.form.Version.TheVariants.{One, Two}
use Rattle.hub_state.specs.State.{State, Text, IsState, root_text, pair_of, is_before}
use Rattle.hub_state.specs.Writing.{state_header, end_line, replica_lines, archive_lines, pair_lines, contents_lines, mark_lines, blob_line, blob_lines, blobs_of, contents_files, replica_files, state_files, tell_apart, joined_lines, version_lines, state_text}
use Rattle.hub_state.specs.Taking.{BlobMap}
use Rattle.hub_state.specs.Reading.{Above, Blobs, above_end, lines_reading, nothing_above, is_half, state_of, state_or_fault, state_reading}
use Rattle.hub_state.specs.Readable.{IsReadable}
use Rattle.hub_state.proofs.Lines.{in_line, all_ended, above_end-joined}
use Rattle.hub_state.proofs.Fields.{root-in_line}
use Rattle.hub_state.proofs.Kept.{back, onto, none_tested, all_onto}
use Rattle.hub_state.proofs.Written.{Reads, Reads-none, Reads-append, Reads-line, above, word_in_line, blob_reads, blob_in_line, lines_reading-ended}
use Rattle.hub_state.proofs.Digests.{IsDigest-sha256}
use Rattle.hub_state.proofs.Files.{Files, Among, Every, every_among, found_among, every_value, length-files, len-blobs_of, get-blobs_of, only-blobs_of}
use Rattle.hub_state.proofs.Sections.{version_in, HasBlobs, IsWritable, IsOldWritable, entries_read, old_entries_read, replica_begins, archive_begins, with_reads, there_in, new_in}

-- The entries as they are kept while a text is read.
abbrev kept_of : {K X : Type 0} {R : K → K → Ordering} → fin.FinMap R X → List (K × X)
kept_of m = onto [] (fin.entries m)

abbrev kept : {T K X : Type 0} {R : K → K → Ordering} → List (T × fin.FinMap R X) → List (T × List (K × X))
kept {T} {K} {X} {R} es = map (λ (e : T × fin.FinMap R X). (e.0, kept_of e.1)) es

-- How many they are.
abbrev total : {T K X : Type 0} {R : K → K → Ordering} → List (T × fin.FinMap R X) → ℕ
total [] = 0
total (e ∷ es) = length (fin.entries e.1) + total es

total-is : {T K X : Type 0} {R : K → K → Ordering} (es : List (T × fin.FinMap R X)) → sum_by (λ (m : fin.FinMap R X). fin.len m) (map (λ (e : T × fin.FinMap R X). e.1) es) ≡ total es
total-is [] = refl
total-is {T = T} {X = X} {R = R} (e ∷ es) =
    sum_by-cons (λ (m : fin.FinMap R X). fin.len m) e.1 (map (λ (e : T × fin.FinMap R X). e.1) es)
    ∙ (ap (λ n. n + sum_by (λ (m : fin.FinMap R X). fin.len m) (map (λ (e : T × fin.FinMap R X). e.1) es)) (fin.len-entries e.1) ∙ ap (λ n. length (fin.entries e.1) + n) (total-is es))

-- A section and the lines of its entries.
section_reads : (d e f : Above) (l : List ℕ) (ls : List (List ℕ)) → Reads d (l ∷ []) e → Reads e ls f → Reads d (l ∷ ls) f
section_reads d e f l ls one more = Reads-append d e f (l ∷ []) ls one more

-- A replica.
replica_reads : (bs : Option Blobs) (rs : List (Text × List (Path × Contents))) (s : Section) (n : ℕ) (t : Text) (m : Replica) (r : Path) → t ≡ root_text r → is_place r ≡ true → names_fault 0 r ≡ None → is_half s ≡ false
    → list_any (λ e. bytes_eq e.0 t) rs ≡ false → IsWritable m → HasBlobs bs m → n + length (fin.entries m) ≤ ENTRIES
    → Reads (above bs rs [] s n) (replica_lines (version_in bs) (t, m)) (above bs ((t, kept_of m) ∷ rs) [] section.Replica (n + length (fin.entries m)))
replica_reads bs rs s n t m r same place ok whole new w blobs room =
    let begins : Reads (above bs rs [] s n) ((codes "replica " ++ t) ∷ []) (above bs ((t, []) ∷ rs) [] section.Replica n) =
    subst (λ (x : Text). list_any (λ e. bytes_eq e.0 x) rs ≡ false → Reads (above bs rs [] s n) ((codes "replica " ++ x) ∷ []) (above bs ((x, []) ∷ rs) [] section.Replica n)) (sym same)
    (λ new. Reads-line _ _ _ (word_in_line (codes "replica ") (root_text r) refl (root-in_line r place)) (replica_begins bs rs [] s n r place ok whole new)) new
    in
    section_reads (above bs rs [] s n) (above bs ((t, []) ∷ rs) [] section.Replica n) _ (codes "replica " ++ t) (flat_map (contents_lines (version_in bs)) (fin.entries m)) begins
    (entries_read m w bs blobs rs [] t (fin.entries m) [] n refl room)

same_text : (t x : Text) → bytes_eq x t ≡ true → x ≡ t
same_text t x e = (bytes_eq-Decides x t).0 e

writable : (S : State) → IsState S → IsReadable S → (t : Text) (m : Replica) → fin.get S.replicas t ≡ Some m → IsWritable m
writable S is limits t m there = record {
  tree = (is.trees t m there).0;
  paths = (is.trees t m there).1;
  names = λ p h. limits.paths t m p there h;
  short = λ p b h. limits.files t m p b there h;
  bytes = λ p b h. (is.trees t m there).2 p b h;
}

old_writable : (S : State) → IsState S → IsReadable S → (k : List Text) (a : Archive) → fin.get S.archives k ≡ Some a → IsOldWritable a
old_writable S is limits k a there = record {
  marks = (is.marks k a there).0;
  paths = (is.marks k a there).1;
  names = λ p h. limits.old_paths k a p there h;
  digests = λ p d h. (is.marks k a there).2 p d h;
}

-- The section that was read last isn't cut in half.
record ReadSections (bs : Option Blobs) (d : Above) (ls : List (List ℕ)) (rs : List (Text × List (Path × Contents))) (ks : List (List Text × List (Path × Mark))) (n : ℕ) : Type 0 where
  last : Section
  whole : is_half last ≡ false
  reads : Reads d ls (above bs rs ks last n)

sum_later : (n a b : ℕ) → n + a + b ≡ n + (a + b)
sum_later n a b = omega arith

replicas_read : (S : State) → IsState S → IsReadable S → (bs : Option Blobs) → ((t : Text) (m : Replica) → fin.get S.replicas t ≡ Some m → HasBlobs bs m) → (es acc : List (Text × Replica)) (s : Section) (n : ℕ) → back acc es ≡ fin.entries S.replicas → is_half s ≡ false → n + total es ≤ ENTRIES
    → ReadSections bs (above bs (kept acc) [] s n) (flat_map (replica_lines (version_in bs)) es) (kept (onto acc es)) [] (n + total es)
replicas_read S is limits bs blobs [] acc s n e whole room =
    let same : n ≡ n + 0 = omega arith in
    record { last = s; whole = whole; reads = subst (λ (k : ℕ). Reads (above bs (kept acc) [] s n) [] (above bs (kept acc) [] s k)) same (Reads-none _) }
replicas_read S is limits bs blobs ((t, m) ∷ es) acc s n e whole room =
    let there : fin.get S.replicas t ≡ Some m = there_in name_cmp-total S.replicas acc (t, m) es e in
    let root = is.roots t m there in
    let r : Path = root.0 in
    let one = replica_reads bs (kept acc) s n t m r root.2 root.1 (limits.roots r m (subst (λ (x : Text). fin.get S.replicas x ≡ Some m) root.2 there)) whole
    (none_tested name_cmp-total (λ x. bytes_eq x t) t kept_of (same_text t) acc (new_in name_cmp-total S.replicas acc (t, m) es e)) (writable S is limits t m there) (blobs t m there) (omega arith)
    in
    let more = replicas_read S is limits bs blobs es ((t, m) ∷ acc) section.Replica (n + length (fin.entries m)) e refl (omega arith) in
    record {
      last = more.last;
      whole = more.whole;
      reads = subst (λ (k : ℕ). Reads (above bs (kept acc) [] s n) (replica_lines (version_in bs) (t, m) ++ flat_map (replica_lines (version_in bs)) es) (above bs (kept (onto ((t, m) ∷ acc) es)) [] more.last k)) (sum_later n (length (fin.entries m)) (total es))
          (Reads-append _ (above bs (kept ((t, m) ∷ acc)) [] section.Replica (n + length (fin.entries m))) _ (replica_lines (version_in bs) (t, m)) (flat_map (replica_lines (version_in bs)) es) one more.reads);
    }

-- An archive.
smaller_first : (r s : Path) → IsTrue (is_before (name_cmp (root_text r) (root_text s))) → pair_of r s ≡ root_text r ∷ root_text s ∷ []
smaller_first r s h = rw h refl

other_root : (r s : Path) → IsTrue (is_before (name_cmp (root_text r) (root_text s))) → path_eq r s ≡ false
other_root r s h = by_test (path_eq r s) refl
  where
    by_test : (b : Bool) → path_eq r s ≡ b → path_eq r s ≡ false
    by_test false e = e
    by_test true e =
        let same : r ≡ s = (slice_eq-Decides bytes_eq-Decides r s (path_eq r s) refl).0 e in
        absurd (false≢true (sym (ap is_before (tied_itself name_cmp-total (root_text r))) ∙ ap (λ q. is_before (name_cmp (root_text r) (root_text q))) same ∙ h))

archive_reads : (bs : Option Blobs) (rs : List (Text × List (Path × Contents))) (ks : List (List Text × List (Path × Mark))) (z : Section) (n : ℕ) (k : List Text) (a : Archive) (r s : Path) → k ≡ root_text r ∷ root_text s ∷ []
    → is_place r ≡ true → is_place s ≡ true → IsTrue (is_before (name_cmp (root_text r) (root_text s))) → names_fault 0 r ≡ None → names_fault 0 s ≡ None → is_half z ≡ false
    → list_any (λ e. path_eq e.0 k) ks ≡ false → IsOldWritable a → n + length (fin.entries a) ≤ ENTRIES
    → Reads (above bs rs ks z n) (archive_lines (k, a)) (above bs rs ((k, kept_of a) ∷ ks) section.Archive (n + length (fin.entries a)))
archive_reads bs rs ks z n k a r s same here there before ok fine whole new w room =
    let pair = smaller_first r s before in
    let begins : Reads (above bs rs ks z n) ((codes "archive " ++ root_text r) ∷ []) (above bs rs ks (section.HalfArchive r) n) =
    Reads-line _ _ _ (word_in_line (codes "archive ") (root_text r) refl (root-in_line r here)) (archive_begins bs rs ks z n r here ok whole)
    in
    let goes_on : Reads (above bs rs ks (section.HalfArchive r) n) ((codes "with " ++ root_text s) ∷ []) (above bs rs ((pair_of r s, []) ∷ ks) section.Archive n) =
    Reads-line _ _ _ (word_in_line (codes "with ") (root_text s) refl (root-in_line s there))
    (with_reads bs rs ks n r s there fine (other_root r s before) (ap (λ (x : List Text). list_any (λ e. path_eq e.0 x) ks) (pair ∙ sym same) ∙ new))
    in
    let goes_on_as : Reads (above bs rs ks (section.HalfArchive r) n) ((codes "with " ++ root_text s) ∷ []) (above bs rs ((k, []) ∷ ks) section.Archive n) =
    subst (λ (x : List Text). Reads (above bs rs ks (section.HalfArchive r) n) ((codes "with " ++ root_text s) ∷ []) (above bs rs ((x, []) ∷ ks) section.Archive n)) (pair ∙ sym same) goes_on
    in
    let all : Reads (above bs rs ks z n) ((codes "archive " ++ root_text r) ∷ (codes "with " ++ root_text s) ∷ flat_map mark_lines (fin.entries a)) (above bs rs ((k, kept_of a) ∷ ks) section.Archive (n + length (fin.entries a))) =
    section_reads (above bs rs ks z n) (above bs rs ks (section.HalfArchive r) n) _ _ ((codes "with " ++ root_text s) ∷ flat_map mark_lines (fin.entries a)) begins
    (section_reads (above bs rs ks (section.HalfArchive r) n) (above bs rs ((k, []) ∷ ks) section.Archive n) _ (codes "with " ++ root_text s) (flat_map mark_lines (fin.entries a)) goes_on_as
    (old_entries_read a w bs rs ks k (fin.entries a) [] n refl room))
    in
    subst (λ (x : List Text). Reads (above bs rs ks z n) (pair_lines x ++ flat_map mark_lines (fin.entries a)) (above bs rs ((k, kept_of a) ∷ ks) section.Archive (n + length (fin.entries a)))) (sym same) all

same_pair : (k x : List Text) → path_eq x k ≡ true → x ≡ k
same_pair k x e = (slice_eq-Decides bytes_eq-Decides x k (path_eq x k) refl).0 e

archives_read : (S : State) → IsState S → IsReadable S → (bs : Option Blobs) (rs : List (Text × List (Path × Contents))) (es acc : List (List Text × Archive)) (z : Section) (n : ℕ) → back acc es ≡ fin.entries S.archives → is_half z ≡ false → n + total es ≤ ENTRIES
    → ReadSections bs (above bs rs (kept acc) z n) (flat_map archive_lines es) rs (kept (onto acc es)) (n + total es)
archives_read S is limits bs rs [] acc z n e whole room =
    let same : n ≡ n + 0 = omega arith in
    record { last = z; whole = whole; reads = subst (λ (k : ℕ). Reads (above bs rs (kept acc) z n) [] (above bs rs (kept acc) z k)) same (Reads-none _) }
archives_read S is limits bs rs ((k, a) ∷ es) acc z n e whole room =
    let there : fin.get S.archives k ≡ Some a = there_in path_cmp-total S.archives acc (k, a) es e in
    let roots = is.pairs k a there in
    let r : Path = roots.0 in
    let s : Path = roots.1 in
    let ok = limits.pairs r s a (subst (λ (x : List Text). fin.get S.archives x ≡ Some a) roots.4 there) in
    let one = archive_reads bs rs (kept acc) z n k a r s roots.4 roots.2 roots.3 roots.5 ok.0 ok.1 whole
    (none_tested path_cmp-total (λ x. path_eq x k) k kept_of (same_pair k) acc (new_in path_cmp-total S.archives acc (k, a) es e)) (old_writable S is limits k a there) (omega arith)
    in
    let more = archives_read S is limits bs rs es ((k, a) ∷ acc) section.Archive (n + length (fin.entries a)) e refl (omega arith) in
    record {
      last = more.last;
      whole = more.whole;
      reads = subst (λ (j : ℕ). Reads (above bs rs (kept acc) z n) (archive_lines (k, a) ++ flat_map archive_lines es) (above bs rs (kept (onto ((k, a) ∷ acc) es)) more.last j)) (sum_later n (length (fin.entries a)) (total es))
          (Reads-append _ (above bs rs (kept ((k, a) ∷ acc)) section.Archive (n + length (fin.entries a))) _ (archive_lines (k, a)) (flat_map archive_lines es) one more.reads);
    }

-- What was kept is the state.
maps_kept : {T K X : Type 0} {R : K → K → Ordering} → IsTotalOrder R → fin.IsAntisymmetric R → (es : List (T × fin.FinMap R X))
    → map (λ (e : T × List (K × X)). (e.0, fin.from_entries {R = R} e.1)) (kept es) ≡ es
maps_kept o same [] = refl
maps_kept {T = T} {K = K} {X = X} {R = R} o same (e ∷ es) = λ i. (e.0, all_onto o same e.1 i) ∷ maps_kept {T = T} {K = K} {X = X} {R = R} o same es i

state_kept : (S : State) (bs : Option Blobs) (z : Section) (n : ℕ) → state_of (record (above bs (kept (kept_of S.replicas)) (kept (kept_of S.archives)) z n) { ended = true }) ≡ S
state_kept S bs z n =
    let replicas = ap (fin.from_entries {R = name_cmp}) (maps_kept path_cmp-total path_cmp-exact (kept_of S.replicas)) ∙ all_onto name_cmp-total name_cmp-exact S.replicas in
    let archives = ap (fin.from_entries {R = path_cmp}) (maps_kept path_cmp-total path_cmp-exact (kept_of S.archives)) ∙ all_onto path_cmp-total path_cmp-exact S.archives in
    λ i. record { replicas = replicas i; archives = archives i }

-- A file that a blob can have.
abbrev IsFit : List ℕ → Type 0
IsFit bytes = IsBytes bytes × (length bytes ≤ FILE_BYTES)

-- The blobs, one after the other.
record AreWritable (B : BlobMap) : Type 0 where
  right : (d b : List ℕ) → fin.get B d ≡ Some b → d ≡ sha256 b
  fit : (d b : List ℕ) → fin.get B d ≡ Some b → IsFit b

one_later : (n k : ℕ) → suc n + k ≡ n + suc k
one_later n k = omega arith

blob_read : (B : BlobMap) → AreWritable B → (d b : List ℕ) (es acc : Blobs) → back acc ((d, b) ∷ es) ≡ fin.entries B → length acc < BLOBS
    → Reads (above (Some acc) [] [] section.Nothing 0) (blob_line (d, b) ∷ []) (above (Some ((d, b) ∷ acc)) [] [] section.Nothing 0)
blob_read B w d b es acc e room =
    let there : fin.get B d ≡ Some b = there_in name_cmp-total B acc (d, b) es e in
    let same : d ≡ sha256 b = w.right d b there in
    let digest : IsDigest d = subst IsDigest (sym same) (IsDigest-sha256 b) in
    let fit = w.fit d b there in
    Reads-line _ _ (blob_line (d, b)) (blob_in_line d b)
    (blob_reads acc 0 d b digest.0 digest.1 ((bytes_eq-Decides (sha256 b) d).1 (sym same)) fit.0 fit.1 room (new_in name_cmp-total B acc (d, b) es e))

blobs_read : (B : BlobMap) → AreWritable B → (es acc : Blobs) → back acc es ≡ fin.entries B → length acc + length es ≤ BLOBS
    → Reads (above (Some acc) [] [] section.Nothing 0) (map blob_line es) (above (Some (onto acc es)) [] [] section.Nothing 0)
blobs_read B w [] acc e room = Reads-none _
blobs_read B w ((d, b) ∷ es) acc e room =
    Reads-append _ (above (Some ((d, b) ∷ acc)) [] [] section.Nothing 0) _ (blob_line (d, b) ∷ []) (map blob_line es)
    (blob_read B w d b es acc e (omega arith)) (blobs_read B w es ((d, b) ∷ acc) e (omega (arith, one_later (length acc) (length es))))

-- The files of a state are short, and few.
file_fit : (S : State) → IsState S → IsReadable S → (t : Text) (m : Replica) → fin.get S.replicas t ≡ Some m → (p : Path) (c : Contents) → fin.get m p ≡ Some c → Every IsFit (contents_files c)
file_fit S is limits t m there p (contents.File bytes) h = (((is.trees t m there).2 p bytes h, limits.files t m p bytes there h), tt)
file_fit S is limits t m there p contents.Directory h = tt
file_fit S is limits t m there p contents.Absent h = tt

files_fit : (S : State) → IsState S → IsReadable S → Every IsFit (state_files S)
files_fit S is limits =
    every_value name_cmp-total S.replicas (λ (m : Replica). flat_map (λ (e : Path × Contents). contents_files e.1) (fin.entries m)) IsFit
    (λ t m there. every_value path_cmp-total m contents_files IsFit (λ p c h. file_fit S is limits t m there p c h) (fin.entries m) [] refl)
    (fin.entries S.replicas) [] refl

file_among : (S : State) (t : Text) (m : Replica) (p : Path) (bytes : List ℕ) → fin.get S.replicas t ≡ Some m → fin.get m p ≡ Some (contents.File bytes) → Among bytes (state_files S)
file_among S t m p bytes there h =
    found_among name_cmp (λ (x : Replica). flat_map (λ (e : Path × Contents). contents_files e.1) (fin.entries x)) t m bytes (fin.entries S.replicas) (sym (fin.get-entries S.replicas t) ∙ there)
    (found_among path_cmp contents_files p (contents.File bytes) bytes (fin.entries m) (sym (fin.get-entries m p) ∙ h) (inl refl))

length-replicas : (es : List (Text × Replica)) → length (flat_map replica_files es) ≤ total es
length-replicas [] = omega arith
length-replicas (e ∷ es) = omega (arith, length-replicas es, length-files (fin.entries e.1), length-append (replica_files e) (flat_map replica_files es))

-- The header, lines, and `end`.
abbrev begun : Version → Option Blobs
begun One = None
begun Two = Some []

header_reads : (v : Version) (ls : List (List ℕ))
    → lines_reading 1 nothing_above (all_ended (state_header v ∷ ls ++ end_line ∷ [])) ≡ lines_reading 2 (above (begun v) [] [] section.Nothing 0) (all_ended (ls ++ end_line ∷ []))
header_reads One [] = refl
header_reads One (l ∷ ls) = refl
header_reads Two [] = refl
header_reads Two (l ∷ ls) = refl

header_in_line : (v : Version) → list_all in_line (state_header v) ≡ true
header_in_line One = refl
header_in_line Two = refl

open_whole : (z : Section) → is_half z ≡ false → not (is_half z) ≡ true
open_whole z h = ap not h

joined : (a b c d : List (List ℕ)) → a ++ b ++ c ++ d ≡ (a ++ (b ++ c)) ++ d
joined a b c d = ap (λ x. x ++ d) (append_assoc a b c)

-- A text of either version, whose blobs were read.
version_read : (S : State) → IsState S → IsReadable S → (bs : Option Blobs) → ((t : Text) (m : Replica) → fin.get S.replicas t ≡ Some m → HasBlobs bs m)
    → Reads (above (begun (version_in bs)) [] [] section.Nothing 0) (blob_lines (version_in bs) (state_files S)) (above bs [] [] section.Nothing 0)
    → state_or_fault (above_end (joined_lines (version_lines (version_in bs) S))) ≡ Ok S
version_read S is limits bs blobs begins =
    let room : total (fin.entries S.replicas) + total (fin.entries S.archives) ≤ ENTRIES =
    omega (arith, limits.entries, total-is (fin.entries S.replicas), total-is (fin.entries S.archives)) in
    let v : Version = version_in bs in
    let xs : List (List ℕ) = blob_lines v (state_files S) in
    let rs : List (List ℕ) = flat_map (replica_lines v) (fin.entries S.replicas) in
    let ks : List (List ℕ) = flat_map archive_lines (fin.entries S.archives) in
    let one = replicas_read S is limits bs blobs (fin.entries S.replicas) [] section.Nothing 0 refl refl (omega arith) in
    let two = archives_read S is limits bs (kept (kept_of S.replicas)) (fin.entries S.archives) [] one.last (0 + total (fin.entries S.replicas)) refl one.whole (omega arith) in
    let both = Reads-append (above bs [] [] section.Nothing 0) _ _ rs ks one.reads two.reads in
    let all = Reads-append (above (begun v) [] [] section.Nothing 0) (above bs [] [] section.Nothing 0) _ xs (rs ++ ks) begins both in
    let ls : List (List ℕ) = xs ++ (rs ++ ks) in
    let same : version_lines v S ≡ state_header v ∷ ls ++ end_line ∷ [] = ap (λ (y : List (List ℕ)). state_header v ∷ y) (joined xs rs ks (end_line ∷ [])) in
    let ended : list_all (list_all in_line) (state_header v ∷ ls ++ end_line ∷ []) ≡ true =
    and_from _ _ (header_in_line v) (list_all-append (list_all in_line) ls (end_line ∷ []) ∙ and_from _ true all.whole refl) in
    ap (λ (y : List (List ℕ)). state_or_fault (above_end (joined_lines y))) same
    ∙ ap state_or_fault (above_end-joined (state_header v ∷ ls ++ end_line ∷ []) ended ∙ header_reads v ls
    ∙ lines_reading-ended ls 2 (above (begun v) [] [] section.Nothing 0) _ (omega arith) all.says refl (open_whole two.last two.whole))
    ∙ ap Ok (state_kept S bs two.last (0 + total (fin.entries S.replicas) + total (fin.entries S.archives)))

few_blobs : (S : State) → IsReadable S → fin.len (blobs_of (state_files S)) ≤ BLOBS
few_blobs S limits =
    omega (arith, limits.entries, total-is (fin.entries S.replicas), total-is (fin.entries S.archives), length-replicas (fin.entries S.replicas), len-blobs_of (state_files S))

version_two_read : (S : State) → IsState S → IsReadable S → tell_apart (state_files S) ≡ true → state_or_fault (above_end (joined_lines (version_lines Two S))) ≡ Ok S
version_two_read S is limits told =
    let fs : Files = state_files S in
    let B : BlobMap = blobs_of fs in
    let es : Blobs = fin.entries B in
    let writable : AreWritable B = record {
      right = λ d b h. (only-blobs_of fs d b h).0;
      fit = λ d b h. every_among IsFit fs b (files_fit S is limits) (only-blobs_of fs d b h).1;
    } in
    version_read S is limits (Some (onto [] es))
    (λ t m there p bytes h.
    sym (fin.get-from_entries name_cmp-total (onto [] es) (sha256 bytes)) ∙ ap (λ (x : BlobMap). fin.get x (sha256 bytes)) (all_onto name_cmp-total name_cmp-exact B)
    ∙ get-blobs_of fs bytes told (file_among S t m p bytes there h))
    (blobs_read B writable es [] refl (omega (arith, few_blobs S limits, fin.len-entries B)))

pub writes_read : (S : State) → IsState S → IsReadable S → state_reading (state_text S) ≡ Ok S
unfolding state_reading state_text
writes_read S is limits = by (tell_apart (state_files S)) refl
  where
    by : (t : Bool) → tell_apart (state_files S) ≡ t → state_or_fault (above_end (joined_lines (version_lines (cond t Two One) S))) ≡ Ok S
    by true told = version_two_read S is limits told
    by false told = version_read S is limits None (λ t m there. tt) (Reads-none _)

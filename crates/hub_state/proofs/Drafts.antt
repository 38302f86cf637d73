-- A draft has in maps what a reading has in lists.
use Rattle.std.proofs.Common.{◌≡◌, ℕ, suc, ◌+◌, ◌<◌, Bool, true, false, not, ◌||◌, ◌==◌, cond, List, [], ◌∷◌, map, length, refl, sym, ap, ◌∙◌, subst, arith}
use Rattle.std.specs.Prelude.{Option, Some, None, Result, Ok, Err, MatchOption, is_some, unwrap_or, nat_le, nat_lt, bytes_eq}
use Rattle.std.specs.FinMap as fin
use Rattle.std.specs.FinMap.Entries.{find}
use Rattle.std.specs.List.{list_any, before_first, after_first, position_or_len}
use Rattle.std.specs.Ordering.{eq_by_cmp}
use Rattle.std.specs.Str.{is_utf8, IsUtf8}
use Rattle.std.proofs.lemmas.Str.{IsUtf8-from_is_utf8, is_utf8-from_IsUtf8}
use Rattle.std.proofs.lemmas.Bool.Decides.{nat_tests}
use denote.Ref.{Bor}
use Rattle.hub_path.specs.Path.{Path, path_cmp, name_cmp, path_eq, parent}
use Rattle.hub_path.specs.laws.General.{path_cmp-total, name_cmp-total, path_eq-turned}
use Rattle.hub_tree.specs.Tree.{Replica, Archive, contents_at, is_directory}
use Rattle.hub_tree.specs.declared.contents.Contents.{Contents}
use Rattle.hub_tree.specs.declared.contents.Contents.TheVariants as contents
use Rattle.hub_tree.specs.declared.contents.Mark.{Mark}
use Rattle.hub_tree.specs.declared.contents.Mark.TheVariants as mark
use Rattle.hub_tree.specs.laws.Children.{path_eq-cmp}
use Rattle.hub_state.specs.declared.fault.Fault.{Fault}
use Rattle.hub_state.specs.declared.fault.Fault.TheVariants.{BadLine, TooLarge, Repeated, NoParent, WrongDigest}
use Rattle.hub_state.specs.declared.form.Form.{Form}
use Rattle.hub_state.specs.declared.form.Form.TheVariants as form
use Rattle.hub_state.specs.declared.form.Section.{Section}
use Rattle.hub_state.specs.declared.form.Section.TheVariants as section
use Rattle.hub_state.specs.declared.draft.Draft.{Draft}
use Rattle.hub_state.specs.declared.draft.Open.{Open}
use Rattle.hub_state.specs.declared.draft.Open.TheVariants as opened
use Rattle.hub_state.specs.State.{State, Text, root_text, pair_of, replica_at, archive_at}
use Rattle.hub_state.specs.declared.TheConstants.{BLOBS, FILE_BYTES}
use Rattle.hub_state.specs.Reading.{Above, Blobs, Line, line_of, line_reading, with_line_of, with_line, with_replica_begun, with_pair_begun, with_new_entry, with_contents_put, with_blob_named, with_blob_put, with_blob, blob_found, with_file, with_mark_put, has_directory, is_directory_among, may_stand, unless, root_field, path_field, bytes_field, digest_field}
use Rattle.hub_state.specs.Taking.{BlobMap, blob_put, with_blobs, blob_taken, new_contents_put, blob_named_put, file_put, section_of, closed, replica_begun, pair_begun, contents_put, mark_put, with_tree, with_marks, form_taken, line_form_taken, line_taken}
use Rattle.std.proofs.lemmas.Bool.{or_right}
use Rattle.hub_state.proofs.Maps.{same_test}
use Rattle.hub_text.specs.Blanks.{is_space}
use Rattle.hub_text.specs.Fails.{and_then}

abbrev Rows : Type 0
Rows = List (Text × List (Path × Contents))

abbrev OldRows : Type 0
OldRows = List (List Text × List (Path × Mark))

abbrev pub kept_state : List (Text × List (Path × Contents)) → List (List Text × List (Path × Mark)) → State
kept_state rs ks = record {
  replicas = fin.from_entries (map (λ e. (e.0, fin.from_entries e.1)) rs);
  archives = fin.from_entries (map (λ e. (e.0, fin.from_entries e.1)) ks);
}

abbrev pub lists : Option Blobs → List (Text × List (Path × Contents)) → List (List Text × List (Path × Mark)) → Section → ℕ → Bool → Above
lists bs rs ks s n e = record { blobs = bs; replicas = rs; archives = ks; section = s; entries = n; ended = e }

abbrev pub draft : Option BlobMap → State → Open → ℕ → Bool → Draft
draft bm S o n e = record { blobs = bm; state = S; current = o; entries = n; ended = e; near = tt }

-- What the draft has stands in these lists.
abbrev pub HoldsAt : Above → State → Open → ℕ → Bool → Type 0
HoldsAt d S opened.Nothing n e =
    (rs : List (Text × List (Path × Contents))) × (ks : List (List Text × List (Path × Mark)))
    × (d ≡ lists d.blobs rs ks section.Nothing n e) × (S ≡ kept_state rs ks)
HoldsAt d S (opened.Replica r t) n e =
    (rs : List (Text × List (Path × Contents))) × (ks : List (List Text × List (Path × Mark))) × (es : List (Path × Contents))
    × (d ≡ lists d.blobs ((root_text r, es) ∷ rs) ks section.Replica n e) × (t ≡ fin.from_entries es) × (S ≡ kept_state rs ks)
HoldsAt d S (opened.HalfArchive r) n e =
    (rs : List (Text × List (Path × Contents))) × (ks : List (List Text × List (Path × Mark)))
    × (d ≡ lists d.blobs rs ks (section.HalfArchive r) n e) × (S ≡ kept_state rs ks)
HoldsAt d S (opened.Archive r s m) n e =
    (rs : List (Text × List (Path × Contents))) × (ks : List (List Text × List (Path × Mark))) × (es : List (Path × Mark))
    × (d ≡ lists d.blobs rs ((pair_of r s, es) ∷ ks) section.Archive n e) × (m ≡ fin.from_entries es) × (S ≡ kept_state rs ks)

-- Blobs stand in both.
abbrev pub AreBlobs : Option Blobs → Option BlobMap → Type 0
AreBlobs None None = Unit {0}
AreBlobs None (Some m) = ⊥
AreBlobs (Some bs) None = ⊥
AreBlobs (Some bs) (Some m) = (m ≡ fin.from_entries bs) × (fin.len m ≡ length bs)

abbrev pub Holds : Above → Draft → Type 0
Holds d a = HoldsAt d a.state a.current a.entries a.ended × AreBlobs d.blobs a.blobs

pub holds_other_blobs : (d : Above) (S : State) (o : Open) (n : ℕ) (e : Bool) (x : Option Blobs) → HoldsAt d S o n e → HoldsAt (record d { blobs = x }) S o n e
holds_other_blobs d S opened.Nothing n e x h = (h.0, h.1, ap (λ (y : Above). record y { blobs = x }) h.2, h.3)
holds_other_blobs d S (opened.Replica r t) n e x h = (h.0, h.1, h.2, ap (λ (y : Above). record y { blobs = x }) h.3, h.4, h.5)
holds_other_blobs d S (opened.HalfArchive r) n e x h = (h.0, h.1, ap (λ (y : Above). record y { blobs = x }) h.2, h.3)
holds_other_blobs d S (opened.Archive r s m) n e x h = (h.0, h.1, h.2, ap (λ (y : Above). record y { blobs = x }) h.3, h.4, h.5)

-- Both give the same.
abbrev pub AreSame : Result Above Fault → Result Draft Fault → Type 0
AreSame (Ok d) (Ok a) = Holds d a
AreSame (Ok d) (Err f) = ⊥
AreSame (Err f) (Ok a) = ⊥
AreSame (Err f) (Err g) = f ≡ g

pub record Same (x : Result Above Fault) (y : Result Draft Fault) : Type 0 where
  pub same : AreSame x y

same_fault : (f : Fault) → Same (Err f) (Err f)
same_fault f = record { same = refl }

pub same-unless : (b c : Bool) (f : Fault) (x : Result Above Fault) (y : Result Draft Fault) → b ≡ c → Same x y → Same (unless b f x) (unless c f y)
same-unless true c f x y e h = subst (λ (t : Bool). Same (Err f) (unless t f y)) e (same_fault f)
same-unless false c f x y e h = subst (λ (t : Bool). Same x (unless t f y)) e h

same-then : {T : Type 0} (r : Result T Fault) (f : T → Result Above Fault) (g : T → Result Draft Fault) → ((x : T) → Same (f x) (g x)) → Same (and_then r f) (and_then r g)
same-then (Ok x) f g h = h x
same-then (Err e) f g h = same_fault e

same-within : {T U : Type 0} (r : Result T Fault) (f : T → Result Above Fault) (g : T → Result U Fault) (k : U → Result Draft Fault) → ((x : T) → Same (f x) (and_then (g x) k)) → Same (and_then r f) (and_then (and_then r g) k)
same-within (Ok x) f g k h = h x
same-within (Err e) f g k h = same_fault e

same-after : {U : Type 0} (b c : Bool) (e : Fault) (x : Result Above Fault) (y : Result U Fault) (k : U → Result Draft Fault) → b ≡ c → Same x (and_then y k) → Same (unless b e x) (and_then (unless c e y) k)
same-after true c e x y k is h = subst (λ (t : Bool). Same (Err e) (and_then (unless t e y) k)) is (same_fault e)
same-after false c e x y k is h = subst (λ (t : Bool). Same x (and_then (unless t e y) k)) is h

same-else : {U : Type 0} (b c : Bool) (e : Fault) (x : Result Above Fault) (y : Result U Fault) (k : U → Result Draft Fault) → b ≡ c → (c ≡ false → Same x (and_then y k)) → Same (unless b e x) (and_then (unless c e y) k)
same-else true c e x y k is h = subst (λ (t : Bool). Same (Err e) (and_then (unless t e y) k)) is (same_fault e)
same-else false c e x y k is h = subst (λ (t : Bool). Same x (and_then (unless t e y) k)) is (h (sym is))

-- What is open goes into the state.
pub closed_is : (d : Above) (S : State) (o : Open) (n : ℕ) (e : Bool) → HoldsAt d S o n e → closed S o ≡ kept_state d.replicas d.archives
closed_is d S opened.Nothing n e h = h.3 ∙ ap (λ (x : Above). kept_state x.replicas x.archives) (sym h.2)
closed_is d S (opened.Replica r t) n e h =
    ap (λ (m : Replica). closed S (opened.Replica r m)) h.4 ∙ ap (λ (T : State). closed T (opened.Replica r (fin.from_entries h.2))) h.5
    ∙ ap (λ (x : Above). kept_state x.replicas x.archives) (sym h.3)
closed_is d S (opened.HalfArchive r) n e h = h.3 ∙ ap (λ (x : Above). kept_state x.replicas x.archives) (sym h.2)
closed_is d S (opened.Archive r s m) n e h =
    ap (λ (x : Archive). closed S (opened.Archive r s x)) h.4 ∙ ap (λ (T : State). closed T (opened.Archive r s (fin.from_entries h.2))) h.5
    ∙ ap (λ (x : Above). kept_state x.replicas x.archives) (sym h.3)

-- A section that is among them.
some_or : {X : Type 0} (a b : Bool) (v : X) (o : Option X) → a ≡ b → is_some (cond b (Some v) o) ≡ (a || is_some o)
some_or true b v o e = subst (λ (t : Bool). is_some (cond t (Some v) o) ≡ true) e refl
some_or false b v o e = subst (λ (t : Bool). is_some (cond t (Some v) o) ≡ is_some o) e refl

replicas_have : (t : Text) (rs : Rows) → list_any (λ e. bytes_eq e.0 t) rs ≡ is_some (find name_cmp t (map (λ (e : Text × List (Path × Contents)). (e.0, fin.from_entries {R = path_cmp} e.1)) rs))
replicas_have t [] = refl
replicas_have t (r ∷ rs) =
    ap (λ b. bytes_eq r.0 t || b) (replicas_have t rs) ∙ sym (some_or (bytes_eq r.0 t) (eq_by_cmp name_cmp t r.0) (fin.from_entries {R = path_cmp} r.1) _ (same_test r.0 t))

archives_have : (k : List Text) (ks : OldRows) → list_any (λ e. path_eq e.0 k) ks ≡ is_some (find path_cmp k (map (λ (e : List Text × List (Path × Mark)). (e.0, fin.from_entries {R = path_cmp} e.1)) ks))
archives_have k [] = refl
archives_have k (r ∷ ks) =
    ap (λ b. path_eq r.0 k || b) (archives_have k ks)
    ∙ sym (some_or (path_eq r.0 k) (eq_by_cmp path_cmp k r.0) (fin.from_entries {R = path_cmp} r.1) _ (path_eq-turned r.0 k ∙ path_eq-cmp k r.0))

replica_same : (bs : Option Blobs) (bm : Option BlobMap) → AreBlobs bs bm → (rs : Rows) (ks : OldRows) (s : Section) (n : ℕ) (e : Bool) (S : State) (o : Open) → closed S o ≡ kept_state rs ks → (r : Path)
    → Same (with_replica_begun (lists bs rs ks s n e) r) (replica_begun (draft bm S o n e) r)
replica_same bs bm b rs ks s n e S o is r =
    same-unless _ _ Repeated _ _
    (replicas_have (root_text r) rs ∙ sym (ap is_some (fin.get-from_entries name_cmp-total (map (λ e. (e.0, fin.from_entries e.1)) rs) (root_text r)))
    ∙ ap (λ (T : State). is_some (replica_at T r)) (sym is))
    (record { same = ((rs, ks, [], refl, refl, is), b) })

pair_same : (bs : Option Blobs) (bm : Option BlobMap) → AreBlobs bs bm → (rs : Rows) (ks : OldRows) (s : Section) (n : ℕ) (e : Bool) (S : State) (o : Open) → S ≡ kept_state rs ks → (r q : Path)
    → Same (with_pair_begun (lists bs rs ks s n e) r q) (pair_begun (draft bm S o n e) r q)
pair_same bs bm b rs ks s n e S o is r q =
    same-unless _ _ BadLine _ _ refl
    (same-unless _ _ Repeated _ _
    (archives_have (pair_of r q) ks ∙ sym (ap is_some (fin.get-from_entries path_cmp-total (map (λ e. (e.0, fin.from_entries e.1)) ks) (pair_of r q)))
    ∙ ap (λ (T : State). is_some (archive_at T r q)) (sym is))
    (record { same = ((rs, ks, [], refl, refl, is), b) }))

-- An entry.
some_parent : (o : Option Contents) → is_directory_among o ≡ is_directory (unwrap_or o contents.Absent)
some_parent None = refl
some_parent (Some c) = refl

parent_same : (es : List (Path × Contents)) (q : Path) → has_directory es q ≡ is_directory (contents_at (fin.from_entries es) q)
parent_same es [] = refl
parent_same es (n ∷ q) =
    let some : (length (n ∷ q) == 0) ≡ false = grind (arith, nat_tests) in
    ap (λ b. b || is_directory_among (find path_cmp (n ∷ q) es)) some ∙ some_parent (find path_cmp (n ∷ q) es)
    ∙ ap (λ (o : Option Contents). is_directory (unwrap_or o contents.Absent)) (sym (fin.get-from_entries path_cmp-total es (n ∷ q)))

new_same : (bs : Option Blobs) (bm : Option BlobMap) → AreBlobs bs bm → (rs : Rows) (ks : OldRows) (es : List (Path × Contents)) (n : ℕ) (e : Bool) (S : State) (r : Path) (o : Open) → S ≡ kept_state rs ks → (p : Path) (c : Contents)
    → Same (with_new_entry (lists bs ((root_text r, es) ∷ rs) ks section.Replica n e) p c (root_text r, es) rs) (with_tree (draft bm S o n e) r (new_contents_put (fin.from_entries es) p c))
new_same bs bm b rs ks es n e S r o is p c =
    same-after _ _ NoParent _ _ _ (ap not (parent_same es (parent p))) (record { same = ((rs, ks, (p, c) ∷ es, refl, refl, is), b) })

contents_same : (bs : Option Blobs) (bm : Option BlobMap) → AreBlobs bs bm → (rs : Rows) (ks : OldRows) (es : List (Path × Contents)) (n : ℕ) (e : Bool) (S : State) (r : Path) (o : Open) → S ≡ kept_state rs ks → (p : Path) (c : Contents)
    → Same (with_contents_put (lists bs ((root_text r, es) ∷ rs) ks section.Replica n e) p c ((root_text r, es) ∷ rs)) (with_tree (draft bm S o n e) r (contents_put (fin.from_entries es) p c))
contents_same bs bm b rs ks es n e S r o is p c =
    same-after _ _ Repeated _ _ _ (ap is_some (sym (fin.get-from_entries path_cmp-total es p))) (new_same bs bm b rs ks es n e S r o is p c)

-- A file whose blob both have, or neither.
named_same : (bs : Option Blobs) (bm : Option BlobMap) → AreBlobs bs bm → (rs : Rows) (ks : OldRows) (es : List (Path × Contents)) (n : ℕ) (e : Bool) (S : State) (r : Path) (o : Open) → S ≡ kept_state rs ks → (p : Path) (x y : Option (List ℕ)) → x ≡ y
    → Same (with_blob_named (lists bs ((root_text r, es) ∷ rs) ks section.Replica n e) p x ((root_text r, es) ∷ rs)) (with_tree (draft bm S o n e) r (blob_named_put (fin.from_entries es) p y))
named_same bs bm b rs ks es n e S r o is p x y found =
    subst (λ (z : Option (List ℕ)). Same (with_blob_named (lists bs ((root_text r, es) ∷ rs) ks section.Replica n e) p x ((root_text r, es) ∷ rs)) (with_tree (draft bm S o n e) r (blob_named_put (fin.from_entries es) p z))) found
    (same-after _ _ Repeated _ _ _ (ap is_some (sym (fin.get-from_entries path_cmp-total es p)))
    (same-within (blob_found x) _ _ _ (λ bytes. new_same bs bm b rs ks es n e S r o is p (contents.File bytes))))

-- The blob of a digest.
same_blob : (bs : Blobs) (m : BlobMap) → m ≡ fin.from_entries bs → (digest : List ℕ) → find name_cmp digest bs ≡ fin.get m digest
same_blob bs m h digest = sym (ap (λ (x : BlobMap). fin.get x digest) h ∙ fin.get-from_entries name_cmp-total bs digest)

file_same : (bs : Option Blobs) (bm : Option BlobMap) → AreBlobs bs bm → (rs : Rows) (ks : OldRows) (es : List (Path × Contents)) (n : ℕ) (e : Bool) (S : State) (r : Path) (o : Open) → S ≡ kept_state rs ks → (field t : List ℕ)
    → Same (with_file (lists bs ((root_text r, es) ∷ rs) ks section.Replica n e) bs field t) (with_tree (draft bm S o n e) r (file_put bm n (fin.from_entries es) field t))
file_same None None b rs ks es n e S r o is field t =
    same-within (bytes_field field) _ _ _ (λ bytes. same-within (path_field t) _ _ _ (λ p.
    same-after _ _ TooLarge _ _ _ refl (contents_same None None b rs ks es n e S r o is p (contents.File bytes))))
file_same None (Some m) b rs ks es n e S r o is field t = absurd b
file_same (Some bs) None b rs ks es n e S r o is field t = absurd b
file_same (Some bs) (Some m) b rs ks es n e S r o is field t =
    same-within (digest_field field) _ _ _ (λ digest. same-within (path_field t) _ _ _ (λ p.
    same-after _ _ TooLarge _ _ _ refl (named_same (Some bs) (Some m) b rs ks es n e S r o is p _ _ (same_blob bs m b.0 digest))))

-- One more blob.
one_longer : (n k : ℕ) → n ≡ k → n + 1 ≡ suc k
one_longer n k e = omega arith

len-new : (m : BlobMap) (digest bytes : List ℕ) (k : ℕ) → is_some (fin.get m digest) ≡ false → fin.len m ≡ k → fin.len (fin.insert m digest bytes) ≡ suc k
len-new m digest bytes k new h =
    fin.len-insert name_cmp-total m digest bytes ∙ ap (λ t. cond t (fin.len m) (fin.len m + 1)) new ∙ one_longer (fin.len m) k h

blob_put_same : (bs : Blobs) (m : BlobMap) → AreBlobs (Some bs) (Some m) → (d : Above) (a : Draft) → HoldsAt d a.state a.current a.entries a.ended → (digest bytes : List ℕ)
    → Same (with_blob_put d bs digest bytes) (with_blobs a (blob_put m digest bytes))
blob_put_same bs m b d a h digest bytes =
    same-after _ _ TooLarge _ _ _ (ap (λ n. nat_le BLOBS n || nat_lt FILE_BYTES (length bytes)) (sym b.1))
    (same-after _ _ WrongDigest _ _ _ refl
    (same-else _ _ Repeated _ _ _ (ap is_some (same_blob bs m b.0 digest)) (λ new.
    record { same = (holds_other_blobs d a.state a.current a.entries a.ended (Some ((digest, bytes) ∷ bs)) h, (ap (λ (x : BlobMap). fin.insert x digest bytes) b.0, len-new m digest bytes (length bs) new b.1)) })))

blob_same : (bs : Option Blobs) (bm : Option BlobMap) → AreBlobs bs bm → (d : Above) (a : Draft) → HoldsAt d a.state a.current a.entries a.ended → (t : List ℕ) → Same (with_blob d bs t) (blob_taken a bm t)
blob_same None None b d a h t = same_fault BadLine
blob_same None (Some m) b d a h t = absurd b
blob_same (Some bs) None b d a h t = absurd b
blob_same (Some bs) (Some m) b d a h t =
    same-unless _ _ BadLine _ _ refl
    (same-within (digest_field (before_first is_space t)) _ _ _ (λ digest. same-within (bytes_field (after_first is_space t)) _ _ _ (λ bytes. blob_put_same bs m b d a h digest bytes)))

mark_same : (bs : Option Blobs) (bm : Option BlobMap) → AreBlobs bs bm → (rs : Rows) (ks : OldRows) (es : List (Path × Mark)) (n : ℕ) (e : Bool) (S : State) (r q : Path) (o : Open) → S ≡ kept_state rs ks → (p : Path) (c : Mark)
    → Same (with_mark_put (lists bs rs ((pair_of r q, es) ∷ ks) section.Archive n e) p c ((pair_of r q, es) ∷ ks)) (with_marks (draft bm S o n e) r q (mark_put (fin.from_entries es) p c))
mark_same bs bm b rs ks es n e S r q o is p c =
    same-after _ _ Repeated _ _ _ (ap is_some (sym (fin.get-from_entries path_cmp-total es p))) (record { same = ((rs, ks, (p, c) ∷ es, refl, refl, is), b) })

-- A line, by its form, for each section that is open.
form_same-nothing : (bs : Option Blobs) (bm : Option BlobMap) → AreBlobs bs bm → (rs : Rows) (ks : OldRows) (n : ℕ) (e : Bool) (S : State) → S ≡ kept_state rs ks → (f : Form) (t : List ℕ)
    → Same (with_line (lists bs rs ks section.Nothing n e) f t) (form_taken (draft bm S opened.Nothing n e) f t)
form_same-nothing bs bm b rs ks n e S is form.Blob t = blob_same bs bm b (lists bs rs ks section.Nothing n e) (draft bm S opened.Nothing n e) (rs, ks, refl, is) t
form_same-nothing bs bm b rs ks n e S is form.Replica t = same-then (root_field t) _ _ (λ r. replica_same bs bm b rs ks section.Nothing n e S opened.Nothing is r)
form_same-nothing bs bm b rs ks n e S is form.Archive t = same-then (root_field t) _ _ (λ r. record { same = ((rs, ks, refl, is), b) })
form_same-nothing bs bm b rs ks n e S is form.With t = same-then (root_field t) _ _ (λ r. same_fault BadLine)
form_same-nothing bs bm b rs ks n e S is form.Dir t = same-then (path_field t) _ _ (λ p. same_fault BadLine)
form_same-nothing bs bm b rs ks n e S is form.File t = same-unless _ _ BadLine _ _ refl (same_fault BadLine)
form_same-nothing bs bm b rs ks n e S is form.End t = record { same = ((rs, ks, refl, is), b) }

form_same-half : (bs : Option Blobs) (bm : Option BlobMap) → AreBlobs bs bm → (rs : Rows) (ks : OldRows) (n : ℕ) (e : Bool) (S : State) (r : Path) → S ≡ kept_state rs ks → (f : Form) (t : List ℕ)
    → Same (with_line (lists bs rs ks (section.HalfArchive r) n e) f t) (form_taken (draft bm S (opened.HalfArchive r) n e) f t)
form_same-half bs bm b rs ks n e S r is form.Blob t = blob_same bs bm b (lists bs rs ks (section.HalfArchive r) n e) (draft bm S (opened.HalfArchive r) n e) (rs, ks, refl, is) t
form_same-half bs bm b rs ks n e S r is form.Replica t = same-then (root_field t) _ _ (λ q. replica_same bs bm b rs ks (section.HalfArchive r) n e S (opened.HalfArchive r) is q)
form_same-half bs bm b rs ks n e S r is form.Archive t = same-then (root_field t) _ _ (λ q. record { same = ((rs, ks, refl, is), b) })
form_same-half bs bm b rs ks n e S r is form.With t = same-then (root_field t) _ _ (λ q. pair_same bs bm b rs ks (section.HalfArchive r) n e S (opened.HalfArchive r) is r q)
form_same-half bs bm b rs ks n e S r is form.Dir t = same-then (path_field t) _ _ (λ p. same_fault BadLine)
form_same-half bs bm b rs ks n e S r is form.File t = same-unless _ _ BadLine _ _ refl (same_fault BadLine)
form_same-half bs bm b rs ks n e S r is form.End t = record { same = ((rs, ks, refl, is), b) }

form_same-replica : (bs : Option Blobs) (bm : Option BlobMap) → AreBlobs bs bm → (rs : Rows) (ks : OldRows) (es : List (Path × Contents)) (n : ℕ) (e : Bool) (S : State) (r : Path) → S ≡ kept_state rs ks
    → closed S (opened.Replica r (fin.from_entries es)) ≡ kept_state ((root_text r, es) ∷ rs) ks → (f : Form) (t : List ℕ)
    → Same (with_line (lists bs ((root_text r, es) ∷ rs) ks section.Replica n e) f t) (form_taken (draft bm S (opened.Replica r (fin.from_entries es)) n e) f t)
form_same-replica bs bm b rs ks es n e S r is all form.Blob t = blob_same bs bm b (lists bs ((root_text r, es) ∷ rs) ks section.Replica n e) (draft bm S (opened.Replica r (fin.from_entries es)) n e) (rs, ks, es, refl, refl, is) t
form_same-replica bs bm b rs ks es n e S r is all form.Replica t = same-then (root_field t) _ _ (λ q. replica_same bs bm b ((root_text r, es) ∷ rs) ks section.Replica n e S (opened.Replica r (fin.from_entries es)) all q)
form_same-replica bs bm b rs ks es n e S r is all form.Archive t = same-then (root_field t) _ _ (λ q. record { same = (((root_text r, es) ∷ rs, ks, refl, all), b) })
form_same-replica bs bm b rs ks es n e S r is all form.With t = same-then (root_field t) _ _ (λ q. same_fault BadLine)
form_same-replica bs bm b rs ks es n e S r is all form.Dir t =
    same-then (path_field t) _ _ (λ p. same-after _ _ TooLarge _ _ _ refl (contents_same bs bm b rs ks es n e S r (opened.Replica r (fin.from_entries es)) is p contents.Directory))
form_same-replica bs bm b rs ks es n e S r is all form.File t =
    same-unless _ _ BadLine _ _ refl (file_same bs bm b rs ks es n e S r (opened.Replica r (fin.from_entries es)) is (before_first is_space t) (after_first is_space t))
form_same-replica bs bm b rs ks es n e S r is all form.End t = record { same = ((rs, ks, es, refl, refl, is), b) }

form_same-archive : (bs : Option Blobs) (bm : Option BlobMap) → AreBlobs bs bm → (rs : Rows) (ks : OldRows) (es : List (Path × Mark)) (n : ℕ) (e : Bool) (S : State) (r q : Path) → S ≡ kept_state rs ks
    → closed S (opened.Archive r q (fin.from_entries es)) ≡ kept_state rs ((pair_of r q, es) ∷ ks) → (f : Form) (t : List ℕ)
    → Same (with_line (lists bs rs ((pair_of r q, es) ∷ ks) section.Archive n e) f t) (form_taken (draft bm S (opened.Archive r q (fin.from_entries es)) n e) f t)
form_same-archive bs bm b rs ks es n e S r q is all form.Blob t = blob_same bs bm b (lists bs rs ((pair_of r q, es) ∷ ks) section.Archive n e) (draft bm S (opened.Archive r q (fin.from_entries es)) n e) (rs, ks, es, refl, refl, is) t
form_same-archive bs bm b rs ks es n e S r q is all form.Replica t = same-then (root_field t) _ _ (λ p. replica_same bs bm b rs ((pair_of r q, es) ∷ ks) section.Archive n e S (opened.Archive r q (fin.from_entries es)) all p)
form_same-archive bs bm b rs ks es n e S r q is all form.Archive t = same-then (root_field t) _ _ (λ p. record { same = ((rs, (pair_of r q, es) ∷ ks, refl, all), b) })
form_same-archive bs bm b rs ks es n e S r q is all form.With t = same-then (root_field t) _ _ (λ p. same_fault BadLine)
form_same-archive bs bm b rs ks es n e S r q is all form.Dir t =
    same-then (path_field t) _ _ (λ p. same-after _ _ TooLarge _ _ _ refl (mark_same bs bm b rs ks es n e S r q (opened.Archive r q (fin.from_entries es)) is p mark.Directory))
form_same-archive bs bm b rs ks es n e S r q is all form.File t =
    same-unless _ _ BadLine _ _ refl
    (same-within (digest_field (before_first is_space t)) _ _ _ (λ digest. same-within (path_field (after_first is_space t)) _ _ _ (λ p.
    same-after _ _ TooLarge _ _ _ refl (mark_same bs bm b rs ks es n e S r q (opened.Archive r q (fin.from_entries es)) is p (mark.File digest)))))
form_same-archive bs bm b rs ks es n e S r q is all form.End t = record { same = ((rs, ks, es, refl, refl, is), b) }

form_same : (d : Above) (bm : Option BlobMap) (S : State) (o : Open) (n : ℕ) (e : Bool) → HoldsAt d S o n e → AreBlobs d.blobs bm → (f : Form) (t : List ℕ) → Same (with_line d f t) (form_taken (draft bm S o n e) f t)
form_same d bm S opened.Nothing n e h b f t =
    subst (λ (x : Above). Same (with_line x f t) (form_taken (draft bm S opened.Nothing n e) f t)) (sym h.2) (form_same-nothing d.blobs bm b h.0 h.1 n e S h.3 f t)
form_same d bm S (opened.HalfArchive r) n e h b f t =
    subst (λ (x : Above). Same (with_line x f t) (form_taken (draft bm S (opened.HalfArchive r) n e) f t)) (sym h.2) (form_same-half d.blobs bm b h.0 h.1 n e S r h.3 f t)
form_same d bm S (opened.Replica r m) n e h b f t =
    let all = closed_is (lists d.blobs ((root_text r, h.2) ∷ h.0) h.1 section.Replica n e) S (opened.Replica r (fin.from_entries h.2)) n e (h.0, h.1, h.2, refl, refl, h.5) in
    subst (λ (x : Above). Same (with_line x f t) (form_taken (draft bm S (opened.Replica r m) n e) f t)) (sym h.3)
    (subst (λ (x : Replica). Same (with_line (lists d.blobs ((root_text r, h.2) ∷ h.0) h.1 section.Replica n e) f t) (form_taken (draft bm S (opened.Replica r x) n e) f t)) (sym h.4)
    (form_same-replica d.blobs bm b h.0 h.1 h.2 n e S r h.5 all f t))
form_same d bm S (opened.Archive r q m) n e h b f t =
    let all = closed_is (lists d.blobs h.0 ((pair_of r q, h.2) ∷ h.1) section.Archive n e) S (opened.Archive r q (fin.from_entries h.2)) n e (h.0, h.1, h.2, refl, refl, h.5) in
    subst (λ (x : Above). Same (with_line x f t) (form_taken (draft bm S (opened.Archive r q m) n e) f t)) (sym h.3)
    (subst (λ (x : Archive). Same (with_line (lists d.blobs h.0 ((pair_of r q, h.2) ∷ h.1) section.Archive n e) f t) (form_taken (draft bm S (opened.Archive r q x) n e) f t)) (sym h.4)
    (form_same-archive d.blobs bm b h.0 h.1 h.2 n e S r q h.5 all f t))

section_is : (d : Above) (S : State) (o : Open) (n : ℕ) (e : Bool) → HoldsAt d S o n e → (d.section ≡ section_of o) × (d.ended ≡ e)
section_is d S opened.Nothing n e h = (ap (λ (x : Above). x.section) h.2, ap (λ (x : Above). x.ended) h.2)
section_is d S (opened.Replica r m) n e h = (ap (λ (x : Above). x.section) h.3, ap (λ (x : Above). x.ended) h.3)
section_is d S (opened.HalfArchive r) n e h = (ap (λ (x : Above). x.section) h.2, ap (λ (x : Above). x.ended) h.2)
section_is d S (opened.Archive r q m) n e h = (ap (λ (x : Above). x.section) h.3, ap (λ (x : Above). x.ended) h.3)

pub ended_is : (d : Above) (a : Draft) → Holds d a → d.ended ≡ a.ended
ended_is d a h = (section_is d a.state a.current a.entries a.ended h.0).1

-- A line adds the same to both.
pub line_same : (d : Above) (a : Draft) → Holds d a → (l : List ℕ) → Same (line_reading d l) (line_taken a l)
line_same d a h l = by_text (is_utf8 l)
  where
    by_form : (o : Option Line) → Same (with_line_of d o) (line_form_taken a o)
    by_form None = same_fault BadLine
    by_form (Some x) =
        let is = section_is d a.state a.current a.entries a.ended h.0 in
        same-unless _ _ BadLine _ _ (ap (λ b. b || not (may_stand d.section x.form)) is.1 ∙ ap (λ (s : Section). a.ended || not (may_stand s x.form)) is.0)
        (form_same d a.blobs a.state a.current a.entries a.ended h.0 h.1 x.form x.rest)

    by_text : (b : Bool) → Same (cond b (with_line_of d (line_of l)) (Err BadLine)) (cond b (line_form_taken a (line_of l)) (Err BadLine))
    by_text true = by_form (line_of l)
    by_text false = same_fault BadLine

-- A line that is text, and one that isn't.
pub line_taken-text : (a : Draft) (l s : List ℕ) (f : Form) (rest : List ℕ) → s ≡ l → IsUtf8 l → line_of s ≡ Some (record { form = f; rest = rest }) → a.ended ≡ false → may_stand (section_of a.current) f ≡ true
    → line_taken a l ≡ form_taken a f rest
line_taken-text a l s f rest same text is going stands =
    let here : line_of l ≡ Some (record { form = f; rest = rest }) = ap line_of (sym same) ∙ is in
    rw (is_utf8-from_IsUtf8 l text, here, going, stands) refl

pub line_taken-refused : (a : Draft) (l s : List ℕ) (f : Form) (rest : List ℕ) → s ≡ l → IsUtf8 l → line_of s ≡ Some (record { form = f; rest = rest }) → (a.ended || not (may_stand (section_of a.current) f)) ≡ true
    → line_taken a l ≡ Err BadLine
line_taken-refused a l s f rest same text is refused =
    let here : line_of l ≡ Some (record { form = f; rest = rest }) = ap line_of (sym same) ∙ is in
    rw (is_utf8-from_IsUtf8 l text, here, refused) refl

pub line_taken-ended : (a : Draft) (l s : List ℕ) (f : Form) (rest : List ℕ) → s ≡ l → IsUtf8 l → line_of s ≡ Some (record { form = f; rest = rest }) → a.ended ≡ true → line_taken a l ≡ Err BadLine
line_taken-ended a l s f rest same text is e =
    line_taken-refused a l s f rest same text is (ap (λ b. b || not (may_stand (section_of a.current) f)) e)

pub line_taken-misplaced : (a : Draft) (l s : List ℕ) (f : Form) (rest : List ℕ) → s ≡ l → IsUtf8 l → line_of s ≡ Some (record { form = f; rest = rest }) → may_stand (section_of a.current) f ≡ false → line_taken a l ≡ Err BadLine
line_taken-misplaced a l s f rest same text is e =
    line_taken-refused a l s f rest same text is (ap (λ b. a.ended || not b) e ∙ or_right a.ended true refl)

pub line_taken-bytes : (a : Draft) (l : List ℕ) → (IsUtf8 l → ⊥) → line_taken a l ≡ Err BadLine
line_taken-bytes a l h = by (is_utf8 l) refl
  where
    by : (b : Bool) → is_utf8 l ≡ b → cond b (line_form_taken a (line_of l)) (Err BadLine) ≡ Err BadLine
    by true e = absurd (h (IsUtf8-from_is_utf8 l e))
    by false e = refl

-- The fields of a line.
later : (k n : ℕ) → nat_lt k n ≡ nat_lt (1 + k) (suc n)
later k n = grind (arith, nat_tests)

some_more : (n : ℕ) → true ≡ nat_lt 0 (suc n)
some_more n = grind (arith, nat_tests)

any_at_place : (p : ℕ → Bool) (xs : List ℕ) → list_any p xs ≡ nat_lt (position_or_len p xs) (length xs)
any_at_place p [] = refl
any_at_place p (x ∷ xs) = by (p x) (any_at_place p xs)
  where
    by : (b : Bool) → list_any p xs ≡ nat_lt (position_or_len p xs) (length xs) → (b || list_any p xs) ≡ nat_lt (cond (not b) (1 + position_or_len p xs) 0) (suc (length xs))
    by true h = some_more (length xs)
    by false h = h ∙ later (position_or_len p xs) (length xs)

pub fields_from : (bs : List ℕ) (r : Option (Bor (List ℕ) × Bor (List ℕ)))
    → MatchOption r (position_or_len is_space bs ≡ length bs)
    (λ x. (position_or_len is_space bs < length bs) × (x.0.now ≡ before_first is_space bs) × (x.1.now ≡ after_first is_space bs))
    → MatchOption r (list_any is_space bs ≡ false)
    (λ x. (list_any is_space bs ≡ true) × (x.0.now ≡ before_first is_space bs) × (x.1.now ≡ after_first is_space bs))
fields_from bs None h = let none : nat_lt (position_or_len is_space bs) (length bs) ≡ false = grind (arith, nat_tests) in any_at_place is_space bs ∙ none
fields_from bs (Some x) h =
    let there = h.0 in
    let some : nat_lt (position_or_len is_space bs) (length bs) ≡ true = grind (arith, nat_tests) in (any_at_place is_space bs ∙ some, h.1, h.2)

-- The files of a state, and the blobs that they name.
use Rattle.std.proofs.Common.{◌≡◌, ◌⊎◌, inl, inr, ⊎_elim, ℕ, suc, ◌+◌, ◌≤◌, Bool, true, false, not, ◌||◌, cond, List, [], ◌∷◌, ◌++◌, map, length, String, Option, Some, None, refl, sym, ap, ◌∙◌, subst, arith, append-nil, append_assoc, length-append}
use Rattle.std.specs.Prelude.{bytes_eq, is_some}
use Rattle.std.specs.FinMap as fin
use Rattle.std.specs.FinMap.Entries.{find}
use Rattle.std.specs.List.{flat_map, list_all}
use Rattle.std.specs.Cmp.{IsTotalOrder, eq_by_cmp_equiv}
use Rattle.std.specs.Ordering.{eq_by_cmp}
use Rattle.std.specs.declared.cmp.Ordering.{Ordering}
use Rattle.std.proofs.lemmas.Bool.{and_parts, and_from, false≢true}
use Rattle.std.proofs.lemmas.List.Concat.{flat_map-append}
use Rattle.std.proofs.lemmas.Slice.Eq.{bytes_eq-Decides}
use Rattle.sha2.specs.Sha256.{sha256}
use Rattle.hub_text.specs.laws.List.{no-items}
use Rattle.hub_path.specs.Path.{Path, name_cmp}
use Rattle.hub_path.specs.laws.General.{name_cmp-total, name_cmp-exact}
use Rattle.hub_tree.specs.Tree.{Replica}
use Rattle.hub_tree.specs.declared.contents.Contents.{Contents}
use Rattle.hub_tree.specs.declared.contents.Contents.TheVariants as contents
use Rattle.hub_tree.specs.laws.Order.{same_name, name_itself}
use Rattle.hub_state.specs.declared.form.Version.TheVariants.{One, Two}
use Rattle.hub_state.specs.Taking.{BlobMap}
use Rattle.hub_state.specs.forms.Adding.{added_to, file_added, files_added}
use Rattle.hub_state.specs.View.{by_text}
use Rattle.hub_state.specs.Writing.{contents_files, replica_files, blob_of, blobs_of, tell_apart, version_of}
use Rattle.hub_state.proofs.Kept.{back}
use Rattle.hub_state.proofs.Sections.{there_in}

abbrev pub Files : Type 0
Files = List (List ℕ)

-- A file is among others.
abbrev pub Among : List ℕ → List (List ℕ) → Type 0
Among b [] = ⊥
Among b (f ∷ fs) = (b ≡ f) ⊎ Among b fs

among_left : (b : List ℕ) (fs gs : Files) → Among b fs → Among b (fs ++ gs)
among_left b [] gs h = absurd h
among_left b (f ∷ fs) gs (inl e) = inl e
among_left b (f ∷ fs) gs (inr h) = inr (among_left b fs gs h)

among_right : (b : List ℕ) (fs gs : Files) → Among b gs → Among b (fs ++ gs)
among_right b [] gs h = h
among_right b (f ∷ fs) gs h = inr (among_right b fs gs h)

among_pushed : (b f : List ℕ) (fs : Files) → Among b (fs ++ f ∷ []) → Among b fs ⊎ (b ≡ f)
among_pushed b f [] (inl e) = inr e
among_pushed b f [] (inr h) = absurd h
among_pushed b f (g ∷ fs) (inl e) = inl (inl e)
among_pushed b f (g ∷ fs) (inr h) = ⊎_elim (λ k. inl (inr k)) inr (among_pushed b f fs h)

-- What holds of each file.
abbrev pub Every : (List ℕ → Type 0) → List (List ℕ) → Type 0
Every P [] = Unit {0}
Every P (f ∷ fs) = P f × Every P fs

every-append : (P : List ℕ → Type 0) (fs gs : Files) → Every P fs → Every P gs → Every P (fs ++ gs)
every-append P [] gs h k = k
every-append P (f ∷ fs) gs h k = (h.0, every-append P fs gs h.1 k)

pub every_among : (P : List ℕ → Type 0) (fs : Files) (b : List ℕ) → Every P fs → Among b fs → P b
every_among P [] b h k = absurd k
every_among P (f ∷ fs) b h (inl e) = subst P (sym e) h.0
every_among P (f ∷ fs) b h (inr k) = every_among P fs b h.1 k

-- The files of the values of a map.
from_found : {X : Type 0} (c : Bool) (v x : X) (o : Option X) (A B : Type 0) → cond c (Some v) o ≡ Some x → (v ≡ x → A) → (o ≡ Some x → B) → A ⊎ B
from_found true v x o A B e f g = inl (f (cc))
from_found false v x o A B e f g = inr (g e)

pub found_among : {K X : Type 0} (R : K → K → Ordering) (f : X → List (List ℕ)) (k : K) (x : X) (b : List ℕ) (es : List (K × X)) → find R k es ≡ Some x → Among b (f x)
    → Among b (flat_map (λ (e : K × X). f e.1) es)
found_among R f k x b [] e h = cc
found_among {X = X} R f k x b (y ∷ es) e h =
    ⊎_elim (λ k. k) (λ k. k)
    (from_found (eq_by_cmp R k y.0) y.1 x (find R k es) _ _ e
    (λ same. among_left b (f y.1) _ (subst (λ (v : X). Among b (f v)) (sym same) h))
    (λ more. among_right b (f y.1) _ (found_among R f k x b es more h)))

pub every_value : {K X : Type 0} {R : K → K → Ordering} (o : IsTotalOrder R) (m : fin.FinMap R X) (f : X → List (List ℕ)) (P : List ℕ → Type 0) → ((k : K) (x : X) → fin.get m k ≡ Some x → Every P (f x))
    → (es acc : List (K × X)) → back acc es ≡ fin.entries m → Every P (flat_map (λ (e : K × X). f e.1) es)
every_value o m f P h [] acc is = tt
every_value o m f P h (e ∷ es) acc is =
    every-append P (f e.1) _ (h e.0 e.1 (there_in o m acc e es is)) (every_value o m f P h es (e ∷ acc) is)

-- How many they are.
length-contents_files : (c : Contents) → length (contents_files c) ≤ 1
length-contents_files (contents.File bytes) = omega arith
length-contents_files contents.Directory = omega arith
length-contents_files contents.Absent = omega arith

pub length-files : (es : List (Path × Contents)) → length (flat_map (λ (e : Path × Contents). contents_files e.1) es) ≤ length es
length-files [] = omega arith
length-files (e ∷ es) =
    omega (arith, length-files es, length-contents_files e.1, length-append (contents_files e.1) (flat_map (λ (e : Path × Contents). contents_files e.1) es))

one_more : (c : Bool) (n : ℕ) → cond c n (n + 1) ≤ suc n
one_more true n = omega arith
one_more false n = omega arith

pub len-blobs_of : (fs : Files) → fin.len (blobs_of fs) ≤ length fs
len-blobs_of [] = omega (arith, fin.len-empty name_cmp (List ℕ))
len-blobs_of (f ∷ fs) =
    let m : BlobMap = blobs_of fs in
    omega (arith, len-blobs_of fs, fin.len-insert name_cmp-total m (sha256 f) f, one_more (is_some (fin.get m (sha256 f))) (fin.len m))

-- Files that are told apart by their digests.
same_bytes : (a b : List ℕ) → bytes_eq a b ≡ true → a ≡ b
same_bytes a b e = (bytes_eq-Decides a b).0 e

bytes_same : (a b : List ℕ) → a ≡ b → bytes_eq a b ≡ true
bytes_same a b e = (bytes_eq-Decides a b).1 e

all_among : (p : List ℕ → Bool) (fs : Files) (a : List ℕ) → list_all p fs ≡ true → Among a fs → p a ≡ true
all_among p [] a h k = absurd k
all_among p (f ∷ fs) a h (inl e) = ap p e ∙ (and_parts (p f) (list_all p fs) h).0
all_among p (f ∷ fs) a h (inr k) = all_among p fs a (and_parts (p f) (list_all p fs) h).1 k

all_from : (p : List ℕ → Bool) (fs : Files) → ((a : List ℕ) → Among a fs → p a ≡ true) → list_all p fs ≡ true
all_from p [] h = refl
all_from p (f ∷ fs) h = and_from (p f) (list_all p fs) (h f (inl refl)) (all_from p fs (λ a k. h a (inr k)))

if_first : (a b : Bool) → (not a || b) ≡ true → a ≡ true → b ≡ true
if_first true b h e = h
if_first false b h e = absurd (false≢true e)

first_or : (a b : Bool) → (a ≡ true → b ≡ true) → (not a || b) ≡ true
first_or true b h = h refl
first_or false b h = refl

pub told_apart : (fs : Files) (a b : List ℕ) → tell_apart fs ≡ true → Among a fs → Among b fs → sha256 a ≡ sha256 b → a ≡ b
told_apart fs a b told here there same =
    let first = all_among (λ x. list_all (λ y. not (bytes_eq (sha256 x) (sha256 y)) || bytes_eq x y) fs) fs a told here in
    let both = all_among (λ y. not (bytes_eq (sha256 a) (sha256 y)) || bytes_eq a y) fs b first there in
    same_bytes a b (if_first (bytes_eq (sha256 a) (sha256 b)) (bytes_eq a b) both (bytes_same (sha256 a) (sha256 b) same))

tell_true : (fs : Files) → ((a b : List ℕ) → Among a fs → Among b fs → sha256 a ≡ sha256 b → a ≡ b) → tell_apart fs ≡ true
tell_true fs h =
    all_from _ fs (λ a here. all_from _ fs (λ b there.
    first_or (bytes_eq (sha256 a) (sha256 b)) (bytes_eq a b) (λ e. bytes_same a b (h a b here there (same_bytes (sha256 a) (sha256 b) e)))))

tell_false : (fs : Files) (a b : List ℕ) → Among a fs → Among b fs → sha256 a ≡ sha256 b → bytes_eq a b ≡ false → tell_apart fs ≡ false
tell_false fs a b here there same other = by (tell_apart fs) refl
  where
    by : (t : Bool) → tell_apart fs ≡ t → t ≡ false
    by false e = refl
    by true e = absurd (false≢true (sym other ∙ bytes_same a b (told_apart fs a b e here there same)))

-- The blobs of files are found by their digests.
pub only_blobs : (fs : Files) (d c : List ℕ) → find name_cmp d (map blob_of fs) ≡ Some c → (d ≡ sha256 c) × Among c fs
only_blobs [] d c e = cc
only_blobs (f ∷ fs) d c e = by (only_blobs fs d c) (eq_by_cmp name_cmp d (sha256 f)) refl e
  where
    by : (find name_cmp d (map blob_of fs) ≡ Some c → (d ≡ sha256 c) × Among c fs) → (t : Bool) → eq_by_cmp name_cmp d (sha256 f) ≡ t → cond t (Some f) (find name_cmp d (map blob_of fs)) ≡ Some c → (d ≡ sha256 c) × ((c ≡ f) ⊎ Among c fs)
    by below true t is = let same : f ≡ c = cc in (same_name d (sha256 f) t ∙ ap sha256 same, inl (sym same))
    by below false t is = let more = below is in (more.0, inr more.1)

record Found (fs : Files) (b c : List ℕ) : Type 0 where
  found : find name_cmp (sha256 b) (map blob_of fs) ≡ Some c
  among : Among c fs
  same : sha256 c ≡ sha256 b

found_blob : (fs : Files) (b : List ℕ) → Among b fs → (c : List ℕ) × Found fs b c
found_blob [] b h = absurd h
found_blob (f ∷ fs) b h = by (found_blob fs b) (eq_by_cmp name_cmp (sha256 b) (sha256 f)) refl h
  where
    by : (Among b fs → (c : List ℕ) × Found fs b c) → (t : Bool) → eq_by_cmp name_cmp (sha256 b) (sha256 f) ≡ t → (b ≡ f) ⊎ Among b fs → (c : List ℕ) × Found (f ∷ fs) b c
    by below true t k = (
      f,
      record {
        found = ap (λ x. cond x (Some f) (find name_cmp (sha256 b) (map blob_of fs))) t;
        among = inl refl;
        same = sym (same_name (sha256 b) (sha256 f) t);
      },
    )
    by below false t (inl e) = absurd (false≢true (sym t ∙ ap (λ x. eq_by_cmp name_cmp (sha256 b) (sha256 x)) (sym e) ∙ name_itself (sha256 b)))
    by below false t (inr k) =
        let more = below k in (
          more.0,
          record {
            found = ap (λ x. cond x (Some f) (find name_cmp (sha256 b) (map blob_of fs))) t ∙ more.1.found;
            among = inr more.1.among;
            same = more.1.same;
          },
        )

pub get-blobs_of : (fs : Files) (b : List ℕ) → tell_apart fs ≡ true → Among b fs → fin.get (blobs_of fs) (sha256 b) ≡ Some b
get-blobs_of fs b told h =
    let w = found_blob fs b h in
    fin.get-from_entries name_cmp-total (map blob_of fs) (sha256 b) ∙ w.1.found ∙ ap Some (told_apart fs w.0 b told w.1.among h w.1.same)

pub only-blobs_of : (fs : Files) (d c : List ℕ) → fin.get (blobs_of fs) d ≡ Some c → (d ≡ sha256 c) × Among c fs
only-blobs_of fs d c e = only_blobs fs d c (sym (fin.get-from_entries name_cmp-total (map blob_of fs) d) ∙ e)

-- Blobs that were collected file by file.
record Collects (done : Files) (m : BlobMap) : Type 0 where
  all : (b : List ℕ) → Among b done → fin.get m (sha256 b) ≡ Some b
  only : (d c : List ℕ) → fin.get m d ≡ Some c → (d ≡ sha256 c) × Among c done

collects-apart : (done : Files) (m : BlobMap) → Collects done m → tell_apart done ≡ true
collects-apart done m h =
    tell_true done (λ a b here there same.
    let e : Some a ≡ Some b = sym (h.all a here) ∙ ap (fin.get m) same ∙ h.all b there in cc)

same_option : (x y : Option (List ℕ)) → ((c : List ℕ) → x ≡ Some c → y ≡ Some c) → ((c : List ℕ) → y ≡ Some c → x ≡ Some c) → x ≡ y
same_option None None f g = refl
same_option None (Some c) f g = g c refl
same_option (Some c) y f g = sym (f c refl)

collects-map : (done : Files) (m : BlobMap) → Collects done m → m ≡ blobs_of done
collects-map done m h =
    fin.same_map name_cmp-total name_cmp-exact m (blobs_of done) (λ d. same_option (fin.get m d) (fin.get (blobs_of done) d)
    (λ c e.
    let w = h.only d c e in
    ap (fin.get (blobs_of done)) w.0 ∙ get-blobs_of done c (collects-apart done m h) w.1)
    (λ c e.
    let w = only-blobs_of done d c e in
    ap (fin.get m) w.0 ∙ h.all c w.1))

collects-none : Collects [] fin.empty
collects-none = record {
  all = λ b h. absurd h;
  only = λ d c e. let n : None ≡ Some c = sym (fin.get-empty name_cmp d) ∙ e in cc;
}

collects-known : (done : Files) (m : BlobMap) (f : List ℕ) → Collects done m → fin.get m (sha256 f) ≡ Some f → Collects (done ++ f ∷ []) m
collects-known done m f h known = record {
  all = λ b k. ⊎_elim (λ g. h.all b g) (λ e. ap (λ x. fin.get m (sha256 x)) e ∙ known ∙ ap Some (sym e)) (among_pushed b f done k);
  only = λ d c e. let w = h.only d c e in (w.0, among_left c done (f ∷ []) w.1);
}

collects-new : (done : Files) (m : BlobMap) (f : List ℕ) → Collects done m → fin.get m (sha256 f) ≡ None → Collects (done ++ f ∷ []) (fin.insert m (sha256 f) f)
collects-new done m f h new = record {
  all = λ b k. fin.get-insert name_cmp-total m (sha256 f) f (sha256 b)
      ∙ ⊎_elim (λ g. old b (h.all b g) (eq_by_cmp name_cmp (sha256 b) (sha256 f)) refl)
      (λ e. ap (λ x. cond (eq_by_cmp name_cmp (sha256 x) (sha256 f)) (Some f) (fin.get m (sha256 x))) e ∙ ap (λ t. cond t (Some f) (fin.get m (sha256 f))) (name_itself (sha256 f)) ∙ ap Some (sym e))
      (among_pushed b f done k);
  only = λ d c e. from d c (eq_by_cmp name_cmp d (sha256 f)) refl (sym (fin.get-insert name_cmp-total m (sha256 f) f d) ∙ e);
}
  where
    old : (b : List ℕ) → fin.get m (sha256 b) ≡ Some b → (t : Bool) → eq_by_cmp name_cmp (sha256 b) (sha256 f) ≡ t → cond t (Some f) (fin.get m (sha256 b)) ≡ Some b
    old b there true t = let n : None ≡ Some b = sym new ∙ ap (fin.get m) (sym (same_name (sha256 b) (sha256 f) t)) ∙ there in cc
    old b there false t = there

    from : (d c : List ℕ) (t : Bool) → eq_by_cmp name_cmp d (sha256 f) ≡ t → cond t (Some f) (fin.get m d) ≡ Some c → (d ≡ sha256 c) × Among c (done ++ f ∷ [])
    from d c true t e = let same : f ≡ c = cc in (same_name d (sha256 f) t ∙ ap sha256 same, among_right c done (f ∷ []) (inl (sym same)))
    from d c false t e = let w = h.only d c e in (w.0, among_left c done (f ∷ []) w.1)

pub files_added-none : (fs : Files) → files_added None fs ≡ None
files_added-none [] = refl
files_added-none (f ∷ fs) = refl

pub files_added-append : (o : Option BlobMap) (fs gs : Files) → files_added o (fs ++ gs) ≡ files_added (files_added o fs) gs
files_added-append o [] gs = refl
files_added-append None (f ∷ fs) gs = sym (files_added-none gs)
files_added-append (Some m) (f ∷ fs) gs = files_added-append (file_added m f) fs gs

abbrev Whole : Files → Option BlobMap
Whole fs = cond (tell_apart fs) (Some (blobs_of fs)) None

collected : (fs done : Files) (m : BlobMap) → Collects done m → files_added (Some m) fs ≡ Whole (done ++ fs)
collected [] done m h =
    ap Some (collects-map done m h) ∙ sym (ap (λ t. cond t (Some (blobs_of done)) None) (collects-apart done m h)) ∙ ap Whole (sym (append-nil done))
collected (f ∷ fs) done m h = by (λ d k g. collected fs d k g) (fin.get m (sha256 f)) refl
  where
    later : ((d : Files) (k : BlobMap) → Collects d k → files_added (Some k) fs ≡ Whole (d ++ fs)) → (k : BlobMap) → Collects (done ++ f ∷ []) k → files_added (Some k) fs ≡ Whole (done ++ f ∷ fs)
    later below k g = below (done ++ f ∷ []) k g ∙ ap Whole (append_assoc done (f ∷ []) fs)

    by_bytes : ((d : Files) (k : BlobMap) → Collects d k → files_added (Some k) fs ≡ Whole (d ++ fs)) → (c : List ℕ) → fin.get m (sha256 f) ≡ Some c → (t : Bool) → bytes_eq c f ≡ t → files_added (cond t (Some m) None) fs ≡ Whole (done ++ f ∷ fs)
    by_bytes below c e true t = later below m (collects-known done m f h (e ∙ ap Some (same_bytes c f t)))
    by_bytes below c e false t =
        let w = h.only (sha256 f) c e in
        files_added-none fs
        ∙ sym (ap (λ b. cond b (Some (blobs_of (done ++ f ∷ fs))) None)
        (tell_false (done ++ f ∷ fs) c f (among_left c done (f ∷ fs) w.1) (among_right f done (f ∷ fs) (inl refl)) (sym w.0) t))

    by : ((d : Files) (k : BlobMap) → Collects d k → files_added (Some k) fs ≡ Whole (d ++ fs)) → (o : Option (List ℕ)) → fin.get m (sha256 f) ≡ o → files_added (added_to o m f) fs ≡ Whole (done ++ f ∷ fs)
    by below None e = later below (fin.insert m (sha256 f) f) (collects-new done m f h e)
    by below (Some c) e = by_bytes below c e (bytes_eq c f) refl

-- What is collected of all files.
pub files_added-all : (fs : Files) → files_added (Some fin.empty) fs ≡ cond (tell_apart fs) (Some (blobs_of fs)) None
files_added-all fs = collected fs [] fin.empty collects-none

-- Blobs that were changed at one digest.
pub changed_blobs : (es fs : List (List ℕ × List ℕ)) (m : BlobMap) (d b : List ℕ) → fin.from_entries es ≡ m → ((q : List ℕ) → find name_cmp q fs ≡ cond (eq_by_cmp name_cmp d q) (Some b) (find name_cmp q es)) → fin.from_entries fs ≡ fin.insert m d b
changed_blobs es fs m d b v h =
    fin.same_map name_cmp-total name_cmp-exact _ _ (λ q.
    fin.get-from_entries name_cmp-total fs q ∙ h q ∙ ap (λ t. cond t (Some b) (find name_cmp q es)) ((eq_by_cmp_equiv name_cmp-total).symm d q)
    ∙ ap (cond (eq_by_cmp name_cmp q d) (Some b)) (sym (fin.get-from_entries name_cmp-total es q) ∙ ap (λ (x : BlobMap). fin.get x q) v)
    ∙ sym (fin.get-insert name_cmp-total m d b q))

-- The files of one more entry.
files_more : {X : Type 0} (f : X → List (List ℕ)) (m k : BlobMap) (es : List X) (x : X) (o : Option BlobMap) → Some k ≡ files_added (Some m) (flat_map f es) → o ≡ files_added (Some k) (f x)
    → o ≡ files_added (Some m) (flat_map f (es ++ x ∷ []))
files_more f m k es x o before one =
    one ∙ ap (λ (r : Option BlobMap). files_added r (f x)) before ∙ sym (files_added-append (Some m) (flat_map f es) (f x))
    ∙ ap (files_added (Some m)) (sym (flat_map-append f es (x ∷ []) ∙ ap (λ gs. flat_map f es ++ gs) (append-nil (f x))))

files_stop : {X : Type 0} (f : X → List (List ℕ)) (m k : BlobMap) (es : List X) (x : X) (rest all : List X) → Some k ≡ files_added (Some m) (flat_map f es) → None ≡ files_added (Some k) (f x) → es ++ x ∷ rest ≡ all
    → None ≡ files_added (Some m) (flat_map f all)
files_stop f m k es x rest all before one is =
    sym (files_added-none (flat_map f rest)) ∙ ap (λ (r : Option BlobMap). files_added r (flat_map f rest)) (files_more f m k es x None before one)
    ∙ sym (files_added-append (Some m) (flat_map f (es ++ x ∷ [])) (flat_map f rest))
    ∙ ap (files_added (Some m)) (sym (flat_map-append f (es ++ x ∷ []) rest))
    ∙ ap (λ ys. files_added (Some m) (flat_map f ys)) (append_assoc es (x ∷ []) rest ∙ is)

-- The files of replicas under any keys.
abbrev pub tree_files : {K : Type 0} → K × Replica → List (List ℕ)
tree_files e = flat_map (λ (x : Path × Contents). contents_files x.1) (fin.entries e.1)

pub files-by_text : {Z : Type 0} (es : List (String Z × Replica)) → flat_map replica_files (by_text es) ≡ flat_map tree_files es
files-by_text [] = refl
files-by_text (e ∷ es) = ap (λ fs. tree_files e ++ fs) (files-by_text es)

-- What the blobs of files say of the version.
pub told_none : (fs : List (List ℕ)) → None ≡ files_added (Some fin.empty) fs → version_of fs ≡ One
told_none fs e = by (tell_apart fs) (e ∙ files_added-all fs)
  where
    by : (t : Bool) → None ≡ cond t (Some (blobs_of fs)) None → cond t Two One ≡ One
    by true k = cc
    by false k = refl

pub told_some : (fs : List (List ℕ)) (B : BlobMap) → Some B ≡ files_added (Some fin.empty) fs → (version_of fs ≡ Two) × (B ≡ blobs_of fs)
told_some fs B e = by (tell_apart fs) (e ∙ files_added-all fs)
  where
    by : (t : Bool) → Some B ≡ cond t (Some (blobs_of fs)) None → (cond t Two One ≡ Two) × (B ≡ blobs_of fs)
    by true k = (refl, (cc))
    by false k = cc

pub no_entries : (m : BlobMap) → m ≡ fin.empty → fin.entries m ≡ []
no_entries m e = no-items (fin.entries m) (sym (fin.len-entries m) ∙ ap (λ (x : BlobMap). fin.len x) e ∙ fin.len-empty name_cmp (List ℕ))

-- What a loop that collects has done: it has taken some items, and has the blobs of their files.
abbrev pub Collected : {X : Type 0} → (X → List (List ℕ)) → BlobMap → BlobMap → List X → List X → Type 0
Collected {X} f m k rest all = (done : List X) × (done ++ rest ≡ all) × (Some k ≡ files_added (Some m) (flat_map f done))

pub collected_more : {X : Type 0} (f : X → List (List ℕ)) (m k n : BlobMap) (left rest all : List X) (x : X) (added : Bool)
    → Collected f m k left all → left ≡ x ∷ rest → added ≡ true → cond added (Some n) None ≡ files_added (Some k) (f x) → Collected f m n rest all
collected_more f m k n left rest all x added so step was one = (
  so.0 ++ x ∷ [],
  append_assoc so.0 (x ∷ []) rest ∙ ap (λ r. so.0 ++ r) (sym step) ∙ so.1,
  files_more f m k so.0 x (Some n) so.2 (sym (ap (λ b. cond b (Some n) None) was) ∙ one),
)

pub collected_stop : {X : Type 0} (f : X → List (List ℕ)) (m k n : BlobMap) (left rest all : List X) (x : X) (added : Bool)
    → Collected f m k left all → left ≡ x ∷ rest → added ≡ false → cond added (Some n) None ≡ files_added (Some k) (f x) → None ≡ files_added (Some m) (flat_map f all)
collected_stop f m k n left rest all x added so step was one =
    files_stop f m k so.0 x rest all so.2 (sym (ap (λ b. cond b (Some n) None) was) ∙ one) (ap (λ r. so.0 ++ r) (sym step) ∙ so.1)

-- A blob that is put in the place of that of its digest.
insert_known : (m : BlobMap) (d b : List ℕ) → fin.get m d ≡ Some b → fin.insert m d b ≡ m
insert_known m d b e =
    fin.same_map name_cmp-total name_cmp-exact _ _ (λ q. fin.get-insert name_cmp-total m d b q ∙ at q (eq_by_cmp name_cmp q d) refl)
  where
    at : (q : List ℕ) (t : Bool) → eq_by_cmp name_cmp q d ≡ t → cond t (Some b) (fin.get m q) ≡ fin.get m q
    at q true h = sym (ap (λ k. fin.get m k) (same_name q d h) ∙ e)
    at q false h = refl

pub added_new : (m k : BlobMap) (f : List ℕ) → None ≡ fin.get m (sha256 f) → k ≡ fin.insert m (sha256 f) f → Some k ≡ file_added m f
added_new m k f none new = ap Some new ∙ ap (λ o. added_to o m f) none

pub added_again : (m k : BlobMap) (f known : List ℕ) (same : Bool) → Some known ≡ fin.get m (sha256 f) → k ≡ fin.insert m (sha256 f) f → same ≡ bytes_eq known f
    → cond same (Some k) None ≡ file_added m f
added_again m k f known same there new e =
    ap (λ t. cond t (Some k) None) e ∙ by (bytes_eq known f) refl ∙ ap (λ o. added_to o m f) there
  where
    by : (t : Bool) → bytes_eq known f ≡ t → cond t (Some k) None ≡ cond t (Some m) None
    by true h = ap Some (new ∙ insert_known m (sha256 f) f (sym there ∙ ap Some (same_bytes known f h)))
    by false h = refl

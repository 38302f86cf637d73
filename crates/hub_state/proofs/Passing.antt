-- Lines that are written one after the other.
use Rattle.std.proofs.Common.{◌≡◌, ℕ, Bool, false, List, [], ◌∷◌, ◌++◌, Option, Some, None, BTreeMap, String, string_bytes, refl, sym, ap, ◌∙◌, subst, append-nil, append_assoc}
use Rattle.std.specs.FinMap as fin
use Rattle.std.specs.List.{flat_map}
use Rattle.std.specs.Prelude.{Result, Ok}
use Rattle.std.specs.declared.alloc.AllocError.{AllocError}
use Rattle.std.specs.Io.KnownBytes.{Appends}
use Rattle.std.proofs.KnownBytes.{Appends-trans}
use Rattle.std.proofs.lemmas.List.Concat.{flat_map-append}
use Rattle.hub_path.specs.Path.{Path}
use Rattle.hub_tree.specs.Stored.{TakesEntry, stored_contents}
use Rattle.hub_tree.specs.declared.entries.Stored.{Stored}
use Rattle.hub_tree.specs.declared.contents.Contents.{Contents}
use Rattle.hub_state.specs.State.{State, Text}
use Rattle.hub_state.specs.Devices.{Passes}
use Rattle.hub_state.specs.View.{by_text, by_two, pairs_below, pairs, keyed}
use Rattle.hub_state.specs.declared.form.Version.{Version}
use Rattle.hub_state.specs.Writing.{contents_lines, state_header, end_line, replica_lines, archive_lines, blob_lines, state_files, version_of, version_lines, joined_lines, state_text}
use Rattle.hub_state.proofs.Maps.{by_two-push, pairs-push}

pub joined-append : (ls ks : List (List ℕ)) → joined_lines (ls ++ ks) ≡ joined_lines ls ++ joined_lines ks
joined-append ls ks = flat_map-append (λ (l : List ℕ). l ++ 10 ∷ []) ls ks

joined_one : {X : Type 0} (f : X → List (List ℕ)) (xs : List X) (x : X) → joined_lines (flat_map f (xs ++ x ∷ [])) ≡ joined_lines (flat_map f xs) ++ joined_lines (f x)
joined_one f xs x =
    ap joined_lines (flat_map-append f xs (x ∷ []) ∙ ap (λ ls. flat_map f xs ++ ls) (append-nil (f x)))
    ∙ joined-append (flat_map f xs) (f x)

-- The text of one more item, before a block of it is passed on.
pub block_more : {X : Type 0} (f : X → List (List ℕ)) (x : X) (xs : List X) → joined_lines (flat_map f (xs ++ x ∷ [])) ≡ joined_lines (flat_map f xs) ++ (joined_lines (f x) ++ [])
block_more f x xs = joined_one f xs x ∙ ap (λ u. joined_lines (flat_map f xs) ++ u) (sym (append-nil (joined_lines (f x))))

-- One more entry of a map.
keyed-push : {Z X Y : Type 0} (f : X → Y) (es : List (String Z × X)) (x : String Z × X) → keyed f (es ++ x ∷ []) ≡ keyed f es ++ (string_bytes x.0, f x.1) ∷ []
keyed-push f [] x = refl
keyed-push f (e ∷ es) x = ap (λ ds. (string_bytes e.0, f e.1) ∷ ds) (keyed-push f es x)

pub lines_more : {Z X : Type 0} (f : Text × X → List (List ℕ)) (es : List (String Z × X)) (x : String Z × X)
    → joined_lines (flat_map f (by_text (es ++ x ∷ []))) ≡ joined_lines (flat_map f (by_text es)) ++ joined_lines (f (string_bytes x.0, x.1))
lines_more f es x = ap (λ ds. joined_lines (flat_map f ds)) (keyed-push (λ v. v) es x) ∙ joined_one f (by_text es) (string_bytes x.0, x.1)

-- A step through a replica that didn't run out of memory.
pub next_entry : (left rest : List (Path × Contents)) (r : Result (Path × Stored) AllocError) (e : Path × Stored) → TakesEntry left (Some r) rest → r ≡ Ok e → left ≡ (e.0, stored_contents e.1) ∷ rest
next_entry left rest r e h was = subst (λ (x : Result (Path × Stored) AllocError). TakesEntry left (Some x) rest) was h

-- Bytes that are passed on.
Appends-nothing : (c : Option (List ℕ)) → Appends c c []
Appends-nothing None = tt
Appends-nothing (Some xs) = sym (append-nil xs)

pub passes-start : (c : Option (List ℕ)) (x : List ℕ) → Passes c c x x []
passes-start c x = ([], Appends-nothing c, sym (append-nil x))

pub passes-step : (a b c : Option (List ℕ)) (x y w z done s t all : List ℕ) → Passes a b x y done → w ≡ y ++ s → Passes b c w z t → all ≡ done ++ (s ++ t) → Passes a c x z all
passes-step a b c x y w z done s t all one push two is = (
  one.0 ++ two.0,
  Appends-trans a b c one.0 two.0 one.1 two.1,
  append_assoc one.0 two.0 z ∙ ap (λ u. one.0 ++ u) (two.2 ∙ ap (λ u. u ++ t) push ∙ append_assoc y s t) ∙ sym (append_assoc one.0 y (s ++ t))
      ∙ ap (λ u. u ++ (s ++ t)) one.2 ∙ append_assoc x done (s ++ t) ∙ ap (λ u. x ++ u) (sym is),
)

-- What a loop that writes has done: it has taken some items, and has passed on what is written of them.
abbrev pub Wrote : {X : Type 0} → (List X → List ℕ) → Option (List ℕ) → Option (List ℕ) → List ℕ → List ℕ → List X → List X → Bool → Type 0
Wrote {X} text a b x y rest all failed = (done : List X) × (done ++ rest ≡ all) × Passes a b x y (text done) × (failed ≡ false)

pub wrote-nothing : {X : Type 0} (text : List X → List ℕ) (a : Option (List ℕ)) (x : List ℕ) (rest all : List X) (failed : Bool) → text [] ≡ [] → rest ≡ all → failed ≡ false → Wrote text a a x x rest all failed
wrote-nothing text a x rest all failed none left works = ([], left, subst (λ (u : List ℕ). Passes a a x x u) (sym none) (passes-start a x), works)

pub wrote-more : {X : Type 0} (text : List X → List ℕ) (a b c : Option (List ℕ)) (x y w z s t : List ℕ) (left rest all : List X) (item : X) (before after : Bool)
    → Wrote text a b x y left all before → left ≡ item ∷ rest → w ≡ y ++ s → Passes b c w z t → ((done : List X) → text (done ++ item ∷ []) ≡ text done ++ (s ++ t)) → after ≡ false → Wrote text a c x z rest all after
wrote-more text a b c x y w z s t left rest all item before after wrote step push passes more works = (
  wrote.0 ++ item ∷ [],
  append_assoc wrote.0 (item ∷ []) rest ∙ ap (λ r. wrote.0 ++ r) (sym step) ∙ wrote.1,
  passes-step a b c x y w z (text wrote.0) s t (text (wrote.0 ++ item ∷ [])) wrote.2 push passes (more wrote.0),
  works,
)

pub wrote-all : {X : Type 0} (text : List X → List ℕ) (a b : Option (List ℕ)) (x y : List ℕ) (rest all : List X) (failed : Bool) → Wrote text a b x y rest all failed → rest ≡ [] → Passes a b x y (text all)
wrote-all text a b x y rest all failed wrote ends =
    subst (λ es. Passes a b x y (text es)) (sym (append-nil wrote.0) ∙ ap (λ r. wrote.0 ++ r) (sym ends) ∙ wrote.1) wrote.2

-- What is written of a replica's entries.
abbrev pub entries_text : Version → List (Path × Contents) → List ℕ
entries_text version es = joined_lines (flat_map (contents_lines version) es)

-- One more entry of a replica is written.
pub wrote-entry : (version : Version) (a b c : Option (List ℕ)) (x y z : List ℕ) (left rest all : List (Path × Contents)) (r : Result (Path × Stored) AllocError) (e : Path × Stored) (before after : Bool)
    → Wrote (entries_text version) a b x y left all before → TakesEntry left (Some r) rest → r ≡ Ok e → Passes b c y z (joined_lines (contents_lines version (e.0, stored_contents e.1))) → after ≡ false
    → Wrote (entries_text version) a c x z rest all after
wrote-entry version a b c x y z left rest all r e before after wrote step is passes works =
    let entry : Path × Contents = (e.0, stored_contents e.1) in
    wrote-more (entries_text version) a b c x y y z [] (joined_lines (contents_lines version entry)) left rest all entry before after
    wrote (next_entry left rest r e step is) (sym (append-nil y)) passes (λ done. joined_one (contents_lines version) done entry) works

pub passes-all : (a b c : Option (List ℕ)) (x y done : List ℕ) → Passes a b x y done → Appends b c y → Appends a c (x ++ done)
passes-all a b c x y done one two = subst_bytes (Appends-trans a b c one.0 y one.1 two) one.2
  where
    subst_bytes : {u v : List ℕ} → Appends a c u → u ≡ v → Appends a c v
    subst_bytes {u} {v} h e = subst (Appends a c) e h

-- One more archive below a text.
below-push : {X : Type 0} (a : Text) (es : List (Text × X)) (x : Text × X) → pairs_below a (es ++ x ∷ []) ≡ pairs_below a es ++ (a ∷ x.0 ∷ [], x.1) ∷ []
below-push a [] x = refl
below-push a (e ∷ es) x = ap (λ ds. (a ∷ e.0 ∷ [], e.1) ∷ ds) (below-push a es x)

pub below_more : {Z X : Type 0} (f : List Text × X → List (List ℕ)) (a : Text) (es : List (String Z × X)) (x : String Z × X)
    → joined_lines (flat_map f (pairs_below a (by_text (es ++ x ∷ [])))) ≡ joined_lines (flat_map f (pairs_below a (by_text es))) ++ joined_lines (f (a ∷ string_bytes x.0 ∷ [], x.1))
below_more f a es x =
    ap (λ ds. joined_lines (flat_map f ds)) (ap (pairs_below a) (keyed-push (λ v. v) es x) ∙ below-push a (by_text es) (string_bytes x.0, x.1))
    ∙ joined_one f (pairs_below a (by_text es)) (a ∷ string_bytes x.0 ∷ [], x.1)

-- The archives of one more first text.
pub pairs_more : {Z X : Type 0} (f : List Text × X → List (List ℕ)) (es : List (String Z × BTreeMap (String Z) X)) (x : String Z × BTreeMap (String Z) X)
    → joined_lines (flat_map f (pairs (by_two (es ++ x ∷ [])))) ≡ joined_lines (flat_map f (pairs (by_two es))) ++ joined_lines (flat_map f (pairs_below (string_bytes x.0) (by_text x.1.entries)))
pairs_more f es x =
    ap (λ ds. joined_lines (flat_map f ds)) (ap pairs (by_two-push es x) ∙ pairs-push (by_two es) (string_bytes x.0, by_text x.1.entries))
    ∙ ap joined_lines (flat_map-append f (pairs (by_two es)) (pairs_below (string_bytes x.0) (by_text x.1.entries)))
    ∙ joined-append (flat_map f (pairs (by_two es))) (flat_map f (pairs_below (string_bytes x.0) (by_text x.1.entries)))

-- The parts of a state's text.
pub text_parts : (S : State) (v : Version) → v ≡ version_of (state_files S)
    → joined_lines (state_header v ∷ blob_lines v (state_files S)) ++ joined_lines (flat_map (replica_lines v) (fin.entries S.replicas)) ++ joined_lines (flat_map archive_lines (fin.entries S.archives)) ++ ((end_line ++ 10 ∷ []) ++ []) ≡ state_text S
unfolding state_text
text_parts S v is =
    let h : List (List ℕ) = state_header v ∷ blob_lines v (state_files S) in
    let rs : List (List ℕ) = flat_map (replica_lines v) (fin.entries S.replicas) in
    let ks : List (List ℕ) = flat_map archive_lines (fin.entries S.archives) in
    let e : List (List ℕ) = end_line ∷ [] in
    sym (joined-append (h ++ rs ++ ks) e ∙ ap (λ t. t ++ joined_lines e) (joined-append (h ++ rs) ks ∙ ap (λ t. t ++ joined_lines ks) (joined-append h rs)))
    ∙ ap (λ (x : Version). joined_lines (version_lines x S)) is

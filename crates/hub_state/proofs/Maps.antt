-- Maps from texts, and maps of such maps, as finite maps.
use Rattle.std.proofs.Common.{◌≡◌, Bool, true, false, cond, ◌&&◌, T, List, [], ◌∷◌, ◌++◌, map, Option, Some, None, String, string_bytes, BTreeMap, refl, sym, ap, ◌∙◌, subst, append-nil, append_assoc}
use Rattle.std.specs.FinMap as fin
use Rattle.std.specs.FinMap.Entries.{find, is_sorted, below_all}
use Rattle.std.specs.BTreeMap.{is_at, get_by_text, insert_entry, IsOrdered}
use Rattle.std.specs.Cmp.{IsTotalOrder, eq_by_cmp_equiv, tied_itself}
use Rattle.std.specs.Cmp.Lexicographic.{slice_cmp}
use Rattle.std.specs.List.{AllByRecursion}
use Rattle.std.specs.List.Sorted.{IsStrictlySortedBy}
use Rattle.std.specs.Map.{lookup, keys_of}
use Rattle.std.specs.Option.{option_map, option_and_then, option_or}
use Rattle.std.specs.Ordering.{nat_cmp, is_eq, is_lt, eq_by_cmp, match_ordering, ordering_then}
use Rattle.std.specs.Str.{bytes_eq}
use Rattle.std.specs.String.{string_cmp}
use Rattle.std.specs.declared.cmp.Ordering.{Ordering}
use Rattle.std.specs.declared.cmp.Ordering.TheVariants.{Less, Equal, Greater}
use Rattle.std.proofs.lemmas.Map.Text.{is_eq-slice_cmp}
use Rattle.std.proofs.lemmas.Slice.Eq.{bytes_eq-Decides}
use Rattle.hub_path.specs.Path.{name_cmp, path_cmp}
use Rattle.hub_path.specs.laws.General.{name_cmp-total, name_cmp-exact, path_cmp-total, path_cmp-exact}
use Rattle.hub_tree.specs.laws.Ascending.{both, is_sorted-from, entries-ascending, copy_more}
use Rattle.hub_state.specs.State.{Text}
use Rattle.hub_state.specs.View.{keyed, by_text, by_two, pairs_below, pairs, map_in, pairs_in}
use Rattle.hub_text.specs.laws.Test.{T-first, T-second, T-less}
use Rattle.hub_text.specs.laws.List.{find-append, option_or-none}
use Rattle.hub_state.proofs.Kept.{find-tied_below}
use Rattle.hub_state.specs.laws.RootTexts.{is_eq-pair}

-- What is found at a text.
find-by_text : {Z X : Type 0} (q : Text) (es : List (String Z × X)) → find name_cmp q (by_text es) ≡ lookup (is_at (λ k. slice_cmp nat_cmp q (string_bytes k))) es
find-by_text q [] = refl
find-by_text q (e ∷ es) = ap (cond (is_eq (slice_cmp nat_cmp q (string_bytes e.0))) (Some e.1)) (find-by_text q es)

mapped : {X Y : Type 0} (f : X → Y) (b : Bool) (x : X) (o : Option X) → cond b (Some (f x)) (option_map f o) ≡ option_map f (cond b (Some x) o)
mapped f true x o = refl
mapped f false x o = refl

find-keyed : {Z X Y : Type 0} (f : X → Y) (q : Text) (es : List (String Z × X)) → find name_cmp q (keyed f es) ≡ option_map f (lookup (is_at (λ k. slice_cmp nat_cmp q (string_bytes k))) es)
find-keyed f q [] = refl
find-keyed f q (e ∷ es) =
    ap (cond (is_eq (slice_cmp nat_cmp q (string_bytes e.0))) (Some (f e.1))) (find-keyed f q es)
    ∙ mapped f (is_eq (slice_cmp nat_cmp q (string_bytes e.0))) e.1 (lookup (is_at (λ k. slice_cmp nat_cmp q (string_bytes k))) es)

pub get-map_in : {Z X : Type 0} (q : Text) (m : BTreeMap (String Z) X) → fin.get (map_in m.entries) q ≡ get_by_text m q
get-map_in q m = fin.get-from_entries name_cmp-total (by_text m.entries) q ∙ find-by_text q m.entries

pub same_test : (k q : Text) → bytes_eq k q ≡ eq_by_cmp name_cmp q k
same_test k q = sym (is_eq-slice_cmp k q) ∙ (eq_by_cmp_equiv name_cmp-total).symm k q

-- A map that was changed at one text.
pub changed_map : {Z X : Type 0} (m n : BTreeMap (String Z) X) (t : Text) (v : X) → ((q : Text) → get_by_text n q ≡ cond (bytes_eq t q) (Some v) (get_by_text m q))
    → map_in n.entries ≡ fin.insert (map_in m.entries) t v
changed_map m n t v h =
    fin.same_map name_cmp-total name_cmp-exact _ _ (λ q.
    get-map_in q n ∙ h q ∙ ap (λ b. cond b (Some v) (get_by_text m q)) (same_test t q)
    ∙ ap (cond (eq_by_cmp name_cmp q t) (Some v)) (sym (get-map_in q m)) ∙ sym (fin.get-insert name_cmp-total (map_in m.entries) t v q))

-- The texts ascend as the keys do.
all_mapped : {Z : Type 0} (k : String Z) (ks : List (String Z)) → AllByRecursion (λ y. string_cmp k y ≡ Less) ks → AllByRecursion (λ y. name_cmp (string_bytes k) y ≡ Less) (map string_bytes ks)
all_mapped k [] h = tt
all_mapped k (x ∷ ks) h = (h.0, all_mapped k ks h.1)

sorted_mapped : {Z : Type 0} (ks : List (String Z)) → IsStrictlySortedBy string_cmp ks → IsStrictlySortedBy name_cmp (map string_bytes ks)
unfolding IsStrictlySortedBy
sorted_mapped [] h = tt
sorted_mapped (k ∷ ks) h = (all_mapped k ks h.0, sorted_mapped ks h.1)

keys_of-keyed : {Z X Y : Type 0} (f : X → Y) (es : List (String Z × X)) → keys_of (keyed f es) ≡ map string_bytes (keys_of es)
keys_of-keyed f [] = refl
keys_of-keyed f (e ∷ es) = ap (λ ks. string_bytes e.0 ∷ ks) (keys_of-keyed f es)

pub texts_ascend : {Z X Y : Type 0} (f : X → Y) (es : List (String Z × X)) → IsStrictlySortedBy string_cmp (keys_of es) → IsStrictlySortedBy name_cmp (keys_of (keyed f es))
texts_ascend f es h = subst (λ (ks : List Text). IsStrictlySortedBy name_cmp ks) (sym (keys_of-keyed f es)) (sorted_mapped (keys_of es) h)

pub sorted_texts : {Z X Y : Type 0} (f : X → Y) (es : List (String Z × X)) → IsStrictlySortedBy string_cmp (keys_of es) → T (is_sorted name_cmp (keyed f es))
sorted_texts f es h = is_sorted-from name_cmp (keyed f es) (texts_ascend f es h)

nothing_there : {X : Type 0} (b : Bool) (o : Option X) → o ≡ None → cond b o None ≡ o
nothing_there true o e = refl
nothing_there false o e = sym e

in_row : {X : Type 0} (a b : Bool) (v w : Option X) → cond (a && b) v (cond a w None) ≡ cond a (cond b v w) None
in_row true b v w = refl
in_row false b v w = refl

find-below : {X : Type 0} (t u a : Text) (fs : List (Text × X)) → find path_cmp (t ∷ u ∷ []) (pairs_below a fs) ≡ cond (eq_by_cmp name_cmp t a) (find name_cmp u fs) None
find-below t u a [] = sym (nothing_there (eq_by_cmp name_cmp t a) None refl)
find-below t u a (f ∷ fs) =
    ap (λ b. cond b (Some f.1) (find path_cmp (t ∷ u ∷ []) (pairs_below a fs))) (is_eq-pair t u a f.0)
    ∙ ap (cond (eq_by_cmp name_cmp t a && eq_by_cmp name_cmp u f.0) (Some f.1)) (find-below t u a fs)
    ∙ in_row (eq_by_cmp name_cmp t a) (eq_by_cmp name_cmp u f.0) (Some f.1) (find name_cmp u fs)

find-pairs : {X : Type 0} (t u : Text) (ps : List (Text × List (Text × X))) → T (is_sorted name_cmp ps) → find path_cmp (t ∷ u ∷ []) (pairs ps) ≡ option_and_then (find name_cmp u) (find name_cmp t ps)
find-pairs t u [] h = refl
find-pairs {X} t u (p ∷ ps) h =
    find-append path_cmp (t ∷ u ∷ []) (pairs_below p.0 p.1) (pairs ps)
    ∙ ap (λ o. option_or o (find path_cmp (t ∷ u ∷ []) (pairs ps))) (find-below t u p.0 p.1)
    ∙ ap (option_or (cond (eq_by_cmp name_cmp t p.0) (find name_cmp u p.1) None)) (find-pairs t u ps (T-second _ _ h))
    ∙ by (eq_by_cmp name_cmp t p.0) refl
  where
    by : (b : Bool) → eq_by_cmp name_cmp t p.0 ≡ b
        → option_or (cond b (find name_cmp u p.1) None) (option_and_then (find name_cmp u) (find name_cmp t ps)) ≡ option_and_then (find name_cmp u) (cond b (Some p.1) (find name_cmp t ps))
    by true e =
        ap (λ o. option_or (find name_cmp u p.1) (option_and_then (find name_cmp u) o)) (find-tied_below name_cmp-total t p.0 ps e (T-first _ _ h))
        ∙ option_or-none (find name_cmp u p.1)
    by false e = refl

-- Only lists of two texts are keys.
abbrev IsUnlike : List Text → Type 0
IsUnlike q = (a b : Text) → eq_by_cmp path_cmp q (a ∷ b ∷ []) ≡ false

none_below : {X : Type 0} (q : List Text) → IsUnlike q → (a : Text) (fs : List (Text × X)) → find path_cmp q (pairs_below a fs) ≡ None
none_below q h a [] = refl
none_below q h a (f ∷ fs) = ap (λ b. cond b (Some f.1) (find path_cmp q (pairs_below a fs))) (h a f.0) ∙ none_below q h a fs

none_unlike : {X : Type 0} (q : List Text) → IsUnlike q → (ps : List (Text × List (Text × X))) → find path_cmp q (pairs ps) ≡ None
none_unlike q h [] = refl
none_unlike q h (p ∷ ps) =
    find-append path_cmp q (pairs_below p.0 p.1) (pairs ps)
    ∙ ap (λ o. option_or o (find path_cmp q (pairs ps))) (none_below q h p.0 p.1) ∙ none_unlike q h ps

unlike_short : (r : Ordering) → is_eq (ordering_then r Less) ≡ false
unlike_short Less = refl
unlike_short Equal = refl
unlike_short Greater = refl

unlike_long : (r s : Ordering) → is_eq (ordering_then r (ordering_then s Greater)) ≡ false
unlike_long Less s = refl
unlike_long Equal Less = refl
unlike_long Equal Equal = refl
unlike_long Equal Greater = refl
unlike_long Greater s = refl

-- Two maps that agree at each list of two texts.
abbrev pub Rows : Type 0 → Type 0 → Type 0
Rows Z X = BTreeMap (String Z) (BTreeMap (String Z) X)

in_two : {X : Type 0} (a b : Bool) (v : X) (x y : Option X) → (a ≡ true → x ≡ cond b (Some v) y) → (a ≡ false → x ≡ y) → x ≡ cond (a && b) (Some v) y
in_two true b v x y f g = f refl
in_two false b v x y f g = g refl

module _ {Z X : Type 0} where
  through : (u : Text) (o : Option (BTreeMap (String Z) X)) → option_and_then (find name_cmp u) (option_map (λ m. by_text m.entries) o) ≡ option_and_then (λ m. get_by_text m u) o
  through u None = refl
  through u (Some m) = find-by_text u m.entries

  pub get-pairs_in : (t u : Text) (m : Rows Z X) → IsOrdered string_cmp m → fin.get (pairs_in m.entries) (t ∷ u ∷ []) ≡ option_and_then (λ o. get_by_text o u) (get_by_text m t)
  get-pairs_in t u m h =
      fin.get-from_entries path_cmp-total (pairs (by_two m.entries)) (t ∷ u ∷ [])
      ∙ find-pairs t u (by_two m.entries) (sorted_texts (λ o. by_text o.entries) m.entries h)
      ∙ ap (option_and_then (find name_cmp u)) (find-keyed (λ o. by_text o.entries) t m.entries)
      ∙ through u (get_by_text m t)

  none_in : (q : List Text) → IsUnlike q → (m : Rows Z X) → fin.get (pairs_in m.entries) q ≡ None
  none_in q h m = fin.get-from_entries path_cmp-total (pairs (by_two m.entries)) q ∙ none_unlike q h (by_two m.entries)

  unlike_after : (m n : Rows Z X) (a b : Text) (v : X) (q : List Text) → IsUnlike q → fin.get (pairs_in n.entries) q ≡ cond (eq_by_cmp path_cmp q (a ∷ b ∷ [])) (Some v) (fin.get (pairs_in m.entries) q)
  unlike_after m n a b v q h = none_in q h n ∙ sym (ap (λ x. cond x (Some v) (fin.get (pairs_in m.entries) q)) (h a b) ∙ none_in q h m)

  inserted : (m n : Rows Z X) (a b : Text) (v : X)
      → ((t u : Text) → fin.get (pairs_in n.entries) (t ∷ u ∷ []) ≡ cond (eq_by_cmp name_cmp t a && eq_by_cmp name_cmp u b) (Some v) (fin.get (pairs_in m.entries) (t ∷ u ∷ [])))
      → (q : List Text) → fin.get (pairs_in n.entries) q ≡ cond (eq_by_cmp path_cmp q (a ∷ b ∷ [])) (Some v) (fin.get (pairs_in m.entries) q)
  inserted m n a b v h [] = unlike_after m n a b v [] (λ x y. refl)
  inserted m n a b v h (t ∷ []) = unlike_after m n a b v (t ∷ []) (λ x y. unlike_short (name_cmp t x))
  inserted m n a b v h (t ∷ u ∷ []) = h t u ∙ ap (λ x. cond x (Some v) (fin.get (pairs_in m.entries) (t ∷ u ∷ []))) (sym (is_eq-pair t u a b))
  inserted m n a b v h (t ∷ u ∷ s ∷ ts) = unlike_after m n a b v (t ∷ u ∷ s ∷ ts) (λ x y. unlike_long (name_cmp t x) (name_cmp u y))

  -- A map of maps in which one map was changed at one text.
  pub changed_pairs : (m n : Rows Z X) → IsOrdered string_cmp m → IsOrdered string_cmp n → (a b : Text) (w : BTreeMap (String Z) X) (v : X)
      → ((q : Text) → get_by_text n q ≡ cond (bytes_eq a q) (Some w) (get_by_text m q))
      → ((q : Text) → get_by_text w q ≡ cond (eq_by_cmp name_cmp q b) (Some v) (option_and_then (λ o. get_by_text o q) (get_by_text m a)))
      → pairs_in n.entries ≡ fin.insert (pairs_in m.entries) (a ∷ b ∷ []) v
  changed_pairs m n o p a b w v outer inner =
      fin.same_map path_cmp-total path_cmp-exact _ _ (λ q. inserted m n a b v at q ∙ sym (fin.get-insert path_cmp-total (pairs_in m.entries) (a ∷ b ∷ []) v q))
    where
      found : (t u : Text) (x : Bool) → eq_by_cmp name_cmp t a ≡ x → fin.get (pairs_in n.entries) (t ∷ u ∷ []) ≡ option_and_then (λ o. get_by_text o u) (cond x (Some w) (get_by_text m t))
      found t u x e =
          get-pairs_in t u n p
          ∙ ap (option_and_then (λ o. get_by_text o u)) (outer t ∙ ap (λ y. cond y (Some w) (get_by_text m t)) (same_test a t ∙ e))

      here : (t u : Text) → eq_by_cmp name_cmp t a ≡ true → a ≡ t
      here t u e = (bytes_eq-Decides a t).0 (same_test a t ∙ e)

      at : (t u : Text) → fin.get (pairs_in n.entries) (t ∷ u ∷ []) ≡ cond (eq_by_cmp name_cmp t a && eq_by_cmp name_cmp u b) (Some v) (fin.get (pairs_in m.entries) (t ∷ u ∷ []))
      at t u = in_two (eq_by_cmp name_cmp t a) (eq_by_cmp name_cmp u b) v _ _
          (λ e. found t u true e ∙ inner u
          ∙ ap (cond (eq_by_cmp name_cmp u b) (Some v)) (ap (λ s. option_and_then (λ o. get_by_text o u) (get_by_text m s)) (here t u e) ∙ sym (get-pairs_in t u m o)))
          (λ e. found t u false e ∙ sym (get-pairs_in t u m o))

  -- A map of maps in which one map was written as it was.
  same_at : (m n : Rows Z X) → ((t u : Text) → fin.get (pairs_in n.entries) (t ∷ u ∷ []) ≡ fin.get (pairs_in m.entries) (t ∷ u ∷ [])) → (q : List Text) → fin.get (pairs_in n.entries) q ≡ fin.get (pairs_in m.entries) q
  same_at m n h [] = none_in [] (λ x y. refl) n ∙ sym (none_in [] (λ x y. refl) m)
  same_at m n h (t ∷ []) = none_in (t ∷ []) (λ x y. unlike_short (name_cmp t x)) n ∙ sym (none_in (t ∷ []) (λ x y. unlike_short (name_cmp t x)) m)
  same_at m n h (t ∷ u ∷ []) = h t u
  same_at m n h (t ∷ u ∷ s ∷ ts) =
      none_in (t ∷ u ∷ s ∷ ts) (λ x y. unlike_long (name_cmp t x) (name_cmp u y)) n ∙ sym (none_in (t ∷ u ∷ s ∷ ts) (λ x y. unlike_long (name_cmp t x) (name_cmp u y)) m)

  pub unchanged_pairs : (m n : Rows Z X) → IsOrdered string_cmp m → IsOrdered string_cmp n → (a : Text) (w z : BTreeMap (String Z) X) → get_by_text m a ≡ Some z → map_in w.entries ≡ map_in z.entries
      → ((q : Text) → get_by_text n q ≡ cond (bytes_eq a q) (Some w) (get_by_text m q))
      → pairs_in n.entries ≡ pairs_in m.entries
  unchanged_pairs m n o p a w z there same outer = fin.same_map path_cmp-total path_cmp-exact _ _ (same_at m n at)
    where
      by : (t u : Text) (x : Bool) → bytes_eq a t ≡ x → option_and_then (λ o. get_by_text o u) (cond x (Some w) (get_by_text m t)) ≡ option_and_then (λ o. get_by_text o u) (get_by_text m t)
      by t u true e =
          sym (get-map_in u w) ∙ ap (λ f. fin.get f u) same ∙ get-map_in u z
          ∙ ap (option_and_then (λ o. get_by_text o u)) (sym there ∙ ap (get_by_text m) ((bytes_eq-Decides a t).0 e))
      by t u false e = refl

      at : (t u : Text) → fin.get (pairs_in n.entries) (t ∷ u ∷ []) ≡ fin.get (pairs_in m.entries) (t ∷ u ∷ [])
      at t u =
          get-pairs_in t u n p ∙ ap (option_and_then (λ o. get_by_text o u)) (outer t) ∙ by t u (bytes_eq a t) refl ∙ sym (get-pairs_in t u m o)

-- What two look-ups find.
pub found_pair : {Z X : Type 0} (t u : Text) (m : Rows Z X) → IsOrdered string_cmp m → (o : Option (BTreeMap (String Z) X)) (r : Option X) → o ≡ get_by_text m t → r ≡ option_and_then (λ z. get_by_text z u) o → r ≡ fin.get (pairs_in m.entries) (t ∷ u ∷ [])
found_pair t u m h o r e f = f ∙ ap (option_and_then (λ z. get_by_text z u)) e ∙ sym (get-pairs_in t u m h)

-- A value that was put into one of the maps, and into the first map at a text.
get_inserted : {Z X : Type 0} (w z : BTreeMap (String Z) X) (b t : Text) (v : X) → t ≡ b → map_in w.entries ≡ fin.insert (map_in z.entries) t v → (q : Text) → get_by_text w q ≡ cond (eq_by_cmp name_cmp q b) (Some v) (get_by_text z q)
get_inserted w z b t v same h q =
    sym (get-map_in q w) ∙ ap (λ f. fin.get f q) h ∙ fin.get-insert name_cmp-total (map_in z.entries) t v q
    ∙ ap (λ x. cond (eq_by_cmp name_cmp q x) (Some v) (fin.get (map_in z.entries) q)) same ∙ ap (cond (eq_by_cmp name_cmp q b) (Some v)) (get-map_in q z)

pub put_below : {Z X : Type 0} (m n : Rows Z X) → IsOrdered string_cmp m → IsOrdered string_cmp n → (a b t : Text) (w z : BTreeMap (String Z) X) (v : X) → Some z ≡ get_by_text m a → t ≡ b
    → ((q : Text) → get_by_text n q ≡ cond (bytes_eq a q) (Some w) (get_by_text m q)) → map_in w.entries ≡ fin.insert (map_in z.entries) t v
    → pairs_in n.entries ≡ fin.insert (pairs_in m.entries) (a ∷ b ∷ []) v
put_below m n o p a b t w z v there same outer h =
    changed_pairs m n o p a b w v outer
    (λ q. get_inserted w z b t v same h q ∙ ap (λ x. cond (eq_by_cmp name_cmp q b) (Some v) (option_and_then (λ o. get_by_text o q) x)) there)

pub put_first : {Z X : Type 0} (m n : Rows Z X) → IsOrdered string_cmp m → IsOrdered string_cmp n → (a b s t : Text) (w z : BTreeMap (String Z) X) (v : X) → None ≡ get_by_text m a → s ≡ a → t ≡ b → z.entries ≡ []
    → ((q : Text) → get_by_text n q ≡ cond (bytes_eq s q) (Some w) (get_by_text m q)) → map_in w.entries ≡ fin.insert (map_in z.entries) t v
    → pairs_in n.entries ≡ fin.insert (pairs_in m.entries) (a ∷ b ∷ []) v
put_first m n o p a b s t w z v there first same nothing outer h =
    changed_pairs m n o p a b w v (λ q. outer q ∙ ap (λ x. cond (bytes_eq x q) (Some w) (get_by_text m q)) first)
    (λ q. get_inserted w z b t v same h q
    ∙ ap (cond (eq_by_cmp name_cmp q b) (Some v)) (ap (lookup (is_at (λ k. slice_cmp nat_cmp q (string_bytes k)))) nothing ∙ ap (option_and_then (λ o. get_by_text o q)) there))

-- One more entry that was copied.
insert_keyed : {Z X Y : Type 0} (f : X → Y) (es : List (String Z × X)) (k : String Z) (v : X) → keyed f (insert_entry string_cmp es k v) ≡ insert_entry name_cmp (keyed f es) (string_bytes k) (f v)
insert_keyed f [] k v = refl
insert_keyed f (e ∷ es) k v =
    elim (string_cmp k e.0) as (λ r. keyed f (match_ordering r ((k, v) ∷ e ∷ es) ((e.0, v) ∷ es) (e ∷ insert_entry string_cmp es k v))
    ≡ match_ordering r ((string_bytes k, f v) ∷ keyed f (e ∷ es)) ((string_bytes e.0, f v) ∷ keyed f es) ((string_bytes e.0, f e.1) ∷ insert_entry name_cmp (keyed f es) (string_bytes k) (f v))) [
      | Less ↦ refl
      | Equal ↦ refl
      | Greater ↦ ap (λ ds. (string_bytes e.0, f e.1) ∷ ds) (insert_keyed f es k v)
    ]

pub copy_text_more : {Z X Y : Type 0} (f : X → Y) (done iterator rest all : List (String Z × X)) (x : String Z × X) (k : String Z) (y : X)
    → keyed f done ++ keyed f iterator ≡ keyed f all → iterator ≡ x ∷ rest → string_bytes k ≡ string_bytes x.0 → f y ≡ f x.1 → IsStrictlySortedBy string_cmp (keys_of all)
    → keyed f (insert_entry string_cmp done k y) ++ keyed f rest ≡ keyed f all
copy_text_more f done iterator rest all x k y i s same e h =
    ap (λ es. es ++ keyed f rest) (insert_keyed f done k y ∙ ap (insert_entry name_cmp (keyed f done) (string_bytes k)) e)
    ∙ copy_more name_cmp-total (keyed f done) (keyed f iterator) (keyed f rest) (keyed f all) (string_bytes x.0, f x.1) (string_bytes k) i (ap (keyed f) s) same (texts_ascend f all h)

-- The keys of a map of maps ascend.
is_lt-last : (r : Ordering) → is_lt (ordering_then r Equal) ≡ is_lt r
is_lt-last Less = refl
is_lt-last Equal = refl
is_lt-last Greater = refl

below_all-append : {K X : Type 0} (R : K → K → Ordering) (k : K) (xs ys : List (K × X)) → T (below_all R k xs) → T (below_all R k ys) → T (below_all R k (xs ++ ys))
below_all-append R k [] ys h i = i
below_all-append R k (x ∷ xs) ys h i = both _ _ (T-first _ _ h) (below_all-append R k xs ys (T-second _ _ h) i)

below_row : {X : Type 0} (a x : Text) (fs : List (Text × X)) → T (below_all name_cmp x fs) → T (below_all path_cmp (a ∷ x ∷ []) (pairs_below a fs))
below_row a x [] h = tt
below_row a x (f ∷ fs) h =
    both _ _ (subst T (sym (ap (λ r. is_lt (ordering_then r (ordering_then (name_cmp x f.0) Equal))) (tied_itself name_cmp-total a) ∙ is_lt-last (name_cmp x f.0))) (T-first _ _ h))
    (below_row a x fs (T-second _ _ h))

row_sorted : {X : Type 0} (a : Text) (fs : List (Text × X)) → T (is_sorted name_cmp fs) → T (is_sorted path_cmp (pairs_below a fs))
row_sorted a [] h = tt
row_sorted a (f ∷ fs) h = both _ _ (below_row a f.0 fs (T-first _ _ h)) (row_sorted a fs (T-second _ _ h))

below_other : {X : Type 0} (a b x : Text) (gs : List (Text × X)) → name_cmp a b ≡ Less → T (below_all path_cmp (a ∷ x ∷ []) (pairs_below b gs))
below_other a b x [] e = tt
below_other a b x (g ∷ gs) e =
    both _ _ (subst T (sym (ap (λ r. is_lt (ordering_then r (ordering_then (name_cmp x g.0) Equal))) e)) tt) (below_other a b x gs e)

below_pairs : {X : Type 0} (a x : Text) (ps : List (Text × List (Text × X))) → T (below_all name_cmp a ps) → T (below_all path_cmp (a ∷ x ∷ []) (pairs ps))
below_pairs a x [] h = tt
below_pairs a x (p ∷ ps) h =
    below_all-append path_cmp (a ∷ x ∷ []) (pairs_below p.0 p.1) (pairs ps) (below_other a p.0 x p.1 (T-less _ (T-first _ _ h))) (below_pairs a x ps (T-second _ _ h))

row_before : {X : Type 0} (a : Text) (fs : List (Text × X)) (qs : List (List Text × X)) → ((x : Text) → T (below_all path_cmp (a ∷ x ∷ []) qs)) → T (is_sorted path_cmp (pairs_below a fs)) → T (is_sorted path_cmp qs)
    → T (is_sorted path_cmp (pairs_below a fs ++ qs))
row_before a [] qs f h i = i
row_before a (g ∷ fs) qs f h i =
    both _ _ (below_all-append path_cmp (a ∷ g.0 ∷ []) (pairs_below a fs) qs (T-first _ _ h) (f g.0)) (row_before a fs qs f (T-second _ _ h) i)

abbrev pub AllSorted : {X : Type 0} → List (Text × List (Text × X)) → Type 0
AllSorted [] = Unit {0}
AllSorted (p ∷ ps) = T (is_sorted name_cmp p.1) × AllSorted ps

pub AllSorted-push : {X : Type 0} (ps : List (Text × List (Text × X))) (p : Text × List (Text × X)) → AllSorted ps → T (is_sorted name_cmp p.1) → AllSorted (ps ++ p ∷ [])
AllSorted-push [] p h i = (i, tt)
AllSorted-push (q ∷ ps) p h i = (h.0, AllSorted-push ps p h.1 i)

pairs_sorted : {X : Type 0} (ps : List (Text × List (Text × X))) → T (is_sorted name_cmp ps) → AllSorted ps → T (is_sorted path_cmp (pairs ps))
pairs_sorted [] h i = tt
pairs_sorted (p ∷ ps) h i =
    row_before p.0 p.1 (pairs ps) (λ x. below_pairs p.0 x ps (T-first _ _ h)) (row_sorted p.0 p.1 i.0) (pairs_sorted ps (T-second _ _ h) i.1)

entries_as_they_are : {K X : Type 0} {R : K → K → Ordering} (o : IsTotalOrder R) → fin.IsAntisymmetric R → (es : List (K × X)) → T (is_sorted R es) → fin.entries (fin.from_entries {R = R} es) ≡ es
entries_as_they_are {R = R} o same es h =
    ap fin.entries (fin.same_map o same (fin.from_entries es) (fin.from_sorted es) (λ q. fin.get-from_entries o es q ∙ sym (fin.get-from_sorted R es q h)))
    ∙ fin.entries-from_sorted R es h

-- The entries in the order of their keys.
pub entries-map_in : {Z X : Type 0} (m : BTreeMap (String Z) X) → IsOrdered string_cmp m → fin.entries (map_in m.entries) ≡ by_text m.entries
entries-map_in m h = entries-ascending name_cmp-total name_cmp-exact (by_text m.entries) (texts_ascend (λ x. x) m.entries h)

pub entries-pairs_in : {Z X : Type 0} (m : Rows Z X) → IsOrdered string_cmp m → AllSorted (by_two m.entries) → fin.entries (pairs_in m.entries) ≡ pairs (by_two m.entries)
entries-pairs_in m h i =
    entries_as_they_are path_cmp-total path_cmp-exact (pairs (by_two m.entries)) (pairs_sorted (by_two m.entries) (sorted_texts (λ o. by_text o.entries) m.entries h) i)

-- One more map in a map of maps.
pub by_two-push : {Z X : Type 0} (es : List (String Z × BTreeMap (String Z) X)) (x : String Z × BTreeMap (String Z) X) → by_two (es ++ x ∷ []) ≡ by_two es ++ (string_bytes x.0, by_text x.1.entries) ∷ []
by_two-push [] x = refl
by_two-push (e ∷ es) x = ap (λ ds. (string_bytes e.0, by_text e.1.entries) ∷ ds) (by_two-push es x)

pub pairs-push : {X : Type 0} (ps : List (Text × List (Text × X))) (p : Text × List (Text × X)) → pairs (ps ++ p ∷ []) ≡ pairs ps ++ pairs_below p.0 p.1
pairs-push [] p = append-nil (pairs_below p.0 p.1)
pairs-push (q ∷ ps) p = ap (λ ds. pairs_below q.0 q.1 ++ ds) (pairs-push ps p) ∙ sym (append_assoc (pairs_below q.0 q.1) (pairs ps) (pairs_below p.0 p.1))

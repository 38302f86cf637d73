-- The paths of a tree in order: for each name, it alone and then before the paths of what it holds.
use Rattle.std.proofs.Common.{◌≡◌, Bool, true, false, cond, ◌&&◌, ◌||◌, List, [], ◌∷◌, ◌++◌, map, Option, Some, None, refl, ap, sym, ◌∙◌, append_assoc, append-nil}
use Rattle.std.specs.Prelude.{⊤, Result, Ok, Err, OnOk}
use Rattle.std.specs.declared.alloc.AllocError.{AllocError}
use Rattle.std.specs.FinMap as fin
use Rattle.std.specs.FinMap.Entries.{find}
use Rattle.std.specs.List.{flat_map, AllByRecursion}
use Rattle.std.specs.List.Sorted.{IsStrictlySortedBy}
use Rattle.std.specs.Map.{keys_of}
use Rattle.std.specs.Option.{option_and_then, is_some}
use Rattle.std.specs.Cmp.{tied_itself}
use Rattle.std.specs.Ordering.{eq_by_cmp, is_eq, ordering_then}
use Rattle.std.specs.declared.cmp.Ordering.TheVariants.{Less}
use Rattle.std.proofs.lemmas.List.{map-append}
use Rattle.std.proofs.lemmas.List.Folds.{list_any-append}
use Rattle.std.proofs.lemmas.Map.Keys.{sorted_head, sorted_tail}
use Rattle.std.proofs.lemmas.Bool.{false≢true}
use Rattle.std.proofs.Math.Bool.{or-false}
use Rattle.hub_path.specs.Path.{Name, Path, path_cmp, name_cmp}
use Rattle.hub_tree.specs.Nodes.{replica_of, kids_of, node_get}
use Rattle.hub_tree.specs.Tree.{Replica}
use Rattle.hub_tree.specs.declared.node.Node.{Node}
use Rattle.hub_tree.proofs.LookUp.{look_up, get_top}
use Rattle.hub_tree.specs.laws.Order.{name_total, path_total, path_antisymmetric, same_name, is_eq-then}
use Rattle.hub_tree.specs.laws.Children.{same_sorted, sorted_keys}
use Rattle.hub_tree.specs.laws.Between.{among}

-- The paths of a node, from the node on.
abbrev pub node_paths : Node → List Path
node_paths x = [] ∷ fin.keys (replica_of (kids_of x))

abbrev pub named : Name → List Path → List Path
named n ps = map (λ p. n ∷ p) ps

abbrev pub all_paths : List (Name × Node) → List Path
all_paths cs = flat_map (λ c. named c.0 (node_paths c.1)) cs

-- Which paths these are.
is_named : (k n : Name) (r : Path) (ps : List Path) → among (k ∷ r) (named n ps) ≡ (eq_by_cmp name_cmp k n && among r ps)
is_named k n r [] = elim (eq_by_cmp name_cmp k n) as (λ b. false ≡ (b && false)) [ true ↦ refl | false ↦ refl ]
is_named k n r (p ∷ ps) =
    ap (λ b. b || among (k ∷ r) (named n ps)) (is_eq-then (name_cmp k n) (path_cmp r p))
    ∙ ap (λ b. (eq_by_cmp name_cmp k n && eq_by_cmp path_cmp r p) || b) (is_named k n r ps)
    ∙ elim (eq_by_cmp name_cmp k n) as (λ b. ((b && eq_by_cmp path_cmp r p) || (b && among r ps)) ≡ (b && (eq_by_cmp path_cmp r p || among r ps))) [ true ↦ refl | false ↦ refl ]

in_node : (r : Path) (x : Node) → among r (node_paths x) ≡ is_some (node_get r x)
in_node [] x = refl
in_node (m ∷ p) x = sym (fin.contains_key-keys (replica_of (kids_of x)) (m ∷ p))

pub above_none : (n : Name) (cs : List (Name × Node)) → AllByRecursion (λ k. name_cmp n k ≡ Less) (keys_of cs) → find name_cmp n cs ≡ None
above_none n [] h = refl
above_none n (c ∷ cs) h = ap (λ r. cond (is_eq r) (Some c.1) (find name_cmp n cs)) h.0 ∙ above_none n cs h.1

in_one : (b t : Bool) (x : Node) (r : Path) (o : Option Node) → (b ≡ true → o ≡ None) → t ≡ is_some (option_and_then (node_get r) o)
    → ((b && is_some (node_get r x)) || t) ≡ is_some (option_and_then (node_get r) (cond b (Some x) o))
in_one true t x r o none e =
    ap (λ u. is_some (node_get r x) || u) (e ∙ ap (λ o. is_some (option_and_then (node_get r) o)) (none refl)) ∙ or-false (is_some (node_get r x))
in_one false t x r o none e = e

in_all : (k : Name) (r : Path) (cs : List (Name × Node)) → IsStrictlySortedBy name_cmp (keys_of cs)
    → among (k ∷ r) (all_paths cs) ≡ is_some (option_and_then (node_get r) (find name_cmp k cs))
in_all k r [] h = refl
in_all k r (c ∷ cs) h =
    list_any-append (eq_by_cmp path_cmp (k ∷ r)) (named c.0 (node_paths c.1)) (all_paths cs)
    ∙ ap (λ b. b || among (k ∷ r) (all_paths cs)) (is_named k c.0 r (node_paths c.1) ∙ ap (λ b. eq_by_cmp name_cmp k c.0 && b) (in_node r c.1))
    ∙ in_one (eq_by_cmp name_cmp k c.0) (among (k ∷ r) (all_paths cs)) c.1 r (find name_cmp k cs)
    (λ e. ap (λ n. find name_cmp n cs) (same_name k c.0 e) ∙ above_none c.0 cs (sorted_head name_cmp c.0 (keys_of cs) h))
    (in_all k r cs (sorted_tail name_cmp c.0 (keys_of cs) h))

top_not_named : (n : Name) (ps : List Path) → among [] (named n ps) ≡ false
top_not_named n [] = refl
top_not_named n (p ∷ ps) = top_not_named n ps

top_not_in : (cs : List (Name × Node)) → among [] (all_paths cs) ≡ false
top_not_in [] = refl
top_not_in (c ∷ cs) =
    list_any-append (eq_by_cmp path_cmp []) (named c.0 (node_paths c.1)) (all_paths cs)
    ∙ ap (λ b. b || among [] (all_paths cs)) (top_not_named c.0 (node_paths c.1)) ∙ top_not_in cs

in_replica : (cs : List (Name × Node)) (q : Path) → IsStrictlySortedBy name_cmp (keys_of cs) → among q (all_paths cs) ≡ is_some (fin.get (replica_of cs) q)
in_replica cs [] h = top_not_in cs ∙ sym (ap is_some (get_top cs))
in_replica cs (k ∷ r) h = in_all k r cs h ∙ sym (ap is_some (look_up cs k r))

-- They ascend.
above_named : (n : Name) (p : Path) (ps : List Path) → AllByRecursion (λ q. path_cmp p q ≡ Less) ps → AllByRecursion (λ q. path_cmp (n ∷ p) q ≡ Less) (named n ps)
above_named n p [] h = tt
above_named n p (q ∷ ps) h = (ap (λ r. ordering_then r (path_cmp p q)) (tied_itself name_total n) ∙ h.0, above_named n p ps h.1)

named_ascend : (n : Name) (ps : List Path) → IsStrictlySortedBy path_cmp ps → IsStrictlySortedBy path_cmp (named n ps)
unfolding IsStrictlySortedBy
named_ascend n [] h = tt
named_ascend n (p ∷ ps) h = (above_named n p ps h.0, named_ascend n ps h.1)

above_top : (ps : List Path) → among [] ps ≡ false → AllByRecursion (λ q. path_cmp [] q ≡ Less) ps
above_top [] h = tt
above_top ([] ∷ ps) h = absurd (false≢true (sym h))
above_top ((n ∷ p) ∷ ps) h = (refl, above_top ps h)

keys_ascend : (m : Replica) → IsStrictlySortedBy path_cmp (fin.keys m)
keys_ascend m = sorted_keys path_cmp (fin.entries m) (fin.entries_sorted m)

node_ascends : (x : Node) → IsStrictlySortedBy path_cmp (node_paths x)
unfolding IsStrictlySortedBy
node_ascends x =
    let m = replica_of (kids_of x) in
    (above_top (fin.keys m) (sym (fin.contains_key-keys m []) ∙ ap is_some (get_top (kids_of x))), keys_ascend m)

all_append : (P : Path → Type 0) (xs ys : List Path) → AllByRecursion P xs → AllByRecursion P ys → AllByRecursion P (xs ++ ys)
all_append P [] ys h k = k
all_append P (x ∷ xs) ys h k = (h.0, all_append P xs ys h.1 k)

later_named : (n k : Name) (p : Path) (ps : List Path) → name_cmp n k ≡ Less → AllByRecursion (λ q. path_cmp (n ∷ p) q ≡ Less) (named k ps)
later_named n k p [] h = tt
later_named n k p (q ∷ ps) h = (ap (λ r. ordering_then r (path_cmp p q)) h, later_named n k p ps h)

later : (n : Name) (p : Path) (cs : List (Name × Node)) → AllByRecursion (λ k. name_cmp n k ≡ Less) (keys_of cs) → AllByRecursion (λ q. path_cmp (n ∷ p) q ≡ Less) (all_paths cs)
later n p [] h = tt
later n p (c ∷ cs) h =
    all_append (λ q. path_cmp (n ∷ p) q ≡ Less) (named c.0 (node_paths c.1)) (all_paths cs) (later_named n c.0 p (node_paths c.1) h.0) (later n p cs h.1)

joined_ascend : (n : Name) (ps : List Path) (cs : List (Name × Node)) → IsStrictlySortedBy path_cmp (named n ps) → IsStrictlySortedBy path_cmp (all_paths cs)
    → AllByRecursion (λ k. name_cmp n k ≡ Less) (keys_of cs) → IsStrictlySortedBy path_cmp (named n ps ++ all_paths cs)
unfolding IsStrictlySortedBy
joined_ascend n [] cs h k above = k
joined_ascend n (p ∷ ps) cs h k above =
    (all_append (λ q. path_cmp (n ∷ p) q ≡ Less) (named n ps) (all_paths cs) h.0 (later n p cs above), joined_ascend n ps cs h.1 k above)

none_ascend : IsStrictlySortedBy path_cmp []
unfolding IsStrictlySortedBy
none_ascend = tt

pub all_ascend : (cs : List (Name × Node)) → IsStrictlySortedBy name_cmp (keys_of cs) → IsStrictlySortedBy path_cmp (all_paths cs)
all_ascend [] h = none_ascend
all_ascend (c ∷ cs) h =
    joined_ascend c.0 (node_paths c.1) cs (named_ascend c.0 (node_paths c.1) (node_ascends c.1))
    (all_ascend cs (sorted_tail name_cmp c.0 (keys_of cs) h)) (sorted_head name_cmp c.0 (keys_of cs) h)

-- So they are the keys of the map.
pub keys-replica_of : (cs : List (Name × Node)) → IsStrictlySortedBy name_cmp (keys_of cs) → fin.keys (replica_of cs) ≡ all_paths cs
keys-replica_of cs h =
    same_sorted path_cmp path_total path_antisymmetric (fin.keys (replica_of cs)) (all_paths cs) (keys_ascend (replica_of cs)) (all_ascend cs h)
    (λ q. sym (fin.contains_key-keys (replica_of cs) q) ∙ sym (in_replica cs q h))

-- The same after a prefix.
abbrev pub after : Path → List Path → List Path
after d ps = map (λ p. d ++ p) ps

pub after-push : (d : Path) (n : Name) (ps : List Path) → after (d ++ n ∷ []) ps ≡ after d (named n ps)
after-push d n [] = refl
after-push d n (p ∷ ps) = λ i. append_assoc d (n ∷ []) p i ∷ after-push d n ps i

-- One more name.
pub one_more : (d : Path) (n : Name) (x : Node) (rest left : List (Name × Node)) (done new : List Path)
    → left ≡ (n, x) ∷ rest → new ≡ done ++ after (d ++ n ∷ []) (node_paths x) → new ++ after d (all_paths rest) ≡ done ++ after d (all_paths left)
one_more d n x rest left done new e h =
    ap (λ ps. ps ++ after d (all_paths rest)) h
    ∙ append_assoc done (after (d ++ n ∷ []) (node_paths x)) (after d (all_paths rest))
    ∙ ap (λ ps. done ++ ps)
    (ap (λ ps. ps ++ after d (all_paths rest)) (after-push d n (node_paths x))
    ∙ sym (map-append (λ p. d ++ p) (named n (node_paths x)) (all_paths rest))
    ∙ sym (ap (λ cs. after d (all_paths cs)) e))

-- A file, and a directory with what it holds.
no_paths : fin.keys (replica_of []) ≡ []
unfolding IsStrictlySortedBy
no_paths = keys-replica_of [] tt

pub one_file : (path : Path) (x : Node) (done new : List Path) → kids_of x ≡ [] → new ≡ done ++ path ∷ [] → new ≡ done ++ after path (node_paths x)
one_file path x done new k h =
    h ∙ ap (λ p. done ++ p ∷ []) (sym (append-nil path))
    ∙ ap (λ ps. done ++ (path ++ []) ∷ after path ps) (sym (ap (λ ks. fin.keys (replica_of ks)) k ∙ no_paths))

pub one_directory : (path prefix : Path) (x : Node) (kids : List (Name × Node)) (done pushed new : List Path) → kids_of x ≡ kids → prefix ≡ path → pushed ≡ done ++ path ∷ []
    → new ≡ pushed ++ after prefix (fin.keys (replica_of kids)) → new ≡ done ++ after path (node_paths x)
one_directory path prefix x kids done pushed new k e f h =
    h ∙ ap (λ q. pushed ++ after q (fin.keys (replica_of kids))) e
    ∙ ap (λ ps. ps ++ after path (fin.keys (replica_of kids))) f
    ∙ append_assoc done (path ∷ []) (after path (fin.keys (replica_of kids)))
    ∙ ap (λ p. done ++ p ∷ after path (fin.keys (replica_of kids))) (sym (append-nil path))
    ∙ ap (λ ks. done ++ (path ++ []) ∷ after path (fin.keys (replica_of ks))) (sym k)

pub one_directory_or_not : (r : Result ⊤ AllocError) (path prefix : Path) (x : Node) (kids : List (Name × Node)) (done pushed new : List Path) → kids_of x ≡ kids → prefix ≡ path
    → pushed ≡ done ++ path ∷ [] → OnOk r (new ≡ pushed ++ after prefix (fin.keys (replica_of kids))) → OnOk r (new ≡ done ++ after path (node_paths x))
one_directory_or_not (Ok u) path prefix x kids done pushed new k e f h = one_directory path prefix x kids done pushed new k e f h
one_directory_or_not (Err u) path prefix x kids done pushed new k e f h = tt

-- The whole tree.
after-top : (ps : List Path) → after [] ps ≡ ps
after-top [] = refl
after-top (p ∷ ps) = ap (λ qs. p ∷ qs) (after-top ps)

pub whole : (new done ks : List Path) (top : Path) → done ≡ [] → top ≡ [] → new ≡ done ++ after top ks → new ≡ ks
whole new done ks top e f h = h ∙ ap (λ d. d ++ after top ks) e ∙ ap (λ t. after t ks) f ∙ after-top ks

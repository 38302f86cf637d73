-- What stands at a path of a tree that is kept as names and what stands under each.
use Rattle.std.proofs.Common.{◌≡◌, ℕ, ◌+◌, ◌<◌, append-nil, Bool, true, false, cond, not, List, [], ◌∷◌, ◌++◌, map, length, drop, Option, Some, None, refl, ap, sym, ◌∙◌, arith, add-one, length-append, length-drop}
use Rattle.std.proofs.Math.Seq.{drop-cons, drop-length}
use Rattle.std.proofs.lemmas.Option.{slice_get_within, get_or_from_slice_get}
use Rattle.std.specs.List.{slice_get}
use Rattle.std.specs.Option.{option_and_then, option_map, option_or, unwrap_or}
use Rattle.std.specs.FinMap as fin
use Rattle.std.specs.FinMap.Entries.{where_key, find, find-where_key}
use Rattle.std.specs.Ordering.{eq_by_cmp, is_eq, ordering_then}
use Rattle.std.specs.declared.cmp.Ordering.{Ordering}
use Rattle.std.specs.declared.cmp.Ordering.TheVariants.{Less, Equal, Greater}
use Rattle.hub_text.specs.laws.List.{find-append, option_or-none}
use Rattle.hub_path.specs.Path.{Name, Path, path_cmp, name_cmp}
use Rattle.hub_tree.specs.Nodes.{Entries, entries_below, begins_with, joined_entries, node_entries, entries_under, children_entries, replica_of, contents_of, kids_of, layer_contents, layer_kids, node_get}
use Rattle.hub_tree.specs.declared.contents.Contents.{Contents}
use Rattle.hub_tree.specs.declared.contents.Contents.TheVariants as contents
use Rattle.hub_tree.specs.Tree.{Replica, contents_at}
use Rattle.hub_tree.specs.declared.node.Node.{Node}
use Rattle.hub_tree.specs.declared.node.Node.TheFolds.{fold-Node, fold_out-Node, map-Node}
use Rattle.hub_tree.specs.declared.node.Node.TheViews.{out-Node}
use Rattle.hub_tree.specs.declared.node.Node.TheViews as views
use Rattle.hub_tree.specs.declared.node.Node.TheBlock as block
use Rattle.hub_tree.specs.declared.node.Node.TheVariants as variants
use Rattle.std.specs.Arc.{arc_value}
use Rattle.std.specs.declared.sync.Arc.{Arc}
use Rattle.std.specs.Global.{Global}
use Rattle.std.specs.BTreeMap.{BTreeMap}
use Rattle.hub_tree.specs.declared.node.Node.TheOpen.{Node-F, File, Directory}
use Rattle.hub_tree.specs.laws.Order.{path_total, path_antisymmetric}

-- below a name
one_below : {X : Type 0} (r s : Ordering) (x : X) (o rest : Option X) → rest ≡ cond (is_eq r) o None → cond (is_eq (ordering_then r s)) (Some x) rest ≡ cond (is_eq r) (cond (is_eq s) (Some x) o) None
one_below Less s x o rest h = h
one_below Equal s x o rest h = ap (cond (is_eq s) (Some x)) h
one_below Greater s x o rest h = h

either_way : {X : Type 0} (b : Bool) (o : Option X) → o ≡ cond b o o
either_way true o = refl
either_way false o = refl

pub find-below : (n k : Name) (p : Path) (es : Entries) → find path_cmp (n ∷ p) (entries_below k es) ≡ cond (eq_by_cmp name_cmp n k) (find path_cmp p es) None
find-below n k p [] = either_way (eq_by_cmp name_cmp n k) None
find-below n k p (e ∷ es) = one_below (name_cmp n k) (path_cmp p e.0) e.1 _ _ (find-below n k p es)

pub find_top-below : (k : Name) (es : Entries) → find path_cmp [] (entries_below k es) ≡ None
find_top-below k [] = refl
find_top-below k (e ∷ es) = find_top-below k es

-- below several names
pub without : (k : Name) (q : Path) (es : Entries) → find path_cmp q (where_key path_cmp (λ p. not (begins_with k p)) es) ≡ cond (not (begins_with k q)) (find path_cmp q es) None
without k q es = find-where_key path_cmp (λ p. not (begins_with k p)) q (λ x t. ap (λ p. not (begins_with k p)) (sym (path_antisymmetric q x t))) es

first_or_rest : {X : Type 0} (b : Bool) (o rest found : Option X) → rest ≡ found → option_or (cond b o None) (cond (not b) rest None) ≡ cond b o found
first_or_rest true o rest found e = option_or-none o
first_or_rest false o rest found e = e

chosen : {X Y : Type 0} (f : X → Option Y) (b : Bool) (x : X) (o : Option X) → cond b (f x) (option_and_then f o) ≡ option_and_then f (cond b (Some x) o)
chosen f true x o = refl
chosen f false x o = refl

pub find-joined : (n : Name) (p : Path) (cs : List (Name × Entries)) → find path_cmp (n ∷ p) (joined_entries cs) ≡ option_and_then (λ es. find path_cmp p es) (find name_cmp n cs)
find-joined n p [] = refl
find-joined n p (c ∷ cs) =
    find-append path_cmp (n ∷ p) (entries_below c.0 c.1) _
    ∙ ap (λ o. option_or o (find path_cmp (n ∷ p) (where_key path_cmp (λ q. not (begins_with c.0 q)) (joined_entries cs)))) (find-below n c.0 p c.1)
    ∙ ap (option_or (cond (eq_by_cmp name_cmp n c.0) (find path_cmp p c.1) None)) (without c.0 (n ∷ p) (joined_entries cs))
    ∙ first_or_rest (eq_by_cmp name_cmp n c.0) _ _ _ (find-joined n p cs)
    ∙ chosen (λ es. find path_cmp p es) (eq_by_cmp name_cmp n c.0) c.1 (find name_cmp n cs)

pub find_top-joined : (cs : List (Name × Entries)) → find path_cmp [] (joined_entries cs) ≡ None
find_top-joined [] = refl
find_top-joined (c ∷ cs) = find-append path_cmp [] (entries_below c.0 c.1) _ ∙ ap (λ o. option_or o (find path_cmp [] (where_key path_cmp (λ p. not (begins_with c.0 p)) (joined_entries cs)))) (find_top-below c.0 c.1) ∙ without c.0 [] (joined_entries cs) ∙ find_top-joined cs

pub find-entries : (n : Name) (cs : List (Name × Node)) → find name_cmp n (map (λ c. (c.0, entries_under c.1)) cs) ≡ option_map entries_under (find name_cmp n cs)
find-entries n [] = refl
find-entries n (c ∷ cs) = elim (eq_by_cmp name_cmp n c.0) as (λ b. cond b (Some (entries_under c.1)) (find name_cmp n (map (λ d. (d.0, entries_under d.1)) cs)) ≡ option_map entries_under (cond b (Some c.1) (find name_cmp n cs))) [ true ↦ refl | false ↦ find-entries n cs ]

-- one node
layer_top : (x : Node-F Node) → find path_cmp [] (node_entries (map-Node Node Entries (fold-Node Entries node_entries) x)) ≡ Some (layer_contents x)
layer_top (File blob) = refl
layer_top (Directory children) = refl

layer_below : (m : Name) (p : Path) (x : Node-F Node) → find path_cmp (m ∷ p) (node_entries (map-Node Node Entries (fold-Node Entries node_entries) x)) ≡ find path_cmp (m ∷ p) (children_entries (layer_kids x))
layer_below m p (File blob) = refl
layer_below m p (Directory children) = refl

pub node_top : (x : Node) → find path_cmp [] (entries_under x) ≡ Some (contents_of x)
node_top x = ap (find path_cmp []) (fold_out-Node Entries node_entries x) ∙ layer_top (out-Node x)

pub node_below : (m : Name) (p : Path) (x : Node) → find path_cmp (m ∷ p) (entries_under x) ≡ find path_cmp (m ∷ p) (children_entries (kids_of x))
node_below m p x = ap (find path_cmp (m ∷ p)) (fold_out-Node Entries node_entries x) ∙ layer_below m p (out-Node x)

-- the laws of a look-up
pub get-replica_of : (cs : List (Name × Node)) (q : Path) → fin.get (replica_of cs) q ≡ find path_cmp q (children_entries cs)
unfolding replica_of
get-replica_of cs q = fin.get-from_entries path_total (children_entries cs) q

pub get_top : (cs : List (Name × Node)) → fin.get (replica_of cs) [] ≡ None
get_top cs = get-replica_of cs [] ∙ find_top-joined (map (λ c. (c.0, entries_under c.1)) cs)

find-node : (p : Path) (x : Node) → find path_cmp p (entries_under x) ≡ node_get p x
find-node [] x = node_top x
find-node (m ∷ p) x = node_below m p x ∙ sym (get-replica_of (kids_of x) (m ∷ p))

through : (p : Path) (o : Option Node) → option_and_then (λ es. find path_cmp p es) (option_map entries_under o) ≡ option_and_then (node_get p) o
through p None = refl
through p (Some x) = find-node p x

-- what is at a path is at the rest of it, below what its first name stands for
pub look_up : (cs : List (Name × Node)) (n : Name) (p : Path) → fin.get (replica_of cs) (n ∷ p) ≡ option_and_then (node_get p) (find name_cmp n cs)
look_up cs n p =
    get-replica_of cs (n ∷ p)
    ∙ find-joined n p (map (λ c. (c.0, entries_under c.1)) cs)
    ∙ ap (option_and_then (λ es. find path_cmp p es)) (find-entries n cs)
    ∙ through p (find name_cmp n cs)

pub get_nothing : (q : Path) → fin.get (replica_of []) q ≡ None
get_nothing q = get-replica_of [] q

-- along the names of a path
pub drop_at : (p : Path) (d : ℕ) (n : Name) → slice_get p d ≡ Some n → drop d p ≡ n ∷ drop (d + 1) p
drop_at p d n e = drop-cons p d n (slice_get_within p d n e) ∙ rw (get_or_from_slice_get p d n n e, add-one) refl

pub get_along : (cs : List (Name × Node)) (p : Path) (d : ℕ) (n : Name) (q : Path) → slice_get p d ≡ Some n → fin.get (replica_of cs) (drop d p ++ q) ≡ option_and_then (node_get (drop (d + 1) p ++ q)) (find name_cmp n cs)
get_along cs p d n q e = ap (λ r. fin.get (replica_of cs) (r ++ q)) (drop_at p d n e) ∙ look_up cs n (drop (d + 1) p ++ q)

pub last_rest : (p : Path) (d : ℕ) (n : Name) → slice_get p d ≡ Some n → d + 1 ≡ length p → n ∷ [] ≡ drop d p
last_rest p d n e l = sym (drop_at p d n e ∙ ap (λ q. n ∷ q) (ap (λ k. drop k p) l ∙ drop-length p))

pub rest_left : (p : Path) (d : ℕ) → d < length p → 0 < length (drop d p)
rest_left p d l = omega (arith, length-drop d p)

pub below_kids : (r : Path) (x : Node) → 0 < length r → node_get r x ≡ fin.get (replica_of (kids_of x)) r
below_kids [] x l = absurd (omega arith)
below_kids (m ∷ r) x l = refl

longer : (p q : Path) (d : ℕ) → d < length p → 0 < length (drop d p ++ q)
longer p q d l = omega (arith, length-append (drop d p) q, length-drop d p)

-- a name that stands for nothing
pub along_none : (cs : List (Name × Node)) (p : Path) (d : ℕ) (n : Name) (q : Path) → slice_get p d ≡ Some n → find name_cmp n cs ≡ None → fin.get (replica_of cs) (drop d p ++ q) ≡ None
along_none cs p d n q e f = get_along cs p d n q e ∙ ap (option_and_then (node_get (drop (d + 1) p ++ q))) f

-- the last name
pub along_last : (cs : List (Name × Node)) (p : Path) (d : ℕ) (n : Name) (q : Path) (x : Node) → slice_get p d ≡ Some n → d + 1 ≡ length p → find name_cmp n cs ≡ Some x → fin.get (replica_of cs) (drop d p ++ q) ≡ node_get q x
along_last cs p d n q x e l f =
    get_along cs p d n q e ∙ ap (option_and_then (node_get (drop (d + 1) p ++ q))) f
    ∙ ap (λ r. node_get (r ++ q) x) (ap (λ k. drop k p) l ∙ drop-length p)

-- an earlier name
pub along_kids : (cs : List (Name × Node)) (p : Path) (d : ℕ) (n : Name) (q : Path) (x : Node) (ks : List (Name × Node)) → slice_get p d ≡ Some n → d + 1 < length p → find name_cmp n cs ≡ Some x → kids_of x ≡ ks → fin.get (replica_of cs) (drop d p ++ q) ≡ fin.get (replica_of ks) (drop (d + 1) p ++ q)
along_kids cs p d n q x ks e l f k =
    get_along cs p d n q e ∙ ap (option_and_then (node_get (drop (d + 1) p ++ q))) f
    ∙ below_kids (drop (d + 1) p ++ q) x (longer p q (d + 1) l)
    ∙ ap (λ cs. fin.get (replica_of cs) (drop (d + 1) p ++ q)) k

pub along_file : (cs : List (Name × Node)) (p : Path) (d : ℕ) (n : Name) (q : Path) (x : Node) → slice_get p d ≡ Some n → d + 1 < length p → find name_cmp n cs ≡ Some x → kids_of x ≡ [] → fin.get (replica_of cs) (drop d p ++ q) ≡ None
along_file cs p d n q x e l f k = along_kids cs p d n q x [] e l f k ∙ get_nothing (drop (d + 1) p ++ q)

-- the two kinds of node
pub out-file : (b : List ℕ) → out-Node (block.File b) ≡ File b
out-file b = ap out-Node (sym (variants.rolls-File b)) ∙ views.out-roll-Node (File b)

pub out-directory : (m : Arc (BTreeMap Name Node) Global) → out-Node (views.Directory m) ≡ Directory m
out-directory m = ap out-Node (sym (variants.rolls-Directory m)) ∙ views.out-roll-Node (Directory m)

pub kids-file : (b : List ℕ) → kids_of (block.File b) ≡ []
kids-file b = ap layer_kids (out-file b)

pub kids-directory : (m : Arc (BTreeMap Name Node) Global) → kids_of (views.Directory m) ≡ (arc_value m).entries
kids-directory m = ap layer_kids (out-directory m)

pub contents-file : (b : List ℕ) → contents_of (block.File b) ≡ contents.File b
contents-file b = ap layer_contents (out-file b)

pub contents-directory : (m : Arc (BTreeMap Name Node) Global) → contents_of (views.Directory m) ≡ contents.Directory
contents-directory m = ap layer_contents (out-directory m)

-- a whole tree
pub replica_of-nothing : replica_of [] ≡ fin.empty
unfolding replica_of
replica_of-nothing = refl

at_names : (m : Replica) (p : Path) → 0 < length p → contents_at m p ≡ unwrap_or (fin.get m p) contents.Absent
at_names m [] l = absurd (omega arith)
at_names m (n ∷ p) l = refl

at_found : (cs : List (Name × Node)) (m : Replica) (p : Path) (o : Option Contents) → replica_of cs ≡ m → 0 < length p → fin.get (replica_of cs) (p ++ []) ≡ o → contents_at m p ≡ unwrap_or o contents.Absent
at_found cs m p o v l h = at_names m p l ∙ ap (λ o. unwrap_or o contents.Absent) (ap (λ m. fin.get m p) (sym v) ∙ ap (fin.get (replica_of cs)) (sym (append-nil p)) ∙ h)

pub contents_at-node : (cs : List (Name × Node)) (m : Replica) (p : Path) (x : Node) → replica_of cs ≡ m → 0 < length p → ((q : Path) → fin.get (replica_of cs) (p ++ q) ≡ node_get q x) → contents_at m p ≡ contents_of x
contents_at-node cs m p x v l h = at_found cs m p (Some (contents_of x)) v l (h [])

pub contents_at-nothing : (cs : List (Name × Node)) (m : Replica) (p : Path) → replica_of cs ≡ m → 0 < length p → ((q : Path) → fin.get (replica_of cs) (p ++ q) ≡ None) → contents_at m p ≡ contents.Absent
contents_at-nothing cs m p v l h = at_found cs m p None v l (h [])

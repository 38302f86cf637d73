-- How many entries a tree has.
use Rattle.std.proofs.Common.{◌≡◌, ℕ, ◌+◌, ◌≤◌, min, Bool, true, false, cond, not, List, [], ◌∷◌, ◌++◌, map, Option, Some, None, refl, ap, sym, ◌∙◌, arith, subst}
use Rattle.std.specs.Prelude.{sum_by}
use Rattle.std.specs.Arc.{arc_value}
use Rattle.std.specs.FinMap as fin
use Rattle.std.specs.FinMap.Entries.{find, where_key}
use Rattle.std.specs.List.{AllByRecursion}
use Rattle.std.specs.List.Sorted.{IsStrictlySortedBy}
use Rattle.std.specs.Map.{keys_of, values_of}
use Rattle.std.specs.Option.{option_and_then, option_or, is_some}
use Rattle.std.specs.Ordering.{eq_by_cmp, is_eq}
use Rattle.std.specs.declared.cmp.Ordering.TheVariants.{Less}
use Rattle.std.proofs.lemmas.List.Sums.{sum_by-cons}
use Rattle.std.proofs.lemmas.Map.Keys.{sorted_head, sorted_tail}
use Rattle.hub_path.specs.Path.{Name, Path, path_cmp, name_cmp}
use Rattle.hub_tree.specs.Nodes.{Entries, entries_below, begins_with, joined_entries, entries_under, children_entries, replica_of, size_of, layer_kids, node_entries}
use Rattle.hub_tree.specs.declared.contents.Contents.{Contents}
use Rattle.hub_tree.specs.declared.contents.Contents.TheVariants as contents
use Rattle.hub_tree.specs.declared.node.Node.{Node}
use Rattle.hub_tree.specs.declared.node.Node.TheFolds.{fold-Node, fold_out-Node, map-Node}
use Rattle.hub_tree.specs.declared.node.Node.TheViews.{out-Node}
use Rattle.hub_tree.specs.declared.node.Node.TheOpen.{Node-F, File, Directory}
use Rattle.hub_tree.specs.laws.Order.{path_total, path_antisymmetric, same_name, name_itself, path_itself}
use Rattle.hub_text.specs.laws.List.{find-append, option_or-none}
use Rattle.hub_tree.proofs.LookUp.{find-below, find-joined, find_top-joined, without}

abbrev len_of : Entries → ℕ
len_of es = fin.len (fin.from_entries {R = path_cmp} es)

len_of-nothing : len_of [] ≡ 0
len_of-nothing = fin.len-empty path_cmp Contents

len_of-cons : (e : Path × Contents) (es : Entries) → len_of (e ∷ es) ≡ cond (is_some (find path_cmp e.0 es)) (len_of es) (len_of es + 1)
len_of-cons e es = fin.len-insert path_total (fin.from_entries es) e.0 e.1 ∙ ap (λ o. cond (is_some o) (len_of es) (len_of es + 1)) (fin.get-from_entries path_total es e.0)

-- one after the other
abbrev ShareNoPath : Entries → Entries → Type 0
ShareNoPath xs ys = (q : Path) → is_some (find path_cmp q xs) ≡ true → find path_cmp q ys ≡ None

found_more : (b : Bool) (x : Contents) (o : Option Contents) → is_some o ≡ true → is_some (cond b (Some x) o) ≡ true
found_more true x o e = refl
found_more false x o e = e

stepped : (b : Bool) (m n s : ℕ) → s ≡ m + n → cond b s (s + 1) ≡ cond b m (m + 1) + n
stepped true m n s e = e
stepped false m n s e = omega arith

found_here : (x : Path × Contents) (xs : Entries) → is_some (find path_cmp x.0 (x ∷ xs)) ≡ true
found_here x xs = ap (λ b. is_some (cond b (Some x.1) (find path_cmp x.0 xs))) (path_itself x.0)

len_of-append : (xs ys : Entries) → ShareNoPath xs ys → len_of (xs ++ ys) ≡ len_of xs + len_of ys
len_of-append [] ys h = let e = len_of-nothing in omega arith
len_of-append (x ∷ xs) ys h =
    len_of-cons x (xs ++ ys)
    ∙ ap (λ o. cond (is_some o) (len_of (xs ++ ys)) (len_of (xs ++ ys) + 1)) (find-append path_cmp x.0 xs ys ∙ (ap (option_or (find path_cmp x.0 xs)) (h x.0 (found_here x xs)) ∙ option_or-none (find path_cmp x.0 xs)))
    ∙ stepped (is_some (find path_cmp x.0 xs)) (len_of xs) (len_of ys) (len_of (xs ++ ys)) (len_of-append xs ys (λ q e. h q (found_more (eq_by_cmp path_cmp q x.0) x.1 (find path_cmp q xs) e)))
    ∙ ap (λ n. n + len_of ys) (sym (len_of-cons x xs))

-- below a name
len_of-below : (n : Name) (es : Entries) → len_of (entries_below n es) ≡ len_of es
len_of-below n [] = refl
len_of-below n (e ∷ es) =
    len_of-cons (n ∷ e.0, e.1) (entries_below n es)
    ∙ ap (λ o. cond (is_some o) (len_of (entries_below n es)) (len_of (entries_below n es) + 1)) (find-below n n e.0 es ∙ ap (λ b. cond b (find path_cmp e.0 es) None) (name_itself n))
    ∙ ap (λ k. cond (is_some (find path_cmp e.0 es)) k (k + 1)) (len_of-below n es)
    ∙ sym (len_of-cons e es)

-- names that differ
apart_from_above : (n : Name) (cs : List (Name × Entries)) → AllByRecursion (λ k. name_cmp n k ≡ Less) (keys_of cs) → find name_cmp n cs ≡ None
apart_from_above n [] h = refl
apart_from_above n (c ∷ cs) h = ap (λ r. cond (is_eq r) (Some c.1) (find name_cmp n cs)) h.0 ∙ apart_from_above n cs h.1

none_at : (n : Name) (cs : List (Name × Entries)) (q : Path) (b : Bool) → find name_cmp n cs ≡ None → begins_with n q ≡ b → cond (not b) (find path_cmp q (joined_entries cs)) None ≡ find path_cmp q (joined_entries cs)
none_at n cs q false h e = refl
none_at n cs [] true h e = sym (find_top-joined cs)
none_at n cs (k ∷ p) true h e = sym (find-joined k p cs ∙ ap (λ m. option_and_then (λ es. find path_cmp p es) (find name_cmp m cs)) (same_name k n e) ∙ ap (option_and_then (λ es. find path_cmp p es)) h)

len_of-without : (n : Name) (cs : List (Name × Entries)) → find name_cmp n cs ≡ None → len_of (where_key path_cmp (λ p. not (begins_with n p)) (joined_entries cs)) ≡ len_of (joined_entries cs)
len_of-without n cs h =
    ap (λ m. fin.len m) (fin.same_map path_total path_antisymmetric (fin.from_entries (where_key path_cmp (λ p. not (begins_with n p)) (joined_entries cs))) (fin.from_entries (joined_entries cs))
    (λ q. fin.get-from_entries path_total (where_key path_cmp (λ p. not (begins_with n p)) (joined_entries cs)) q ∙ without n q (joined_entries cs) ∙ none_at n cs q (begins_with n q) h refl ∙ sym (fin.get-from_entries path_total (joined_entries cs) q)))

under : (n k : Name) (p : Path) (es : Entries) (b : Bool) → eq_by_cmp name_cmp k n ≡ b → is_some (cond b (find path_cmp p es) None) ≡ true → begins_with n (k ∷ p) ≡ true
under n k p es true e h = e
under n k p es false e h = cc

apart_below : (n : Name) (es : Entries) (cs : List (Name × Entries)) → ShareNoPath (entries_below n es) (where_key path_cmp (λ p. not (begins_with n p)) (joined_entries cs))
apart_below n es cs [] h = without n [] (joined_entries cs) ∙ find_top-joined cs
apart_below n es cs (k ∷ p) h =
    without n (k ∷ p) (joined_entries cs)
    ∙ ap (λ b. cond (not b) (find path_cmp (k ∷ p) (joined_entries cs)) None) (under n k p es (eq_by_cmp name_cmp k n) refl (sym (ap is_some (find-below k n p es)) ∙ h))

abbrev sizes : List (Name × Entries) → ℕ
sizes cs = sum_by (λ c. len_of c.1) cs

len_of-joined : (cs : List (Name × Entries)) → IsStrictlySortedBy name_cmp (keys_of cs) → len_of (joined_entries cs) ≡ sizes cs
len_of-joined [] h = len_of-nothing
len_of-joined (c ∷ cs) h =
    len_of-append (entries_below c.0 c.1) (where_key path_cmp (λ p. not (begins_with c.0 p)) (joined_entries cs)) (apart_below c.0 c.1 cs)
    ∙ ap (λ n. n + len_of (where_key path_cmp (λ p. not (begins_with c.0 p)) (joined_entries cs))) (len_of-below c.0 c.1)
    ∙ ap (λ n. len_of c.1 + n) (len_of-without c.0 cs (apart_from_above c.0 cs (sorted_head name_cmp c.0 (keys_of cs) h)) ∙ len_of-joined cs (sorted_tail name_cmp c.0 (keys_of cs) h))
    ∙ sym (sum_by-cons (λ c. len_of c.1) c cs)

-- nodes
len-replica_of : (cs : List (Name × Node)) → fin.len (replica_of cs) ≡ len_of (children_entries cs)
unfolding replica_of
len-replica_of cs = refl

pub len-nothing : fin.len (replica_of []) ≡ 0
len-nothing = len-replica_of [] ∙ len_of-nothing

layer_size : (x : Node-F Node) → len_of (node_entries (map-Node Node Entries (fold-Node Entries node_entries) x)) ≡ fin.len (replica_of (layer_kids x)) + 1
layer_size (File blob) = let e = len-replica_of [] in let f = len_of-nothing in let g = len_of-cons ([], contents.File blob) [] in omega arith
layer_size (Directory shared) =
    let kids = arc_value shared in
    len_of-cons ([], contents.Directory) (children_entries kids.entries)
    ∙ ap (λ o. cond (is_some o) (len_of (children_entries kids.entries)) (len_of (children_entries kids.entries) + 1)) (find_top-joined (map (λ c. (c.0, entries_under c.1)) kids.entries))
    ∙ ap (λ n. n + 1) (sym (len-replica_of kids.entries))

len_of-node : (x : Node) → len_of (entries_under x) ≡ size_of x
len_of-node x = ap len_of (fold_out-Node Entries node_entries x) ∙ layer_size (out-Node x)

keys-entries : (cs : List (Name × Node)) → keys_of (map (λ c. (c.0, entries_under c.1)) cs) ≡ keys_of cs
keys-entries [] = refl
keys-entries (c ∷ cs) = ap (λ ks. c.0 ∷ ks) (keys-entries cs)

sizes-nodes : (cs : List (Name × Node)) → sizes (map (λ c. (c.0, entries_under c.1)) cs) ≡ sum_by size_of (values_of cs)
sizes-nodes [] = refl
sizes-nodes (c ∷ cs) =
    sum_by-cons (λ c. len_of c.1) (c.0, entries_under c.1) (map (λ c. (c.0, entries_under c.1)) cs)
    ∙ (λ i. len_of-node c.1 i + sizes-nodes cs i)
    ∙ sym (sum_by-cons size_of c.1 (values_of cs))

-- the count of a directory is the sum over what it holds
pub len-sizes : (cs : List (Name × Node)) → IsStrictlySortedBy name_cmp (keys_of cs) → fin.len (replica_of cs) ≡ sum_by size_of (values_of cs)
len-sizes cs h =
    len-replica_of cs
    ∙ len_of-joined (map (λ c. (c.0, entries_under c.1)) cs) (subst (λ (ks : List Name). IsStrictlySortedBy name_cmp ks) (sym (keys-entries cs)) h)
    ∙ sizes-nodes cs

-- a count that has come to the end
pub counted : (count len total : ℕ) (left : List Node) → left ≡ [] → min (count + sum_by size_of left) 18446744073709551615 ≡ min total 18446744073709551615 → len ≡ total → count ≤ 18446744073709551615 → count ≡ min len 18446744073709551615
counted count len total left e h same fits =
    let none : min (count + 0) 18446744073709551615 ≡ min total 18446744073709551615 = sym (ap (λ xs. min (count + sum_by size_of xs) 18446744073709551615) e) ∙ h in
    omega arith

counted_step : (count one more size rest total : ℕ) → more ≡ min (count + one) 18446744073709551615 → one ≡ min size 18446744073709551615 → min (count + (size + rest)) 18446744073709551615 ≡ total
    → (min (more + rest) 18446744073709551615 ≡ total) × (more ≤ 18446744073709551615)
counted_step count one more size rest total m o h = (omega arith, omega arith)

-- one more node is counted
pub counted_more : (count one more total : ℕ) (x : Node) (left rest : List Node) → more ≡ min (count + one) 18446744073709551615 → one ≡ min (size_of x) 18446744073709551615 → left ≡ x ∷ rest
    → min (count + sum_by size_of left) 18446744073709551615 ≡ total → (min (more + sum_by size_of rest) 18446744073709551615 ≡ total) × (more ≤ 18446744073709551615)
counted_more count one more total x left rest m o step h =
    counted_step count one more (size_of x) (sum_by size_of rest) total m o
    (sym (ap (λ n. min (count + n) 18446744073709551615) (ap (λ xs. sum_by size_of xs) step ∙ sum_by-cons size_of x rest)) ∙ h)

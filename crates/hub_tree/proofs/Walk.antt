-- The entries of a tree in order: for each name, what is there and then what it holds.
use Rattle.std.proofs.Common.{◌≡◌, ◌<◌, Bool, true, false, cond, T, List, [], ◌∷◌, ◌++◌, length, Option, Some, None, refl, ap, sym, ◌∙◌, subst, append_assoc, append-nil, arith}
use Rattle.std.specs.FinMap as fin
use Rattle.std.specs.FinMap.Entries.{find, is_sorted}
use Rattle.std.specs.List.{flat_map}
use Rattle.std.specs.List.Sorted.{IsStrictlySortedBy}
use Rattle.std.specs.Map.{keys_of}
use Rattle.std.specs.Option.{option_and_then, option_or}
use Rattle.std.specs.Ordering.{eq_by_cmp}
use Rattle.std.proofs.lemmas.List.{map-append}
use Rattle.std.proofs.lemmas.Map.Keys.{sorted_head, sorted_tail}
use Rattle.hub_text.specs.laws.Test.{T-first, T-second}
use Rattle.hub_path.specs.Path.{Name, Path, path_cmp, name_cmp}
use Rattle.hub_tree.specs.Levels.{entries_after, level_entries, left_in, all_ascend}
use Rattle.hub_tree.specs.Nodes.{Entries, replica_of, kids_of, node_get, contents_of, entries_below}
use Rattle.hub_tree.specs.declared.contents.Contents.{Contents}
use Rattle.hub_tree.specs.declared.entries.Level.{Level}
use Rattle.hub_tree.specs.declared.node.Node.{Node}
use Rattle.hub_tree.specs.laws.Ascending.{both, entries-ascending}
use Rattle.hub_tree.specs.laws.Children.{sorted_keys}
use Rattle.hub_text.specs.laws.List.{find-append, option_or-none}
use Rattle.hub_tree.proofs.LookUp.{find-below, find_top-below, look_up, get_top}
use Rattle.hub_tree.specs.laws.Order.{path_total, path_antisymmetric, same_name}
use Rattle.hub_tree.proofs.Paths.{named, node_paths, all_paths, above_none, all_ascend as paths_ascend}

abbrev pub node_all : Node → Entries
node_all x = ([], contents_of x) ∷ fin.entries (replica_of (kids_of x))

abbrev pub all_entries : List (Name × Node) → Entries
all_entries cs = flat_map (λ c. entries_below c.0 (node_all c.1)) cs

-- Their paths.
keys-below : (n : Name) (es : Entries) → keys_of (entries_below n es) ≡ named n (keys_of es)
keys-below n [] = refl
keys-below n (e ∷ es) = ap (λ ks. (n ∷ e.0) ∷ ks) (keys-below n es)

keys-append : (es fs : Entries) → keys_of (es ++ fs) ≡ keys_of es ++ keys_of fs
keys-append [] fs = refl
keys-append (e ∷ es) fs = ap (λ ks. e.0 ∷ ks) (keys-append es fs)

keys-all : (cs : List (Name × Node)) → keys_of (all_entries cs) ≡ all_paths cs
keys-all [] = refl
keys-all (c ∷ cs) =
    keys-append (entries_below c.0 (node_all c.1)) (all_entries cs)
    ∙ ap (λ ks. ks ++ keys_of (all_entries cs)) (keys-below c.0 (node_all c.1))
    ∙ ap (λ ks. named c.0 (node_paths c.1) ++ ks) (keys-all cs)

-- What is at a path among them.
find_node : (r : Path) (x : Node) → find path_cmp r (node_all x) ≡ node_get r x
find_node [] x = refl
find_node (m ∷ p) x = sym (fin.get-entries (replica_of (kids_of x)) (m ∷ p))

one_of_two : (b : Bool) (r : Path) (x : Node) (o : Option Node) → (b ≡ true → o ≡ None)
    → option_or (cond b (node_get r x) None) (option_and_then (node_get r) o) ≡ option_and_then (node_get r) (cond b (Some x) o)
one_of_two true r x o none = ap (λ u. option_or (node_get r x) (option_and_then (node_get r) u)) (none refl) ∙ option_or-none (node_get r x)
one_of_two false r x o none = refl

find-all : (k : Name) (r : Path) (cs : List (Name × Node)) → IsStrictlySortedBy name_cmp (keys_of cs)
    → find path_cmp (k ∷ r) (all_entries cs) ≡ option_and_then (node_get r) (find name_cmp k cs)
find-all k r [] h = refl
find-all k r (c ∷ cs) h =
    find-append path_cmp (k ∷ r) (entries_below c.0 (node_all c.1)) (all_entries cs)
    ∙ ap (λ o. option_or o (find path_cmp (k ∷ r) (all_entries cs))) (find-below k c.0 r (node_all c.1))
    ∙ ap (λ o. option_or (cond (eq_by_cmp name_cmp k c.0) o None) (find path_cmp (k ∷ r) (all_entries cs))) (find_node r c.1)
    ∙ ap (option_or (cond (eq_by_cmp name_cmp k c.0) (node_get r c.1) None)) (find-all k r cs (sorted_tail name_cmp c.0 (keys_of cs) h))
    ∙ one_of_two (eq_by_cmp name_cmp k c.0) r c.1 (find name_cmp k cs)
    (λ e. ap (λ n. find name_cmp n cs) (same_name k c.0 e) ∙ above_none c.0 cs (sorted_head name_cmp c.0 (keys_of cs) h))

top_not_all : (cs : List (Name × Node)) → find path_cmp [] (all_entries cs) ≡ None
top_not_all [] = refl
top_not_all (c ∷ cs) =
    find-append path_cmp [] (entries_below c.0 (node_all c.1)) (all_entries cs)
    ∙ ap (λ o. option_or o (find path_cmp [] (all_entries cs))) (find_top-below c.0 (node_all c.1)) ∙ top_not_all cs

-- So they are the entries of the map.
pub entries-replica_of : (cs : List (Name × Node)) → IsStrictlySortedBy name_cmp (keys_of cs) → fin.entries (replica_of cs) ≡ all_entries cs
entries-replica_of cs h =
    ap fin.entries (fin.same_map path_total path_antisymmetric (replica_of cs) (fin.from_entries (all_entries cs)) at)
    ∙ entries-ascending path_total path_antisymmetric (all_entries cs)
    (subst (λ (ks : List Path). IsStrictlySortedBy path_cmp ks) (sym (keys-all cs)) (paths_ascend cs h))
  where
    at : (q : Path) → fin.get (replica_of cs) q ≡ fin.get (fin.from_entries {R = path_cmp} (all_entries cs)) q
    at [] = get_top cs ∙ sym (fin.get-from_entries path_total (all_entries cs) [] ∙ top_not_all cs)
    at (k ∷ r) = look_up cs k r ∙ sym (fin.get-from_entries path_total (all_entries cs) (k ∷ r) ∙ find-all k r cs h)

-- The same after a prefix.
after-append : (p : Path) (es fs : Entries) → entries_after p (es ++ fs) ≡ entries_after p es ++ entries_after p fs
after-append p es fs = map-append (λ e. (p ++ e.0, e.1)) es fs

after-below : (p : Path) (n : Name) (es : Entries) → entries_after (p ++ n ∷ []) es ≡ entries_after p (entries_below n es)
after-below p n [] = refl
after-below p n (e ∷ es) = λ i. (append_assoc p (n ∷ []) e.0 i, e.1) ∷ after-below p n es i

after-top : (es : Entries) → entries_after [] es ≡ es
after-top [] = refl
after-top (e ∷ es) = ap (λ fs. e ∷ fs) (after-top es)

-- The first of the children that are left.
pub first_child : (p : Path) (n : Name) (x : Node) (rest : List (Name × Node)) → IsStrictlySortedBy name_cmp (keys_of ((n, x) ∷ rest))
    → entries_after p (fin.entries (replica_of ((n, x) ∷ rest)))
    ≡ (p ++ n ∷ [], contents_of x) ∷ (entries_after (p ++ n ∷ []) (fin.entries (replica_of (kids_of x))) ++ entries_after p (fin.entries (replica_of rest)))
first_child p n x rest h =
    ap (entries_after p) (entries-replica_of ((n, x) ∷ rest) h)
    ∙ after-append p (entries_below n (node_all x)) (all_entries rest)
    ∙ ap (λ es. es ++ entries_after p (all_entries rest)) (sym (after-below p n (node_all x)))
    ∙ ap (λ q. (q, contents_of x) ∷ (entries_after (p ++ n ∷ []) (fin.entries (replica_of (kids_of x))) ++ entries_after p (all_entries rest))) (append-nil (p ++ n ∷ []))
    ∙ ap (λ es. (p ++ n ∷ [], contents_of x) ∷ (entries_after (p ++ n ∷ []) (fin.entries (replica_of (kids_of x))) ++ entries_after p es))
    (sym (entries-replica_of rest (sorted_tail name_cmp n (keys_of rest) h)))

pub no_child : (p : Path) → entries_after p (fin.entries (replica_of [])) ≡ []
unfolding IsStrictlySortedBy
no_child p = ap (entries_after p) (entries-replica_of [] tt)

-- One more level.
pub left-push : (ls : List Level) (l : Level) → left_in (ls ++ l ∷ []) ≡ level_entries l ++ left_in ls
left-push [] l = sym (append-nil (level_entries l))
left-push (k ∷ ls) l = ap (λ es. es ++ level_entries k) (left-push ls l) ∙ append_assoc (level_entries l) (left_in ls) (level_entries k)

pub ascend-push : (ls : List Level) (l : Level) → T (all_ascend ls) → T (is_sorted name_cmp l.children) → T (all_ascend (ls ++ l ∷ []))
ascend-push [] l h k = both _ _ k tt
ascend-push (m ∷ ls) l h k = both _ _ (T-first (is_sorted name_cmp m.children) (all_ascend ls) h) (ascend-push ls l (T-second (is_sorted name_cmp m.children) (all_ascend ls) h) k)

pub ascend-first : (ls : List Level) (l : Level) → T (all_ascend (ls ++ l ∷ [])) → T (all_ascend ls)
ascend-first [] l h = tt
ascend-first (m ∷ ls) l h =
    both _ _ (T-first (is_sorted name_cmp m.children) (all_ascend (ls ++ l ∷ [])) h) (ascend-first ls l (T-second (is_sorted name_cmp m.children) (all_ascend (ls ++ l ∷ [])) h))

pub ascend-last : (ls : List Level) (l : Level) → T (all_ascend (ls ++ l ∷ [])) → T (is_sorted name_cmp l.children)
ascend-last [] l h = T-first (is_sorted name_cmp l.children) true h
ascend-last (m ∷ ls) l h = ascend-last ls l (T-second (is_sorted name_cmp m.children) (all_ascend (ls ++ l ∷ [])) h)

pub one_level : (l : Level) (es : Entries) → l.path ≡ [] → fin.entries (replica_of l.children) ≡ es → left_in (l ∷ []) ≡ es
one_level l es top e = ap (λ p. entries_after p (fin.entries (replica_of l.children))) top ∙ after-top (fin.entries (replica_of l.children)) ∙ e

-- A level that is put back, and one above it for a directory.
pub entered_file : (old new : List Level) (l : Level) (n : Name) (x : Node) → new ≡ old ++ l ∷ [] → kids_of x ≡ []
    → left_in new ≡ entries_after (l.path ++ n ∷ []) (fin.entries (replica_of (kids_of x))) ++ (level_entries l ++ left_in old)
entered_file old new l n x e k =
    ap left_in e ∙ left-push old l
    ∙ sym (ap (λ es. es ++ (level_entries l ++ left_in old)) (ap (λ ks. entries_after (l.path ++ n ∷ []) (fin.entries (replica_of ks))) k ∙ no_child (l.path ++ n ∷ [])))

pub entered_directory : (old middle new : List Level) (l i : Level) (n : Name) (x : Node) (kids : List (Name × Node)) → middle ≡ old ++ l ∷ [] → new ≡ middle ++ i ∷ []
    → i.path ≡ l.path ++ n ∷ [] → i.children ≡ kids → kids_of x ≡ kids
    → left_in new ≡ entries_after (l.path ++ n ∷ []) (fin.entries (replica_of (kids_of x))) ++ (level_entries l ++ left_in old)
entered_directory old middle new l i n x kids e f path here there =
    ap left_in f ∙ left-push middle i
    ∙ ap (λ es. level_entries i ++ es) (ap left_in e ∙ left-push old l)
    ∙ ap (λ p. entries_after p (fin.entries (replica_of i.children)) ++ (level_entries l ++ left_in old)) path
    ∙ ap (λ ks. entries_after (l.path ++ n ∷ []) (fin.entries (replica_of ks)) ++ (level_entries l ++ left_in old)) (here ∙ sym there)

-- A level with no child left.
pub passed_level : (old new : List Level) (l : Level) → old ≡ new ++ l ∷ [] → l.children ≡ [] → left_in old ≡ left_in new
passed_level old new l e none =
    ap left_in e ∙ left-push new l ∙ ap (λ es. es ++ left_in new) (ap (λ cs. entries_after l.path (fin.entries (replica_of cs))) none ∙ no_child l.path)

-- The entry of the first child that is left of the last level.
pub first_left : (all : Entries) (old middle : List Level) (l : Level) (n : Name) (x : Node) (rest : List (Name × Node)) → left_in old ≡ all → old ≡ middle ++ l ∷ []
    → l.children ≡ (n, x) ∷ rest → T (all_ascend old)
    → all ≡ (l.path ++ n ∷ [], contents_of x) ∷ (entries_after (l.path ++ n ∷ []) (fin.entries (replica_of (kids_of x))) ++ (entries_after l.path (fin.entries (replica_of rest)) ++ left_in middle))
first_left all old middle l n x rest is e f h =
    let sorted : IsStrictlySortedBy name_cmp (keys_of ((n, x) ∷ rest))
    = subst (λ (cs : List (Name × Node)). IsStrictlySortedBy name_cmp (keys_of cs)) f (sorted_keys name_cmp l.children (ascend-last middle l (subst (λ (ls : List Level). T (all_ascend ls)) e h))) in
    sym is ∙ ap left_in e ∙ left-push middle l
    ∙ ap (λ es. es ++ left_in middle) (ap (λ cs. entries_after l.path (fin.entries (replica_of cs))) f ∙ first_child l.path n x rest sorted)
    ∙ ap (λ es. (l.path ++ n ∷ [], contents_of x) ∷ es)
    (append_assoc (entries_after (l.path ++ n ∷ []) (fin.entries (replica_of (kids_of x)))) (entries_after l.path (fin.entries (replica_of rest))) (left_in middle))

pub some_left : (all es : Entries) (e : Path × Contents) → all ≡ e ∷ es → 0 < length all
some_left all es e is = rw is (omega arith)

pub taken : (all left rest : Entries) (p q : Path) (c d : Contents) → all ≡ (p, c) ∷ rest → q ≡ p → d ≡ c → left ≡ rest → all ≡ (q, d) ∷ left
taken all left rest p q c d is e f g =
    is ∙ ap (λ x. (x, c) ∷ rest) (sym e) ∙ ap (λ x. (q, x) ∷ rest) (sym f) ∙ ap (λ es. (q, d) ∷ es) (sym g)

-- The levels below still ascend.
pub ascend-rest : (old middle : List Level) (l : Level) → old ≡ middle ++ l ∷ [] → T (all_ascend old) → T (all_ascend middle)
ascend-rest old middle l e h = ascend-first middle l (subst (λ (ls : List Level). T (all_ascend ls)) e h)

pub ascend-left : (old middle : List Level) (l : Level) (n : Name) (x : Node) (rest : List (Name × Node)) → old ≡ middle ++ l ∷ [] → l.children ≡ (n, x) ∷ rest → T (all_ascend old) → T (is_sorted name_cmp rest)
ascend-left old middle l n x rest e f h =
    T-second _ (is_sorted name_cmp rest) (subst (λ (cs : List (Name × Node)). T (is_sorted name_cmp cs)) f (ascend-last middle l (subst (λ (ls : List Level). T (all_ascend ls)) e h)))

pub only_level : (none ls : List Level) (l : Level) → none ≡ [] → ls ≡ none ++ l ∷ [] → ls ≡ l ∷ []
only_level none ls l e f = f ∙ ap (λ ks. ks ++ l ∷ []) e

-- What a change of one path leaves, and when it is refused.
use Rattle.std.proofs.Common.{◌≡◌, ℕ, ◌<◌, Bool, true, false, cond, ◌&&◌, not, List, [], ◌∷◌, ◌++◌, length, Option, Some, None, refl, ap, sym, ◌∙◌, arith, subst}
use Rattle.std.specs.Prelude.{◌==◌, if◌then◌else◌, Result, Ok, Err, IsErrAnd, ⊤}
use Rattle.std.specs.Arc.{arc_value}
use Rattle.std.specs.FinMap as fin
use Rattle.std.specs.FinMap.Entries.{find}
use Rattle.std.specs.Option.{option_and_then, unwrap_or}
use Rattle.std.specs.Cmp.{eq_by_cmp_equiv}
use Rattle.std.specs.Ordering.{eq_by_cmp}
use Rattle.std.proofs.lemmas.Bool.{false≢true, false_from_ne_true}
use Rattle.std.proofs.lemmas.Option.{same_Some}
use Rattle.hub_path.specs.Path.{Name, Path, path_cmp, name_cmp, parent}
use Rattle.hub_tree.specs.Tree.{Replica, contents_at, is_absent, is_directory, children, set_fault, with_contents, IsRefusal}
use Rattle.hub_tree.specs.Nodes.{replica_of, node_get, contents_of, kids_of, layer_contents, layer_kids, occupied, contents_or_absent, fault_below, SetsOrRefuses}
use Rattle.hub_tree.specs.declared.contents.Contents.{Contents}
use Rattle.hub_tree.specs.declared.contents.Contents.TheVariants as contents
use Rattle.hub_tree.specs.declared.fault.SetFault.{SetFault}
use Rattle.hub_tree.specs.declared.fault.SetFault.TheVariants.{NoParent, NotEmpty, NothingThere, OutOfMemory}
use Rattle.hub_tree.specs.declared.node.Node.{Node}
use Rattle.hub_tree.specs.declared.node.Node.TheViews.{out-Node}
use Rattle.hub_tree.specs.declared.node.Node.TheOpen.{Node-F, File, Directory}
use Rattle.hub_tree.specs.laws.Order.{name_total, path_total, path_antisymmetric, same_name, name_itself, is_eq-then}
use Rattle.hub_tree.proofs.LookUp.{look_up, get_top, get_nothing}
use Rattle.hub_tree.specs.laws.Children.{is_there, one_item, childless_none, none_childless, same_childless}
use Rattle.hub_tree.specs.laws.Beneath.{is_a_directory}
use Rattle.hub_tree.specs.laws.Contented.{held, get-with_contents}

-- The names fs have w under n, and what cs have elsewhere.
abbrev pub Changes : List (Name × Node) → List (Name × Node) → Name → Option Node → Type 0
Changes cs fs n w = (k : Name) → find name_cmp k fs ≡ cond (eq_by_cmp name_cmp n k) w (find name_cmp k cs)

turned : (n k : Name) (r p : Path) → eq_by_cmp path_cmp (k ∷ r) (n ∷ p) ≡ (eq_by_cmp name_cmp n k && eq_by_cmp path_cmp r p)
turned n k r p = is_eq-then (name_cmp k n) (path_cmp r p) ∙ ap (λ b. b && eq_by_cmp path_cmp r p) ((eq_by_cmp_equiv name_total).symm k n)

one_name : (cs : List (Name × Node)) (n k : Name) (r p : Path) (w : Option Node) (c : Contents)
    → option_and_then (node_get r) w ≡ cond (eq_by_cmp path_cmp r p) (held c) (option_and_then (node_get r) (find name_cmp n cs))
    → (b : Bool) → eq_by_cmp name_cmp n k ≡ b
    → option_and_then (node_get r) (cond b w (find name_cmp k cs)) ≡ cond (b && eq_by_cmp path_cmp r p) (held c) (option_and_then (node_get r) (find name_cmp k cs))
one_name cs n k r p w c h true e = h ∙ ap (λ j. cond (eq_by_cmp path_cmp r p) (held c) (option_and_then (node_get r) (find name_cmp j cs))) (same_name n k e)
one_name cs n k r p w c h false e = refl

changed_get : (cs fs : List (Name × Node)) (n : Name) (p : Path) (w : Option Node) (c : Contents) → Changes cs fs n w
    → ((r : Path) → option_and_then (node_get r) w ≡ cond (eq_by_cmp path_cmp r p) (held c) (option_and_then (node_get r) (find name_cmp n cs)))
    → (q : Path) → fin.get (replica_of fs) q ≡ cond (eq_by_cmp path_cmp q (n ∷ p)) (held c) (fin.get (replica_of cs) q)
changed_get cs fs n p w c change h [] = get_top fs ∙ sym (get_top cs)
changed_get cs fs n p w c change h (k ∷ r) =
    look_up fs k r ∙ ap (option_and_then (node_get r)) (change k)
    ∙ one_name cs n k r p w c (h r) (eq_by_cmp name_cmp n k) refl
    ∙ ap (cond (eq_by_cmp name_cmp n k && eq_by_cmp path_cmp r p) (held c)) (sym (look_up cs k r))
    ∙ ap (λ b. cond b (held c) (fin.get (replica_of cs) (k ∷ r))) (sym (turned n k r p))

pub changed_below : (cs fs : List (Name × Node)) (n : Name) (p : Path) (w : Option Node) (c : Contents) → Changes cs fs n w
    → ((r : Path) → option_and_then (node_get r) w ≡ cond (eq_by_cmp path_cmp r p) (held c) (option_and_then (node_get r) (find name_cmp n cs)))
    → replica_of fs ≡ with_contents (replica_of cs) (n ∷ p) c
changed_below cs fs n p w c change h =
    fin.same_map path_total path_antisymmetric (replica_of fs) (with_contents (replica_of cs) (n ∷ p) c)
    (λ q. changed_get cs fs n p w c change h q ∙ sym (get-with_contents (replica_of cs) (n ∷ p) c q))

-- one name
-- Nothing stands below.
abbrev pub IsBare : Option Node → Type 0
IsBare o = (s : Name) (t : Path) → option_and_then (node_get (s ∷ t)) o ≡ None

pub bare_nothing : IsBare None
bare_nothing s t = refl

pub bare_kids : (x : Node) → kids_of x ≡ [] → IsBare (Some x)
bare_kids x e = λ s t. ap (λ ks. fin.get (replica_of ks) (s ∷ t)) e ∙ get_nothing (s ∷ t)

no_kids : {X : Type 0} (ks : List X) → not (length ks == 0) ≡ false → ks ≡ []
no_kids [] e = refl
no_kids (k ∷ ks) e = absurd (false≢true (sym e ∙ ap not (one_item k ks)))

pub bare_vacant : (o : Option Node) → occupied o ≡ false → IsBare o
bare_vacant None e = bare_nothing
bare_vacant (Some x) e = bare_kids x (no_kids (kids_of x) e)

child_gets : (cs : List (Name × Node)) (n : Name) (w : Option Node) (c : Contents) → IsBare (find name_cmp n cs) → IsBare w → option_and_then (node_get []) w ≡ held c
    → (r : Path) → option_and_then (node_get r) w ≡ cond (eq_by_cmp path_cmp r []) (held c) (option_and_then (node_get r) (find name_cmp n cs))
child_gets cs n w c old new value [] = value
child_gets cs n w c old new value (s ∷ t) = new s t ∙ sym (old s t)

pub changed_child : (cs fs : List (Name × Node)) (n : Name) (w : Option Node) (c : Contents) → Changes cs fs n w → IsBare (find name_cmp n cs) → IsBare w
    → option_and_then (node_get []) w ≡ held c → replica_of fs ≡ with_contents (replica_of cs) (n ∷ []) c
changed_child cs fs n w c change old new value = changed_below cs fs n [] w c change (child_gets cs n w c old new value)

unchanged_at : (cs : List (Name × Node)) (n k : Name) (b : Bool) → eq_by_cmp name_cmp n k ≡ b → find name_cmp k cs ≡ cond b (find name_cmp n cs) (find name_cmp k cs)
unchanged_at cs n k true e = ap (λ j. find name_cmp j cs) (sym (same_name n k e))
unchanged_at cs n k false e = refl

unchanged : (cs : List (Name × Node)) (n : Name) → Changes cs cs n (find name_cmp n cs)
unchanged cs n k = unchanged_at cs n k (eq_by_cmp name_cmp n k) refl

again_gets : (cs : List (Name × Node)) (n : Name) (x : Node) → find name_cmp n cs ≡ Some x → contents_of x ≡ contents.Directory
    → (r : Path) → option_and_then (node_get r) (find name_cmp n cs) ≡ cond (eq_by_cmp path_cmp r []) (held contents.Directory) (option_and_then (node_get r) (find name_cmp n cs))
again_gets cs n x e d [] = ap (option_and_then (node_get [])) e ∙ ap Some d
again_gets cs n x e d (s ∷ t) = refl

pub directory_again : (cs : List (Name × Node)) (n : Name) (x : Node) → find name_cmp n cs ≡ Some x → contents_of x ≡ contents.Directory → replica_of cs ≡ with_contents (replica_of cs) (n ∷ []) contents.Directory
directory_again cs n x e d = changed_below cs cs n [] (find name_cmp n cs) contents.Directory (unchanged cs n) (again_gets cs n x e d)

-- the faults at one name
contents_of_child : (cs : List (Name × Node)) (n : Name) (o : Option Node) → find name_cmp n cs ≡ o → contents_at (replica_of cs) (n ∷ []) ≡ unwrap_or (option_and_then (node_get []) o) contents.Absent
contents_of_child cs n o e = ap (λ o. unwrap_or o contents.Absent) (look_up cs n [] ∙ ap (option_and_then (node_get [])) e)

layer_shown : (x : Node-F Node) → not (is_absent (layer_contents x)) ≡ true
layer_shown (File blob) = refl
layer_shown (Directory kids) = refl

pub node_shown : (x : Node) → is_there (Some (contents_of x)) ≡ true
node_shown x = layer_shown (out-Node x)

find_first : (e : Name × Node) (es : List (Name × Node)) → find name_cmp e.0 (e ∷ es) ≡ Some e.1
find_first e es = ap (λ b. cond b (Some e.1) (find name_cmp e.0 es)) (name_itself e.0)

childless_top : (ks : List (Name × Node)) → (length (children (replica_of ks) []) == 0) ≡ (length ks == 0)
childless_top [] = none_childless (replica_of []) [] (λ n. ap is_there (get_nothing (n ∷ [])))
childless_top (e ∷ es) =
    false_from_ne_true _ (λ s. false≢true (sym (childless_none (replica_of (e ∷ es)) [] s e.0)
    ∙ (ap is_there (look_up (e ∷ es) e.0 [] ∙ ap (option_and_then (node_get [])) (find_first e es)) ∙ node_shown e.1)))
    ∙ sym (one_item e es)

childless_child : (cs : List (Name × Node)) (n : Name) (x : Node) → find name_cmp n cs ≡ Some x → (length (children (replica_of cs) (n ∷ [])) == 0) ≡ (length (kids_of x) == 0)
childless_child cs n x e =
    same_childless (replica_of cs) (replica_of (kids_of x)) (n ∷ []) [] (λ k. look_up cs n (k ∷ []) ∙ ap (option_and_then (node_get (k ∷ []))) e)
    ∙ childless_top (kids_of x)

-- the tests behind that of the parent
abbrev later_fault : Contents → Bool → Contents → Option SetFault
later_fault d childless c = if is_directory d && not (is_directory c) && not childless then Some NotEmpty else (if is_absent d && is_absent c then Some NothingThere else None)

abbrev child_fault : Option Node → Contents → Option SetFault
child_fault None c = if is_absent c then Some NothingThere else None
child_fault (Some x) c = if not (length (kids_of x) == 0) && not (is_directory c) then Some NotEmpty else None

swapped : (a b : Bool) → (if a && b then Some NotEmpty else None) ≡ (if b && a then Some NotEmpty else None)
swapped true true = refl
swapped true false = refl
swapped false true = refl
swapped false false = refl

layer_fault : (x : Node-F Node) (c : Contents) → later_fault (layer_contents x) (length (layer_kids x) == 0) c ≡ (if not (length (layer_kids x) == 0) && not (is_directory c) then Some NotEmpty else None)
layer_fault (File blob) c = refl
layer_fault (Directory kids) c = swapped (not (is_directory c)) (not (length (arc_value kids).entries == 0))

set_fault-child : (cs : List (Name × Node)) (n : Name) (c : Contents) (o : Option Node) → find name_cmp n cs ≡ o → set_fault (replica_of cs) (n ∷ []) c ≡ child_fault o c
set_fault-child cs n c None e = ap (λ d. later_fault d (length (children (replica_of cs) (n ∷ [])) == 0) c) (contents_of_child cs n None e)
set_fault-child cs n c (Some x) e =
    ap (λ d. later_fault d (length (children (replica_of cs) (n ∷ [])) == 0) c) (contents_of_child cs n (Some x) e)
    ∙ ap (λ b. later_fault (contents_of x) b c) (childless_child cs n x e)
    ∙ layer_fault (out-Node x) c

occupied_child : (o : Option Node) (c : Contents) → is_directory c ≡ false → occupied o ≡ true → child_fault o c ≡ Some NotEmpty
occupied_child None c d h = absurd (false≢true h)
occupied_child (Some x) c d h = rw (h, d) refl

pub occupied_fault : (cs : List (Name × Node)) (n : Name) (c : Contents) → is_directory c ≡ false → occupied (find name_cmp n cs) ≡ true → set_fault (replica_of cs) (n ∷ []) c ≡ Some NotEmpty
occupied_fault cs n c d h = set_fault-child cs n c (find name_cmp n cs) refl ∙ occupied_child (find name_cmp n cs) c d h

vacant_child : (o : Option Node) (c : Contents) → is_absent c ≡ false → occupied o ≡ false → child_fault o c ≡ None
vacant_child None c a h = rw a refl
vacant_child (Some x) c a h = rw h refl

pub vacant_fault : (cs : List (Name × Node)) (n : Name) (c : Contents) → is_absent c ≡ false → occupied (find name_cmp n cs) ≡ false → set_fault (replica_of cs) (n ∷ []) c ≡ None
vacant_fault cs n c a h = set_fault-child cs n c (find name_cmp n cs) refl ∙ vacant_child (find name_cmp n cs) c a h

and_never : (b : Bool) → (if b && false then Some NotEmpty else None) ≡ None
and_never true = refl
and_never false = refl

directory_child : (o : Option Node) → child_fault o contents.Directory ≡ None
directory_child None = refl
directory_child (Some x) = and_never (not (length (kids_of x) == 0))

pub directory_fault : (cs : List (Name × Node)) (n : Name) → set_fault (replica_of cs) (n ∷ []) contents.Directory ≡ None
directory_fault cs n = set_fault-child cs n contents.Directory (find name_cmp n cs) refl ∙ directory_child (find name_cmp n cs)

pub nothing_fault : (cs : List (Name × Node)) (n : Name) → find name_cmp n cs ≡ None → set_fault (replica_of cs) (n ∷ []) contents.Absent ≡ Some NothingThere
nothing_fault cs n e = set_fault-child cs n contents.Absent None e

vacant_some : (x : Node) → occupied (Some x) ≡ false → child_fault (Some x) contents.Absent ≡ None
vacant_some x h = rw h refl

pub removal_fault : (cs : List (Name × Node)) (n : Name) (x : Node) → find name_cmp n cs ≡ Some x → occupied (find name_cmp n cs) ≡ false → set_fault (replica_of cs) (n ∷ []) contents.Absent ≡ None
removal_fault cs n x e h = set_fault-child cs n contents.Absent (Some x) e ∙ vacant_some x (ap occupied (sym e) ∙ h)

-- the faults at several names
contents_below : (cs : List (Name × Node)) (n : Name) (x : Node) (q : Path) → find name_cmp n cs ≡ Some x → contents_of x ≡ contents.Directory → contents_at (replica_of cs) (n ∷ q) ≡ contents_at (replica_of (kids_of x)) q
contents_below cs n x [] e d = contents_of_child cs n (Some x) e ∙ d
contents_below cs n x (s ∷ t) e d = ap (λ o. unwrap_or o contents.Absent) (look_up cs n (s ∷ t) ∙ ap (option_and_then (node_get (s ∷ t))) e)

full_fault : Replica → Path → Contents → Option SetFault
full_fault m p c = if not (is_directory (contents_at m (parent p))) then Some NoParent else later_fault (contents_at m p) (length (children m p) == 0) c

set_fault-names : (m : Replica) (n : Name) (p : Path) (c : Contents) → set_fault m (n ∷ p) c ≡ full_fault m (n ∷ p) c
unfolding full_fault
set_fault-names m n p c = rw (one_item n p) refl

same_full : (m k : Replica) (p q : Path) (c : Contents) → contents_at m (parent p) ≡ contents_at k (parent q) → contents_at m p ≡ contents_at k q → (length (children m p) == 0) ≡ (length (children k q) == 0) → full_fault m p c ≡ full_fault k q c
unfolding full_fault
same_full m k p q c e f g = λ i. if not (is_directory (e i)) then Some NoParent else later_fault (f i) (g i) c

step_fault : (cs : List (Name × Node)) (n m : Name) (r : Path) (x : Node) (c : Contents) → find name_cmp n cs ≡ Some x → contents_of x ≡ contents.Directory → set_fault (replica_of cs) (n ∷ m ∷ r) c ≡ set_fault (replica_of (kids_of x)) (m ∷ r) c
step_fault cs n m r x c e d =
    set_fault-names (replica_of cs) n (m ∷ r) c
    ∙ same_full (replica_of cs) (replica_of (kids_of x)) (n ∷ m ∷ r) (m ∷ r) c
    (contents_below cs n x (parent (m ∷ r)) e d) (contents_below cs n x (m ∷ r) e d)
    (same_childless (replica_of cs) (replica_of (kids_of x)) (n ∷ m ∷ r) (m ∷ r) (λ k. look_up cs n (m ∷ (r ++ k ∷ [])) ∙ ap (option_and_then (node_get (m ∷ (r ++ k ∷ [])))) e))
    ∙ sym (set_fault-names (replica_of (kids_of x)) m r c)

no_parent : (m : Replica) (n : Name) (p : Path) (c : Contents) → is_directory (contents_at m (parent (n ∷ p))) ≡ false → set_fault m (n ∷ p) c ≡ Some NoParent
unfolding full_fault
no_parent m n p c h = set_fault-names m n p c ∙ ap (λ b. if not b then Some NoParent else later_fault (contents_at m (n ∷ p)) (length (children m (n ∷ p)) == 0) c) h

-- below what is no directory
layer_bare : (x : Node-F Node) → is_directory (layer_contents x) ≡ false → layer_kids x ≡ []
layer_bare (File blob) e = refl
layer_bare (Directory kids) e = absurd (false≢true (sym e))

no_directory : (cs : List (Name × Node)) (n : Name) (x : Node) (q : Path) → find name_cmp n cs ≡ Some x → is_directory (contents_of x) ≡ false → is_directory (contents_at (replica_of cs) (n ∷ q)) ≡ false
no_directory cs n x [] e d = ap is_directory (contents_of_child cs n (Some x) e) ∙ d
no_directory cs n x (s ∷ t) e d =
    ap (λ o. is_directory (unwrap_or o contents.Absent)) (look_up cs n (s ∷ t) ∙ ap (option_and_then (node_get (s ∷ t))) e
    ∙ ap (λ ks. fin.get (replica_of ks) (s ∷ t)) (layer_bare (out-Node x) d) ∙ get_nothing (s ∷ t))

step_by : (cs : List (Name × Node)) (n m : Name) (r : Path) (x : Node) (c : Contents) (b : Bool) → find name_cmp n cs ≡ Some x → is_directory (contents_of x) ≡ b → set_fault (replica_of cs) (n ∷ m ∷ r) c ≡ (if b then set_fault (replica_of (kids_of x)) (m ∷ r) c else Some NoParent)
step_by cs n m r x c true e d = step_fault cs n m r x c e (is_a_directory (contents_of x) d)
step_by cs n m r x c false e d = no_parent (replica_of cs) n (m ∷ r) c (no_directory cs n x (parent (m ∷ r)) e d)

pub fault_through : (cs : List (Name × Node)) (n : Name) (p : Path) (x : Node) (c : Contents) → 0 < length p → find name_cmp n cs ≡ Some x → set_fault (replica_of cs) (n ∷ p) c ≡ fault_below x p c
fault_through cs n [] x c l e = absurd (omega arith)
fault_through cs n (m ∷ r) x c l e = step_by cs n m r x c (is_directory (contents_of x)) e refl

pub fault_below-directory : (x : Node) (ks : List (Name × Node)) (p : Path) (c : Contents) → contents_of x ≡ contents.Directory → kids_of x ≡ ks → fault_below x p c ≡ set_fault (replica_of ks) p c
fault_below-directory x ks p c d k = ap (λ d. if is_directory d then set_fault (replica_of (kids_of x)) p c else Some NoParent) d ∙ ap (λ ks. set_fault (replica_of ks) p c) k

pub fault_below-file : (x : Node) (b : List ℕ) (p : Path) (c : Contents) → contents_of x ≡ contents.File b → fault_below x p c ≡ Some NoParent
fault_below-file x b p c d = ap (λ d. if is_directory d then set_fault (replica_of (kids_of x)) p c else Some NoParent) d

pub fault_nowhere : (cs : List (Name × Node)) (n : Name) (p : Path) (c : Contents) → 0 < length p → find name_cmp n cs ≡ None → set_fault (replica_of cs) (n ∷ p) c ≡ Some NoParent
fault_nowhere cs n [] c l e = absurd (omega arith)
fault_nowhere cs n (m ∷ r) c l e = no_parent (replica_of cs) n (m ∷ r) c (ap (λ o. is_directory (unwrap_or o contents.Absent)) (look_up cs n (parent (m ∷ r)) ∙ ap (option_and_then (node_get (parent (m ∷ r)))) e))

through_gets : (p : Path) (x y : Node) (c : Contents) → 0 < length p → contents_of y ≡ contents_of x → replica_of (kids_of y) ≡ with_contents (replica_of (kids_of x)) p c
    → (r : Path) → node_get r y ≡ cond (eq_by_cmp path_cmp r p) (held c) (node_get r x)
through_gets [] x y c l kind below r = absurd (omega arith)
through_gets (m ∷ p) x y c l kind below [] = ap Some kind
through_gets (m ∷ p) x y c l kind below (s ∷ t) = ap (λ k. fin.get k (s ∷ t)) below ∙ get-with_contents (replica_of (kids_of x)) (m ∷ p) c (s ∷ t)

-- a change below a node
pub changed_through : (cs fs : List (Name × Node)) (n : Name) (p : Path) (x y : Node) (c : Contents) → 0 < length p → Changes cs fs n (Some y) → find name_cmp n cs ≡ Some x → contents_of y ≡ contents_of x
    → replica_of (kids_of y) ≡ with_contents (replica_of (kids_of x)) p c → replica_of fs ≡ with_contents (replica_of cs) (n ∷ p) c
changed_through cs fs n p x y c l change e kind below =
    changed_below cs fs n p (Some y) c change (λ r. through_gets p x y c l kind below r ∙ ap (λ o. cond (eq_by_cmp path_cmp r p) (held c) (option_and_then (node_get r) o)) (sym e))

same_node : (r : Path) (x y : Node) → contents_of y ≡ contents_of x → replica_of (kids_of y) ≡ replica_of (kids_of x) → node_get r y ≡ node_get r x
same_node [] x y kind below = ap Some kind
same_node (s ∷ t) x y kind below = ap (λ k. fin.get k (s ∷ t)) below

same_name_get : (cs : List (Name × Node)) (n k : Name) (r : Path) (x y : Node) → find name_cmp n cs ≡ Some x → contents_of y ≡ contents_of x → replica_of (kids_of y) ≡ replica_of (kids_of x)
    → (b : Bool) → eq_by_cmp name_cmp n k ≡ b → option_and_then (node_get r) (cond b (Some y) (find name_cmp k cs)) ≡ option_and_then (node_get r) (find name_cmp k cs)
same_name_get cs n k r x y e kind below false t = refl
same_name_get cs n k r x y e kind below true t = same_node r x y kind below ∙ ap (option_and_then (node_get r)) (sym e ∙ ap (λ j. find name_cmp j cs) (same_name n k t))

same_get : (cs fs : List (Name × Node)) (n : Name) (x y : Node) → Changes cs fs n (Some y) → find name_cmp n cs ≡ Some x → contents_of y ≡ contents_of x → replica_of (kids_of y) ≡ replica_of (kids_of x) → (q : Path) → fin.get (replica_of fs) q ≡ fin.get (replica_of cs) q
same_get cs fs n x y change e kind below [] = get_top fs ∙ sym (get_top cs)
same_get cs fs n x y change e kind below (k ∷ r) = look_up fs k r ∙ ap (option_and_then (node_get r)) (change k) ∙ same_name_get cs n k r x y e kind below (eq_by_cmp name_cmp n k) refl ∙ sym (look_up cs k r)

-- a node that was written back as it was
pub same_through : (cs fs : List (Name × Node)) (n : Name) (x y : Node) → Changes cs fs n (Some y) → find name_cmp n cs ≡ Some x → contents_of y ≡ contents_of x → replica_of (kids_of y) ≡ replica_of (kids_of x) → replica_of fs ≡ replica_of cs
same_through cs fs n x y change e kind below = fin.same_map path_total path_antisymmetric (replica_of fs) (replica_of cs) (λ q. same_get cs fs n x y change e kind below q)

pub bare_file : (o : Option Node) → is_directory (contents_or_absent o) ≡ false → IsBare o
bare_file None e = bare_nothing
bare_file (Some x) e = bare_kids x (layer_bare (out-Node x) e)

pub directory_found : (cs : List (Name × Node)) (n : Name) (o : Option Node) → find name_cmp n cs ≡ o → is_directory (contents_or_absent o) ≡ true → replica_of cs ≡ with_contents (replica_of cs) (n ∷ []) contents.Directory
directory_found cs n None e d = absurd (false≢true d)
directory_found cs n (Some x) e d = directory_again cs n x e (is_a_directory (contents_of x) d)

pub refusal : (o : Option SetFault) (e : SetFault) → o ≡ Some e → IsRefusal o e
refusal None e h = cc
refusal (Some f) e h = sym (same_Some f e h)

-- Contents are set, or aren't: for a fault, or because memory runs out.
pub is_set : {c : Contents} {p : Path} {old new : Replica} → set_fault old p c ≡ None → new ≡ with_contents old p c → SetsOrRefuses c p old new (Ok tt)
is_set free new = record { allowed = free; ok = new; fault = tt; err = tt }

pub is_refused : {c : Contents} {p : Path} {old new : Replica} {e : SetFault} → set_fault old p c ≡ Some e → new ≡ old → SetsOrRefuses c p old new (Err e)
is_refused h same = record { allowed = tt; ok = tt; fault = refusal _ _ h; err = same }

pub out_of_memory : {c : Contents} {p : Path} {old new : Replica} (r : Result ⊤ SetFault) → set_fault old p c ≡ None → new ≡ old → IsErrAnd r (λ e. e ≡ OutOfMemory) → SetsOrRefuses c p old new r
out_of_memory (Ok x) free same h = absurd h
out_of_memory (Err e) free same h = record { allowed = tt; ok = tt; fault = subst (λ o. IsRefusal o e) (sym free) h; err = same }

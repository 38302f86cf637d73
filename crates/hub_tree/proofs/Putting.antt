-- What is put at a path, where only new contents may be.
use Rattle.std.proofs.Common.{◌≡◌, ℕ, ◌+◌, ◌<◌, Bool, true, false, ◌&&◌, List, [], ◌∷◌, ◌++◌, append-nil, length, drop, Option, Some, None, Bor, refl, ap, sym, ◌∙◌, subst, arith}
use Rattle.std.specs.Prelude.{if◌then◌else◌, Result, Ok, Err}
use Rattle.std.specs.List.{slice_get}
use Rattle.std.specs.Option.{option_and_then, option_copied, is_some}
use Rattle.std.specs.FinMap as fin
use Rattle.std.proofs.lemmas.Bool.{false≢true}
use Rattle.std.specs.FinMap.Entries.{find}
use Rattle.hub_path.specs.Path.{Name, Path, name_cmp}
use Rattle.hub_tree.specs.Tree.{Replica, set_fault, with_contents, IsRefusal}
use Rattle.hub_tree.specs.Nodes.{replica_of, node_get, contents_of, kids_of, fault_below, is_left, put_fault, put_fault_below, with_put}
use Rattle.hub_tree.specs.declared.contents.Contents.{Contents}
use Rattle.hub_tree.specs.declared.contents.Contents.TheVariants as contents
use Rattle.hub_tree.specs.declared.fault.SetFault.{SetFault}
use Rattle.hub_tree.specs.declared.fault.SetFault.TheVariants.{RootPath, NoParent, NothingThere}
use Rattle.hub_tree.specs.declared.node.Node.{Node}
use Rattle.hub_tree.specs.forms.Puts.{IsPutBelow, PutsOrRefuses}
use Rattle.hub_tree.proofs.LookUp.{look_up, get_nothing, drop_at, rest_left, below_kids}
use Rattle.hub_tree.proofs.Setting.{Changes, changed_through, same_through, fault_through, fault_nowhere, fault_below-file, nothing_fault}

-- a path that is set
pub put_fault-set : (new : Bool) (m : Replica) (p : Path) (c : Contents) → is_left new m p ≡ false → put_fault new m p c ≡ set_fault m p c
put_fault-set new m p c e = ap (λ b. if b then None else set_fault m p c) e

-- whether a path has contents
there : (o : Option Node) → is_some (option_and_then (node_get []) o) ≡ is_some o
there None = refl
there (Some x) = refl

pub there_at_name : (cs : List (Name × Node)) (n : Name) → is_some (fin.get (replica_of cs) (n ∷ [])) ≡ is_some (find name_cmp n cs)
there_at_name cs n = ap is_some (look_up cs n []) ∙ there (find name_cmp n cs)

there_behind : (o : Option (Bor Node)) → is_some (option_and_then (node_get []) (option_copied o)) ≡ is_some o
there_behind None = refl
there_behind (Some x) = refl

pub there_at_node : (cs : List (Name × Node)) (p : Path) (o : Option (Bor Node)) → ((q : Path) → fin.get (replica_of cs) (p ++ q) ≡ option_and_then (node_get q) (option_copied o)) → is_some (fin.get (replica_of cs) p) ≡ is_some o
there_at_node cs p o h = ap (λ q. is_some (fin.get (replica_of cs) q)) (sym (append-nil p)) ∙ ap is_some (h []) ∙ there_behind o

nothing_from : {X : Type 0} (o : Option X) → is_some o ≡ false → o ≡ None
nothing_from None e = refl
nothing_from (Some x) e = absurd (false≢true (sym e))

pub nothing_to_remove : (cs : List (Name × Node)) (n : Name) → is_some (find name_cmp n cs) ≡ false → set_fault (replica_of cs) (n ∷ []) contents.Absent ≡ Some NothingThere
nothing_to_remove cs n e = nothing_fault cs n (nothing_from (find name_cmp n cs) e)

get_below : (cs : List (Name × Node)) (p : Path) (d : ℕ) (n : Name) (x : Node) → slice_get p d ≡ Some n → d + 1 < length p → find name_cmp n cs ≡ Some x → fin.get (replica_of cs) (drop d p) ≡ fin.get (replica_of (kids_of x)) (drop (d + 1) p)
get_below cs p d n x e l f =
    ap (fin.get (replica_of cs)) (drop_at p d n e) ∙ look_up cs n (drop (d + 1) p)
    ∙ ap (option_and_then (node_get (drop (d + 1) p))) f ∙ below_kids (drop (d + 1) p) x (rest_left p (d + 1) l)

get_nowhere : (cs : List (Name × Node)) (p : Path) (d : ℕ) (n : Name) → slice_get p d ≡ Some n → find name_cmp n cs ≡ None → fin.get (replica_of cs) (drop d p) ≡ None
get_nowhere cs p d n e f = ap (fin.get (replica_of cs)) (drop_at p d n e) ∙ look_up cs n (drop (d + 1) p) ∙ ap (option_and_then (node_get (drop (d + 1) p))) f

never_left : (new : Bool) (o : Option Contents) → o ≡ None → (new && is_some o) ≡ false
never_left true o e = ap is_some e
never_left false o e = refl

-- through a node
left_through : (new : Bool) (cs : List (Name × Node)) (p : Path) (d : ℕ) (n : Name) (x : Node) → slice_get p d ≡ Some n → d + 1 < length p → find name_cmp n cs ≡ Some x → is_left new (replica_of cs) (drop d p) ≡ is_left new (replica_of (kids_of x)) (drop (d + 1) p)
left_through new cs p d n x e l f = ap (λ o. new && is_some o) (get_below cs p d n x e l f)

put_fault_through : (new : Bool) (cs : List (Name × Node)) (p : Path) (d : ℕ) (n : Name) (x : Node) (c : Contents) → slice_get p d ≡ Some n → d + 1 < length p → find name_cmp n cs ≡ Some x
    → put_fault new (replica_of cs) (drop d p) c ≡ put_fault_below new x (drop (d + 1) p) c
put_fault_through new cs p d n x c e l f =
    ap (λ b. if b then None else set_fault (replica_of cs) (drop d p) c) (left_through new cs p d n x e l f)
    ∙ ap (λ o. if is_left new (replica_of (kids_of x)) (drop (d + 1) p) then None else o)
    (ap (λ q. set_fault (replica_of cs) q c) (drop_at p d n e) ∙ fault_through cs n (drop (d + 1) p) x c (rest_left p (d + 1) l) f)

put_by : (b : Bool) (cs fs : List (Name × Node)) (p : Path) (d : ℕ) (n : Name) (x y : Node) (c : Contents) → slice_get p d ≡ Some n → d + 1 < length p → Changes cs fs n (Some y) → find name_cmp n cs ≡ Some x → contents_of y ≡ contents_of x
    → replica_of (kids_of y) ≡ (if b then replica_of (kids_of x) else with_contents (replica_of (kids_of x)) (drop (d + 1) p) c) → replica_of fs ≡ (if b then replica_of cs else with_contents (replica_of cs) (drop d p) c)
put_by true cs fs p d n x y c e l change f kind below = same_through cs fs n x y change f kind below
put_by false cs fs p d n x y c e l change f kind below =
    changed_through cs fs n (drop (d + 1) p) x y c (rest_left p (d + 1) l) change f kind below
    ∙ ap (λ q. with_contents (replica_of cs) q c) (sym (drop_at p d n e))

with_put_through : (new : Bool) (cs fs : List (Name × Node)) (p : Path) (d : ℕ) (n : Name) (x y : Node) (c : Contents) → slice_get p d ≡ Some n → d + 1 < length p → Changes cs fs n (Some y) → find name_cmp n cs ≡ Some x → contents_of y ≡ contents_of x
    → replica_of (kids_of y) ≡ with_put new (replica_of (kids_of x)) (drop (d + 1) p) c → replica_of fs ≡ with_put new (replica_of cs) (drop d p) c
with_put_through new cs fs p d n x y c e l change f kind below =
    put_by (is_left new (replica_of (kids_of x)) (drop (d + 1) p)) cs fs p d n x y c e l change f kind below
    ∙ ap (λ b. if b then replica_of cs else with_contents (replica_of cs) (drop d p) c) (sym (left_through new cs p d n x e l f))

pub put_through : (new : Bool) (cs fs : List (Name × Node)) (p : Path) (d : ℕ) (n : Name) (x y : Node) (c : Contents) (r : Result Bool SetFault) → slice_get p d ≡ Some n → d + 1 < length p → Changes cs fs n (Some y) → find name_cmp n cs ≡ Some x → contents_of y ≡ contents_of x
    → IsPutBelow new x y (drop (d + 1) p) c r → PutsOrRefuses new (put_fault new (replica_of cs) (drop d p) c) (drop d p) c (replica_of cs) (replica_of fs) r
put_through new cs fs p d n x y c (Ok b) e l change f kind below =
    (below.0 ∙ sym (left_through new cs p d n x e l f), put_fault_through new cs p d n x c e l f ∙ below.1, with_put_through new cs fs p d n x y c e l change f kind below.2, tt, tt)
put_through new cs fs p d n x y c (Err g) e l change f kind below =
    (tt, tt, tt, subst (λ (o : Option SetFault). IsRefusal o g) (sym (put_fault_through new cs p d n x c e l f)) below.3, same_through cs fs n x y change f kind below.4)

-- what is put into a copy
pub put_copied : (new : Bool) (m n k : Replica) (p : Path) (c : Contents) (r : Result Bool SetFault) → m ≡ n → PutsOrRefuses new (put_fault new m p c) p c m k r → PutsOrRefuses new (put_fault new n p c) p c n k r
put_copied new m n k p c r same put = subst (λ (o : Replica). PutsOrRefuses new (put_fault new o p c) p c o k r) same put

-- a name that stands for nothing
pub put_fault_nowhere : (new : Bool) (cs : List (Name × Node)) (p : Path) (d : ℕ) (n : Name) (c : Contents) → slice_get p d ≡ Some n → d + 1 < length p → find name_cmp n cs ≡ None → put_fault new (replica_of cs) (drop d p) c ≡ Some NoParent
put_fault_nowhere new cs p d n c e l f =
    put_fault-set new (replica_of cs) (drop d p) c (never_left new (fin.get (replica_of cs) (drop d p)) (get_nowhere cs p d n e f))
    ∙ ap (λ q. set_fault (replica_of cs) q c) (drop_at p d n e) ∙ fault_nowhere cs n (drop (d + 1) p) c (rest_left p (d + 1) l) f

-- below a file
pub put_fault_below-file : (new : Bool) (x : Node) (b : List ℕ) (p : Path) (c : Contents) → contents_of x ≡ contents.File b → kids_of x ≡ [] → put_fault_below new x p c ≡ Some NoParent
put_fault_below-file new x b p c d k =
    ap (λ l. if l then None else fault_below x p c) (never_left new (fin.get (replica_of (kids_of x)) p) (ap (λ ks. fin.get (replica_of ks) p) k ∙ get_nothing p))
    ∙ fault_below-file x b p c d

-- the whole replica
pub put_fault_top : (new : Bool) (m : Replica) (p : Path) (c : Contents) → length p ≡ 0 → fin.get m [] ≡ None → put_fault new m p c ≡ Some RootPath
put_fault_top new m [] c l g = put_fault-set new m [] c (never_left new (fin.get m []) g)
put_fault_top new m (n ∷ p) c l g = absurd (omega arith)

-- A name that is after each name that has something.
pub nothing_past : (o : Option Node) (less : Bool) → (is_some o ≡ true → less ≡ false) → less ≡ true → is_some o ≡ false
nothing_past None less f h = refl
nothing_past (Some x) less f h = absurd (false≢true (sym (f refl) ∙ h))

pub nothing_among : (cs : List (Name × Node)) (n : Name) → (0 < length cs → false ≡ true) → is_some (fin.get (replica_of cs) (n ∷ [])) ≡ false
nothing_among [] n h = there_at_name [] n
nothing_among (c ∷ cs) n h = absurd (false≢true (h (omega arith)))

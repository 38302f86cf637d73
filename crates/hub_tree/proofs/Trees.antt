-- What holds of every tree.
use Rattle.std.proofs.Common.{◌≡◌, ℕ, Bool, true, false, List, [], ◌∷◌, Option, Some, None, refl, ap, sym, ◌∙◌, subst}
use Rattle.std.specs.Prelude.{Result, Ok, Err, OnOk, OnErr, if◌then◌else◌}
use Rattle.std.specs.FinMap as fin
use Rattle.std.specs.FinMap.Entries.{find}
use Rattle.std.specs.Option.{option_and_then, unwrap_or, is_some}
use Rattle.std.specs.Ordering.{eq_by_cmp}
use Rattle.std.proofs.lemmas.Bool.{false≢true, cond_both}
use Rattle.hub_path.specs.Path.{Name, Path, path_cmp, name_cmp, is_path, parent}
use Rattle.hub_tree.specs.Tree.{Replica, IsTree, IsBytes, HasBytes, HasPaths, contents_at, is_absent, is_directory, with_contents}
use Rattle.hub_tree.specs.Nodes.{replica_of, node_get, kids_of, layer_contents, layer_kids}
use Rattle.hub_tree.specs.declared.contents.Contents.{Contents}
use Rattle.hub_tree.specs.declared.contents.Contents.TheVariants as contents
use Rattle.hub_tree.specs.declared.fault.SetFault.{SetFault}
use Rattle.hub_tree.specs.declared.node.Node.{Node}
use Rattle.hub_tree.specs.declared.node.Node.TheViews.{out-Node}
use Rattle.hub_tree.specs.declared.node.Node.TheOpen.{Node-F, File, Directory}
use Rattle.hub_tree.proofs.LookUp.{look_up, get_top, get_nothing}
use Rattle.hub_tree.specs.laws.MarkMaps.{path_here}
use Rattle.hub_tree.specs.laws.Contented.{held, get-with_contents}

-- the keys are paths
pub HasPaths-set : (m : Replica) (p : Path) (c : Contents) → HasPaths m → is_path p ≡ true → HasPaths (with_contents m p c)
HasPaths-set m p c h here = λ q e. path_here m p q (held c) (eq_by_cmp path_cmp q p) here h refl (sym (ap is_some (get-with_contents m p c q)) ∙ e)

pub HasPaths-after : (left : Bool) (old new : Replica) (p : Path) (c : Contents) (r : Result Bool SetFault) → OnOk r (new ≡ (if left then old else with_contents old p c)) → OnErr r (new ≡ old) → HasPaths old → is_path p ≡ true → HasPaths new
HasPaths-after true old new p c (Ok u) ok err h here = λ q e. h q (sym (ap (λ m. is_some (fin.get m q)) ok) ∙ e)
HasPaths-after false old new p c (Ok u) ok err h here = λ q e. HasPaths-set old p c h here q (sym (ap (λ m. is_some (fin.get m q)) ok) ∙ e)
HasPaths-after left old new p c (Err f) ok err h here = λ q e. h q (sym (ap (λ m. is_some (fin.get m q)) err) ∙ e)

-- files have bytes
held_file : (c : Contents) (b : List ℕ) → held c ≡ Some (contents.File b) → c ≡ contents.File b
held_file (contents.File x) b e = ap (λ o. unwrap_or o contents.Absent) e
held_file contents.Directory b e = cc
held_file contents.Absent b e = cc

HasBytes-set : (m : Replica) (p : Path) (c : Contents) → HasBytes m → ((b : List ℕ) → c ≡ contents.File b → IsBytes b) → HasBytes (with_contents m p c)
HasBytes-set m p c h here = λ q b e.
    cond_both (eq_by_cmp path_cmp q p) (held c) (fin.get m q) (λ r. r ≡ Some (contents.File b) → IsBytes b) (λ t k. here b (held_file c b k)) (λ t. h q b) (sym (get-with_contents m p c q) ∙ e)

pub HasBytes-after : (left : Bool) (old new : Replica) (p : Path) (c : Contents) (r : Result Bool SetFault) → OnOk r (new ≡ (if left then old else with_contents old p c)) → OnErr r (new ≡ old) → HasBytes old → ((b : List ℕ) → c ≡ contents.File b → IsBytes b) → HasBytes new
HasBytes-after true old new p c (Ok u) ok err h here = λ q b e. h q b (sym (ap (λ m. fin.get m q) ok) ∙ e)
HasBytes-after false old new p c (Ok u) ok err h here = λ q b e. HasBytes-set old p c h here q b (sym (ap (λ m. fin.get m q) ok) ∙ e)
HasBytes-after left old new p c (Err f) ok err h here = λ q b e. h q b (sym (ap (λ m. fin.get m q) err) ∙ e)

-- the parent of what is there is a directory
nothing_there : (o : Option Contents) (b : Bool) → o ≡ None → is_absent (unwrap_or o contents.Absent) ≡ false → b ≡ true
nothing_there None b e h = absurd (false≢true (sym h))
nothing_there (Some c) b e h = cc

layer_parent : (x : Node-F Node) (m : Name) (r : Path) → is_absent (unwrap_or (fin.get (replica_of (layer_kids x)) (m ∷ r)) contents.Absent) ≡ false → is_directory (layer_contents x) ≡ true
layer_parent (File blob) m r h = nothing_there _ _ (get_nothing (m ∷ r)) h
layer_parent (Directory kids) m r h = refl

-- the step from a node's kids
parents_step : (cs : List (Name × Node)) (n m : Name) (r q : Path) (o : Option Node) → find name_cmp n cs ≡ o
    → is_absent (contents_at (replica_of cs) (n ∷ m ∷ r)) ≡ false
    → ((x : Node) → is_absent (contents_at (replica_of (kids_of x)) (m ∷ r)) ≡ false → is_directory (contents_at (replica_of (kids_of x)) q) ≡ true)
    → is_directory (contents_at (replica_of cs) (n ∷ q)) ≡ true
parents_step cs n m r q None e h below = nothing_there _ _ (look_up cs n (m ∷ r) ∙ ap (option_and_then (node_get (m ∷ r))) e) h
parents_step cs n m r [] (Some x) e h below =
    ap (λ o. is_directory (unwrap_or o contents.Absent)) (look_up cs n [] ∙ ap (option_and_then (node_get [])) e)
    ∙ layer_parent (out-Node x) m r (sym (ap (λ o. is_absent (unwrap_or o contents.Absent)) (look_up cs n (m ∷ r) ∙ ap (option_and_then (node_get (m ∷ r))) e)) ∙ h)
parents_step cs n m r (s ∷ t) (Some x) e h below =
    ap (λ o. is_directory (unwrap_or o contents.Absent)) (look_up cs n (s ∷ t) ∙ ap (option_and_then (node_get (s ∷ t))) e)
    ∙ below x (sym (ap (λ o. is_absent (unwrap_or o contents.Absent)) (look_up cs n (m ∷ r) ∙ ap (option_and_then (node_get (m ∷ r))) e)) ∙ h)

parents : (p : Path) (cs : List (Name × Node)) → is_absent (contents_at (replica_of cs) p) ≡ false → is_directory (contents_at (replica_of cs) (parent p)) ≡ true
parents [] cs h = refl
parents (n ∷ []) cs h = refl
parents (n ∷ m ∷ r) cs h = parents_step cs n m r (parent (m ∷ r)) (find name_cmp n cs) refl h (λ x g. parents (m ∷ r) (kids_of x) g)

-- no entry says that nothing is there
layer_present : (x : Node-F Node) → Some (layer_contents x) ≡ Some contents.Absent → ⊥
layer_present (File blob) e = cc
layer_present (Directory kids) e = cc

present_in : (n : Name) (q : Path) (o : Option Node) → ((x : Node) → node_get q x ≡ Some contents.Absent → ⊥) → option_and_then (node_get q) o ≡ Some contents.Absent → ⊥
present_in n q None below e = cc
present_in n q (Some x) below e = below x e

present : (p : Path) (cs : List (Name × Node)) → fin.get (replica_of cs) p ≡ Some contents.Absent → ⊥
present [] cs e = let n : None ≡ Some contents.Absent = sym (get_top cs) ∙ e in cc
present (n ∷ []) cs e = present_in n [] (find name_cmp n cs) (λ x. layer_present (out-Node x)) (sym (look_up cs n []) ∙ e)
present (n ∷ m ∷ r) cs e = present_in n (m ∷ r) (find name_cmp n cs) (λ x g. present (m ∷ r) (kids_of x) g) (sym (look_up cs n (m ∷ r)) ∙ e)

pub IsTree-replica_of : (cs : List (Name × Node)) (m : Replica) → replica_of cs ≡ m → IsTree m
IsTree-replica_of cs m v = subst (λ (m : Replica). IsTree m) v (record { parents = λ p. parents p cs; present = λ p. present p cs; no_top = get_top cs })

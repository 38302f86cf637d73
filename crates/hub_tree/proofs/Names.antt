-- The names that a directory holds.
use Rattle.std.proofs.Common.{◌≡◌, arith, length, List, [], ◌∷◌, ◌++◌, Option, Some, None, refl, ap, sym, ◌∙◌}
use Rattle.std.specs.FinMap as fin
use Rattle.std.specs.FinMap.Entries.{find, is_some-find}
use Rattle.std.specs.List.{list_any}
use Rattle.std.specs.List.Sorted.{IsStrictlySortedBy}
use Rattle.std.specs.Map.{keys_of}
use Rattle.std.specs.Option.{option_and_then, is_some}
use Rattle.std.specs.Ordering.{eq_by_cmp}
use Rattle.hub_path.specs.Path.{Name, Path, name_cmp}
use Rattle.hub_tree.specs.Tree.{Replica, names_at}
use Rattle.hub_tree.specs.Nodes.{replica_of, node_get, kids_of}
use Rattle.hub_tree.specs.declared.node.Node.{Node}
use Rattle.hub_tree.proofs.LookUp.{look_up}
use Rattle.hub_tree.specs.laws.Children.{is_there, names-children}
use Rattle.hub_tree.proofs.Setting.{node_shown}

found_shown : (o : Option Node) → is_there (option_and_then (node_get []) o) ≡ is_some o
found_shown None = refl
found_shown (Some x) = node_shown x

top_shown : (cs : List (Name × Node)) (n : Name) → is_there (fin.get (replica_of cs) (n ∷ [])) ≡ list_any (eq_by_cmp name_cmp n) (keys_of cs)
top_shown cs n = ap is_there (look_up cs n []) ∙ found_shown (find name_cmp n cs) ∙ is_some-find name_cmp n cs

pub names_at-top : (cs : List (Name × Node)) (m : Replica) (p : Path) → replica_of cs ≡ m → length p ≡ 0 → IsStrictlySortedBy name_cmp (keys_of cs) → names_at m p ≡ keys_of cs
names_at-top cs m [] v l s = ap (λ m. names_at m []) (sym v) ∙ names-children (replica_of cs) [] (keys_of cs) s (top_shown cs)
names_at-top cs m (n ∷ p) v l s = absurd (omega arith)

pub names_at-node : (cs ks : List (Name × Node)) (m : Replica) (p : Path) (x : Node) → replica_of cs ≡ m → kids_of x ≡ ks → ((q : Path) → fin.get (replica_of cs) (p ++ q) ≡ node_get q x) → IsStrictlySortedBy name_cmp (keys_of ks) → names_at m p ≡ keys_of ks
names_at-node cs ks m p x v k h s =
    ap (λ m. names_at m p) (sym v)
    ∙ names-children (replica_of cs) p (keys_of ks) s (λ n. ap is_there (h (n ∷ []) ∙ ap (λ ks. fin.get (replica_of ks) (n ∷ [])) k) ∙ top_shown ks n)

no_names : IsStrictlySortedBy name_cmp []
unfolding IsStrictlySortedBy
no_names = tt

pub names_at-file : (cs : List (Name × Node)) (m : Replica) (p : Path) (x : Node) → replica_of cs ≡ m → kids_of x ≡ [] → ((q : Path) → fin.get (replica_of cs) (p ++ q) ≡ node_get q x) → names_at m p ≡ []
names_at-file cs m p x v k h = names_at-node cs [] m p x v k h no_names

pub names_at-nothing : (cs : List (Name × Node)) (m : Replica) (p : Path) → replica_of cs ≡ m → ((q : Path) → fin.get (replica_of cs) (p ++ q) ≡ None) → names_at m p ≡ []
names_at-nothing cs m p v h = ap (λ m. names_at m p) (sym v) ∙ names-children (replica_of cs) p [] no_names (λ n. ap is_there (h (n ∷ [])))

-- Copies of nodes.
use Rattle.std.proofs.Common.{◌≡◌, List, [], ◌∷◌, ◌++◌, map, refl, ap, sym, ◌∙◌, subst}
use Rattle.std.specs.FinMap as fin
use Rattle.std.specs.BTreeMap.{insert_entry}
use Rattle.std.specs.List.Sorted.{IsStrictlySortedBy}
use Rattle.std.specs.Map.{keys_of}
use Rattle.std.specs.Ordering.{match_ordering}
use Rattle.std.specs.declared.cmp.Ordering.TheVariants.{Less, Equal, Greater}
use Rattle.hub_path.specs.Path.{Name, name_cmp}
use Rattle.hub_tree.specs.Nodes.{Entries, entries_under, children_entries, replica_of}
use Rattle.hub_tree.specs.declared.node.Node.{Node}
use Rattle.hub_tree.specs.laws.Order.{name_total}
use Rattle.hub_tree.specs.laws.Ascending.{copy_more}

-- The names, each with the entries of its node.
abbrev pub with_entries : List (Name × Node) → List (Name × Entries)
with_entries cs = map (λ c. (c.0, entries_under c.1)) cs

keys_of-with_entries : (cs : List (Name × Node)) → keys_of (with_entries cs) ≡ keys_of cs
keys_of-with_entries [] = refl
keys_of-with_entries (c ∷ cs) = ap (λ ks. c.0 ∷ ks) (keys_of-with_entries cs)

with_entries-insert : (cs : List (Name × Node)) (n : Name) (x : Node) → with_entries (insert_entry name_cmp cs n x) ≡ insert_entry name_cmp (with_entries cs) n (entries_under x)
with_entries-insert [] n x = refl
with_entries-insert (c ∷ cs) n x =
    elim (name_cmp n c.0) as (λ r. with_entries (match_ordering r ((n, x) ∷ c ∷ cs) ((c.0, x) ∷ cs) (c ∷ insert_entry name_cmp cs n x))
    ≡ match_ordering r ((n, entries_under x) ∷ with_entries (c ∷ cs)) ((c.0, entries_under x) ∷ with_entries cs) ((c.0, entries_under c.1) ∷ insert_entry name_cmp (with_entries cs) n (entries_under x))) [
      | Less ↦ refl
      | Equal ↦ refl
      | Greater ↦ ap (λ es. (c.0, entries_under c.1) ∷ es) (with_entries-insert cs n x)
    ]

-- one more copied node
pub copy_node_more : (done iterator rest all : List (Name × Node)) (n k : Name) (x y : Node)
    → with_entries done ++ with_entries iterator ≡ with_entries all → iterator ≡ (n, x) ∷ rest → k ≡ n → entries_under y ≡ entries_under x → IsStrictlySortedBy name_cmp (keys_of all)
    → with_entries (insert_entry name_cmp done k y) ++ with_entries rest ≡ with_entries all
copy_node_more done iterator rest all n k x y i s same e h =
    ap (λ es. es ++ with_entries rest) (with_entries-insert done k y ∙ ap (insert_entry name_cmp (with_entries done) k) e)
    ∙ copy_more name_total (with_entries done) (with_entries iterator) (with_entries rest) (with_entries all) (n, entries_under x) k i (ap with_entries s) same
    (subst (λ (ks : List Name). IsStrictlySortedBy name_cmp ks) (sym (keys_of-with_entries all)) h)

-- the same entries are the same replica
pub same_replica : (cs ds : List (Name × Node)) → children_entries cs ≡ children_entries ds → replica_of cs ≡ replica_of ds
unfolding replica_of
same_replica cs ds e = ap (λ es. fin.from_entries es) e

-- The entries of a tree that is kept as names and what stands under each.
use Rattle.std.specs.Prelude.{◌≡◌, ℕ, ◌+◌, Bool, false, not, ◌&&◌, is_some, List, [], ◌∷◌, ◌++◌, map, length, ◌==◌, Option, Some, None, if◌then◌else◌, Result, ⊤, IfErr, OnOk, OnErr}
use Rattle.std.specs.Arc.{arc_value}
use Rattle.std.specs.BTreeMap.{BTreeMap}
use Rattle.std.specs.declared.sync.Arc.{Arc}
use Rattle.std.specs.FinMap as fin
use Rattle.std.specs.FinMap.Entries.{where_key}
use Rattle.std.specs.Ordering.{eq_by_cmp}
use Rattle.hub_path.specs.Path.{Name, Path, path_cmp, name_cmp}
use Rattle.hub_tree.specs.Shared.{shared_entries}
use Rattle.hub_tree.specs.Tree.{Replica, is_directory, set_fault, with_contents, IsRefusal}
use Rattle.hub_tree.specs.declared.fault.SetFault.{SetFault}
use Rattle.hub_tree.specs.declared.fault.SetFault.TheVariants.{NoParent}
use Rattle.hub_tree.specs.declared.contents.Contents.{Contents}
use Rattle.hub_tree.specs.declared.contents.Contents.TheVariants as contents
use Rattle.hub_tree.specs.declared.node.Node.{Node}
use Rattle.hub_tree.specs.declared.node.Node.TheFolds.{fold-Node}
use Rattle.hub_tree.specs.declared.node.Node.TheViews.{out-Node}
use Rattle.hub_tree.specs.declared.node.Node.TheOpen.{Node-F, File, Directory}

abbrev pub Entries : Type 0
Entries = List (Path × Contents)

-- The entries, each below this name.
abbrev pub entries_below : Name → Entries → Entries
entries_below n es = map (λ e. (n ∷ e.0, e.1)) es

abbrev pub begins_with : Name → Path → Bool
begins_with n [] = false
begins_with n (m ∷ p) = eq_by_cmp name_cmp m n

-- The entries below several names. Where a name stands twice, its first entries count.
abbrev pub joined_entries : List (Name × Entries) → Entries
joined_entries [] = []
joined_entries (c ∷ cs) =
    entries_below c.0 c.1 ++ where_key path_cmp (λ p. not (begins_with c.0 p)) (joined_entries cs)

-- A node at the empty path, and what is below it.
abbrev pub node_entries : Node-F Entries → Entries
node_entries (File blob) = ([], contents.File blob) ∷ []
node_entries (Directory children) =
    ([], contents.Directory) ∷ joined_entries (arc_value children).entries

abbrev pub entries_under : Node → Entries
entries_under = fold-Node Entries node_entries

abbrev pub children_entries : List (Name × Node) → Entries
children_entries cs = joined_entries (map (λ c. (c.0, entries_under c.1)) cs)

-- The replica whose top holds these.
unfoldable pub replica_of : List (Name × Node) → Replica
replica_of cs = fin.from_entries (children_entries cs)

abbrev pub layer_contents : Node-F Node → Contents
layer_contents (File blob) = contents.File blob
layer_contents (Directory children) = contents.Directory

-- What a node is.
abbrev pub contents_of : Node → Contents
contents_of node = layer_contents (out-Node node)

abbrev pub layer_kids : Node-F Node → List (Name × Node)
layer_kids (File blob) = []
layer_kids (Directory children) = (arc_value children).entries

-- What a node holds.
abbrev pub kids_of : Node → List (Name × Node)
kids_of node = layer_kids (out-Node node)

-- What is at q below a node.
abbrev pub node_get : Path → Node → Option Contents
node_get [] x = Some (contents_of x)
node_get (m ∷ p) x = fin.get (replica_of (kids_of x)) (m ∷ p)

-- Whether something stands there that holds something.
abbrev pub occupied : Option Node → Bool
occupied None = false
occupied (Some x) = not (length (kids_of x) == 0)

-- What stands there.
abbrev pub contents_or_absent : Option Node → Contents
contents_or_absent None = contents.Absent
contents_or_absent (Some x) = contents_of x

-- Why contents can't be set at a path below a node.
abbrev pub fault_below : Node → Path → Contents → Option SetFault
fault_below x p c =
    if is_directory (contents_of x) then set_fault (replica_of (kids_of x)) p c else Some NoParent

-- Whether a path is left as it is: only new contents are set, and it has some.
abbrev pub is_left : Bool → Replica → Path → Bool
is_left only_new m p = only_new && is_some (fin.get m p)

-- Why contents can't be put at a path, and the replica after that.
abbrev pub put_fault : Bool → Replica → Path → Contents → Option SetFault
put_fault only_new m p c = if is_left only_new m p then None else set_fault m p c

abbrev pub with_put : Bool → Replica → Path → Contents → Replica
with_put only_new m p c = if is_left only_new m p then m else with_contents m p c

-- What is so after contents were to be set at a path. Where that went well, they might be set, and
-- the replica has them. Else the fault is one of a refusal, and the replica is as before.
pub record SetsOrRefuses (c : Contents) (p : Path) (old new : Replica)
    (result : Result ⊤ SetFault) : Type 0 where
  pub allowed : OnOk result (set_fault old p c ≡ None)
  pub ok : OnOk result (new ≡ with_contents old p c)
  pub fault : IfErr result (IsRefusal (set_fault old p c))
  pub err : OnErr result (new ≡ old)

-- Why contents can't be put at a path below a node.
abbrev pub put_fault_below : Bool → Node → Path → Contents → Option SetFault
put_fault_below only_new x p c =
    if is_left only_new (replica_of (kids_of x)) p then None else fault_below x p c

-- How many entries a node is, with what is below it.
abbrev pub size_of : Node → ℕ
size_of x = fin.len (replica_of (kids_of x)) + 1

-- Both nodes are the same, with all that they hold.
abbrev pub AreSame : Node → Node → Type 0
AreSame x y = (contents_of x ≡ contents_of y) × (replica_of (kids_of x) ≡ replica_of (kids_of y))

-- The replica that a shared top holds.
abbrev pub top_replica : {Z : Type 0} → Option (Arc (BTreeMap Name Node) Z) → Replica
top_replica top = replica_of (shared_entries top)

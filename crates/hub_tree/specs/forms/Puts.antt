-- Contents put among the children of a directory, and what is found there.
use Rattle.std.specs.Prelude.{◌≡◌, Bool, List, [], ◌∷◌, ◌++◌, map, Option, None, Result, ⊤, IfOk, IfErr, OnOk, OnErr}
use Rattle.std.specs.BTreeMap.{BTreeMap}
use Rattle.std.specs.FinMap as fin
use Rattle.std.specs.Option.{option_and_then}
use Rattle.hub_path.specs.Path.{Name, Path}
use Rattle.hub_tree.specs.Nodes.{SetsOrRefuses, is_left, kids_of, node_get, put_fault, put_fault_below, replica_of, with_put}
use Rattle.hub_tree.specs.Tree.{Replica, IsRefusal}
use Rattle.hub_tree.specs.declared.contents.Contents.{Contents}
use Rattle.hub_tree.specs.declared.fault.SetFault.{SetFault}
use Rattle.hub_tree.specs.declared.node.Node.{Node}

-- Whether a path below these children is left as it is: only new contents are put, and it has some.
abbrev pub is_left_among : Bool → BTreeMap Name Node → Path → Bool
is_left_among only_new children p = is_left only_new (replica_of children.entries) p

-- Contents are put at a path of a replica, or refused for this fault, and then it is as before.
abbrev pub PutsOrRefuses : Bool → Option SetFault → Path → Contents → Replica → Replica
    → Result Bool SetFault → Type 0
PutsOrRefuses only_new fault p c old new result =
    IfOk result (λ left. left ≡ is_left only_new old p)
    × OnOk result (fault ≡ None)
    × OnOk result (new ≡ with_put only_new old p c)
    × IfErr result (IsRefusal fault)
    × OnErr result (new ≡ old)

-- These contents are put at a path below the children, or refused.
abbrev pub IsPut : Bool → BTreeMap Name Node → BTreeMap Name Node → Path → Contents
    → Result Bool SetFault → Type 0
IsPut only_new old new p c result =
    let m = replica_of old.entries in
    PutsOrRefuses only_new (put_fault only_new m p c) p c m (replica_of new.entries) result

-- These contents are put at a path below the node, or refused.
abbrev pub IsPutBelow : Bool → Node → Node → Path → Contents → Result Bool SetFault → Type 0
IsPutBelow only_new old new p c result =
    PutsOrRefuses only_new (put_fault_below only_new old p c) p c
    (replica_of (kids_of old)) (replica_of (kids_of new)) result

-- These contents are set at the name of a child, or refused.
abbrev pub SetsChild : Contents → Name → BTreeMap Name Node → BTreeMap Name Node
    → Result ⊤ SetFault → Type 0
SetsChild c name old new result =
    SetsOrRefuses c (name ∷ []) (replica_of old.entries) (replica_of new.entries) result

-- At a path below the children, and below it, stands what this node is and holds, or nothing.
abbrev pub IsNodeAt : BTreeMap Name Node → Path → Option Node → Type 0
IsNodeAt children p found =
    (q : Path) → fin.get (replica_of children.entries) (p ++ q) ≡ option_and_then (node_get q) found

-- The paths of all that the children hold, each after a prefix.
abbrev pub paths_in : Path → BTreeMap Name Node → List Path
paths_in prefix children = map (λ p. prefix ++ p) (fin.keys (replica_of children.entries))

-- The path of a node, and then those of all that it holds.
abbrev pub paths_of : Path → Node → List Path
paths_of path node = map (λ p. path ++ p) ([] ∷ fin.keys (replica_of (kids_of node)))

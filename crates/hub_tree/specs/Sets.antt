-- Several Sets, one after the other.
use Rattle.std.specs.Prelude.{◌≡◌, ◌<◌, ◌&&◌, length, Bool, true, false, IsTrue, List, [], ◌∷◌, ◌++◌, map, reverse, Option, Some, None, if◌then◌else◌, is_some}
use Rattle.std.specs.List.{filter}
use Rattle.std.specs.Option.{option_and_then}
use Rattle.hub_path.specs.Path.{Path, parent, path_eq}
use Rattle.hub_tree.specs.Below.{is_below, under}
use Rattle.hub_tree.specs.Tree.{Replica, IsTree, children, contents_at, is_absent, is_child, is_directory, set_fault, with_contents}
use Rattle.hub_tree.specs.declared.contents.Contents.{Contents}
use Rattle.hub_tree.specs.declared.contents.Contents.TheVariants.{Absent, Directory}

-- The replica after Sets of these contents at these paths in order. None, where one of them is
-- refused.
abbrev pub sets : Replica → List (Path × Contents) → Option Replica
sets m [] = Some m
sets m (c ∷ cs) = if is_some (set_fault m c.0 c.1) then None else sets (with_contents m c.0 c.1) cs

-- A Set at each of these paths, of what this function has there.
abbrev pub each : (Path → Contents) → List Path → List (Path × Contents)
each f ps = map (λ p. (p, f p)) ps

-- These Sets leave a replica that has these contents at each path.
abbrev pub Leave : Replica → List (Path × Contents) → (Path → Contents) → Type 0
Leave m cs after =
    (k : Replica) × (sets m cs ≡ Some k) × IsTree k × ((q : Path) → contents_at k q ≡ after q)

-- The Sets that remove all below a path, in descending order.
abbrev pub removals : Replica → Path → List (Path × Contents)
removals m p = each (λ _. Absent) (reverse (under m p))

-- The contents at each path, with nothing below p.
abbrev pub emptied : Replica → Path → Path → Contents
emptied m p q = if is_below p q then Absent else contents_at m q

-- The same with these contents at p.
abbrev pub replaced : Replica → Path → Contents → Path → Contents
replaced m p c q = if path_eq q p then c else emptied m p q

-- If a path lies in a directory, it holds.
abbrev pub IfInDirectory : Replica → Path → Type 0 → Type 0
IfInDirectory m p C = 0 < length p → is_directory (contents_at m (parent p)) ≡ true → C

-- If a path lies in a directory and is none, it holds.
abbrev pub IfNoDirectory : Replica → Path → Type 0 → Type 0
IfNoDirectory m p C = IfInDirectory m p (is_directory (contents_at m p) ≡ false → C)

-- The Sets of what passes a test below a path, in ascending order.
abbrev pub copies : Replica → Path → (Path → Bool) → List (Path × Contents)
copies s p f = each (contents_at s) (filter f (under s p))

-- The contents at each path, with those of s where a path below p passes the test.
abbrev pub grafted : Replica → Replica → Path → (Path → Bool) → Path → Contents
grafted m s p f q = if is_below p q && f q then contents_at s q else contents_at m q

-- The same, where p becomes a directory first.
abbrev pub folder_copies : Replica → Path → (Path → Bool) → List (Path × Contents)
folder_copies s p f = (p, Directory) ∷ copies s p f

abbrev pub with_folder : Replica → Replica → Path → (Path → Bool) → Path → Contents
with_folder m s p f q =
    if is_below p q && f q then contents_at s q
    else (if path_eq q p then Directory else contents_at m q)

-- Whatever passes the test below a path needs its parents to pass.
abbrev pub ParentsPass : Replica → Path → (Path → Bool) → Type 0
ParentsPass s p f =
    (x y : Path) → IsTrue (is_below p x) → IsTrue (is_below x y)
    → is_absent (contents_at s y) ≡ false → f y ≡ true → f x ≡ true

-- Both replicas have the same contents at each child of a directory that passes a test.
abbrev pub SameChildren : Replica → Replica → Path → (Path → Bool) → Type 0
SameChildren m k d f =
    (q : Path) → IsTrue (is_child d q) → f q ≡ true → contents_at m q ≡ contents_at k q

-- Both replicas list the same children of a directory that pass a test.
abbrev pub ListAlike : Replica → Replica → Path → (Path → Bool) → Type 0
ListAlike m k d f = filter f (children m d) ≡ filter f (children k d)

-- The replica after some Sets, and then these others.
abbrev pub sets_in_turn : Replica → List (Path × Contents) → List (Path × Contents) → Option Replica
sets_in_turn m cs ds = option_and_then (λ k. sets k ds) (sets m cs)

-- What lies below a path can be removed, and then these contents be set at the path, unless both
-- the path and they are absent.
abbrev pub CanReplace : Replica → Path → Contents → Type 0
CanReplace m p c =
    (is_absent (contents_at m p) && is_absent c) ≡ false
    → Leave m (removals m p ++ (p, c) ∷ []) (replaced m p c)

-- If a path is a directory that holds nothing, it holds.
abbrev pub IfEmptyDirectory : Replica → Path → Type 0 → Type 0
IfEmptyDirectory m p C = contents_at m p ≡ Directory → under m p ≡ [] → C

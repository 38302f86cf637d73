-- What is left of a walk through a tree: directories with the children that are left, each before
-- the one that it holds.
use Rattle.std.specs.Prelude.{◌≡◌, Bool, true, ◌&&◌, List, [], ◌∷◌, ◌++◌, map}
use Rattle.std.specs.FinMap as fin
use Rattle.std.specs.FinMap.Entries.{is_sorted}
use Rattle.hub_path.specs.Path.{Name, Path, name_cmp}
use Rattle.hub_tree.specs.Nodes.{Entries, kids_of, replica_of}
use Rattle.hub_tree.specs.declared.entries.Level.{Level}
use Rattle.hub_tree.specs.declared.node.Node.{Node}

-- The entries, each after a prefix.
abbrev pub entries_after : Path → Entries → Entries
entries_after p es = map (λ e. (p ++ e.0, e.1)) es

-- What a node holds, below a path.
abbrev pub entries_in : Path → Node → Entries
entries_in p node = entries_after p (fin.entries (replica_of (kids_of node)))

-- The children that are left of a directory, and what they hold.
abbrev pub level_entries : Level → Entries
level_entries l = entries_after l.path (fin.entries (replica_of l.children))

-- What a directory holds comes before what is left of the directory that it is in.
abbrev pub left_in : List Level → Entries
left_in [] = []
left_in (l ∷ ls) = left_in ls ++ level_entries l

abbrev pub all_ascend : List Level → Bool
all_ascend [] = true
all_ascend (l ∷ ls) = is_sorted name_cmp l.children && all_ascend ls

-- A child of a level was entered: what it holds is left, what is left of the level, and what was
-- left before.
abbrev pub IsEntered : Level → Name → Node → List Level → List Level → Type 0
IsEntered level name node old new =
    left_in new ≡ entries_in (level.path ++ name ∷ []) node ++ (level_entries level ++ left_in old)

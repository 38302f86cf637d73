-- What lies below a path.
use Rattle.std.specs.Prelude.{◌≡◌, Bool, not, ◌&&◌, IsTrue, List}
use Rattle.std.specs.List.{filter}
use Rattle.std.specs.FinMap as fin
use Rattle.hub_path.specs.Path.{Path, path_eq, is_over}
use Rattle.hub_tree.specs.Tree.{Replica, contents_at, is_absent}
use Rattle.hub_tree.specs.declared.contents.Contents.TheVariants.{Absent}

-- p is d with one name or more after it.
abbrev pub is_below : Path → Path → Bool
is_below d p = is_over d p && not (path_eq d p)

-- The paths below d that have contents, ascending.
abbrev pub under : Replica → Path → List Path
under m d = filter (λ p. is_below d p && not (is_absent (contents_at m p))) (fin.keys m)

-- Each path below d is absent.
abbrev pub AllAbsentBelow : Replica → Path → Type 0
AllAbsentBelow m d = (q : Path) → IsTrue (is_below d q) → contents_at m q ≡ Absent

-- Worked examples: a directory `a` that holds a file `b`.
use Rattle.std.specs.Prelude.{◌≡◌, true, false, None, ◌==◌, ℕ, T, List, [], ◌∷◌, Some, codes, refl}
use Rattle.std.specs.List.{slice_split}
use Rattle.std.specs.FinMap.{get, empty, insert, remove, get-empty, get-insert, get-from_sorted, entries-from_sorted, is_sorted, from_sorted}
use Rattle.hub_path.specs.Path.{Path, path_cmp}
use Rattle.hub_tree.specs.declared.contents.Contents.{Contents}
use Rattle.hub_tree.specs.declared.contents.Contents.TheVariants.{File, Directory, Absent}
use Rattle.hub_tree.specs.declared.fault.SetFault.TheVariants.{RootPath, NoParent, NotEmpty, NothingThere}
use Rattle.hub_path.specs.laws.General.{path_cmp-total}
use Rattle.hub_tree.specs.Below.{is_below, under}
use Rattle.hub_tree.specs.Sets.{sets}
use Rattle.hub_tree.specs.Tree.{Replica, set_fault, new_fault, with_new_contents, children, names_at, bytes_at, IsTree}

abbrev path : List ℕ → Path
path t = slice_split (λ c. c == 47) t

abbrev entries : List (Path × Contents)
entries = (path (codes "a"), Directory) ∷ (path (codes "a/b"), File (codes "x")) ∷ []

abbrev small : Replica
small = from_sorted {R = path_cmp} entries

the_whole_replica_can_not_be_set : set_fault small [] Directory ≡ Some RootPath
the_whole_replica_can_not_be_set = refl

a_missing_parent_is_not_made : set_fault small (path (codes "x/y")) (File []) ≡ Some NoParent
a_missing_parent_is_not_made =
    let h : T (is_sorted path_cmp entries) = tt in simp (get-from_sorted, entries-from_sorted)

nothing_stands_below_a_file : set_fault small (path (codes "a/b/c")) (File []) ≡ Some NoParent
nothing_stands_below_a_file =
    let h : T (is_sorted path_cmp entries) = tt in simp (get-from_sorted, entries-from_sorted)

nothing_goes_where_no_parent_is : set_fault small (path (codes "x/y")) Absent ≡ Some NoParent
nothing_goes_where_no_parent_is =
    let h : T (is_sorted path_cmp entries) = tt in simp (get-from_sorted, entries-from_sorted)

a_full_directory_does_not_go : set_fault small (path (codes "a")) Absent ≡ Some NotEmpty
a_full_directory_does_not_go =
    let h : T (is_sorted path_cmp entries) = tt in simp (get-from_sorted, entries-from_sorted)

a_full_directory_becomes_no_file : set_fault small (path (codes "a")) (File []) ≡ Some NotEmpty
a_full_directory_becomes_no_file =
    let h : T (is_sorted path_cmp entries) = tt in simp (get-from_sorted, entries-from_sorted)

nothing_is_not_removed : set_fault small (path (codes "z")) Absent ≡ Some NothingThere
nothing_is_not_removed =
    let h : T (is_sorted path_cmp entries) = tt in simp (get-from_sorted, entries-from_sorted)

a_directory_may_be_made_again : set_fault small (path (codes "a")) Directory ≡ None
a_directory_may_be_made_again =
    let h : T (is_sorted path_cmp entries) = tt in simp (get-from_sorted, entries-from_sorted)

-- If only new contents are set, what is there is left, and no fault is reported of it.
a_full_directory_is_left : new_fault small (path (codes "a")) (File []) ≡ None
a_full_directory_is_left =
    let h : T (is_sorted path_cmp entries) = tt in simp (get-from_sorted, entries-from_sorted)

a_file_is_left : with_new_contents small (path (codes "a/b")) Directory ≡ small
a_file_is_left = let h : T (is_sorted path_cmp entries) = tt in simp (get-from_sorted)

a_new_file_is_set : with_new_contents small (path (codes "z")) (File [])
    ≡ insert small (path (codes "z")) (File [])
a_new_file_is_set = let h : T (is_sorted path_cmp entries) = tt in simp (get-from_sorted)

a_new_file_wants_a_parent : new_fault small (path (codes "x/y")) (File []) ≡ Some NoParent
a_new_file_wants_a_parent =
    let h : T (is_sorted path_cmp entries) = tt in simp (get-from_sorted, entries-from_sorted)

the_names_of_a_directory : names_at small (path (codes "a")) ≡ codes "b" ∷ []
the_names_of_a_directory =
    let h : T (is_sorted path_cmp entries) = tt in simp (get-from_sorted, entries-from_sorted)

the_top_lists_no_grandchildren : names_at small [] ≡ codes "a" ∷ []
the_top_lists_no_grandchildren =
    let h : T (is_sorted path_cmp entries) = tt in simp (get-from_sorted, entries-from_sorted)

the_bytes_of_a_file : bytes_at small (path (codes "a/b")) ≡ Some (codes "x")
the_bytes_of_a_file = let h : T (is_sorted path_cmp entries) = tt in simp (get-from_sorted)

-- An entry that says that nothing is there is no child, and with it the map is no tree.
abbrev odd_entries : List (Path × Contents)
odd_entries =
    (path (codes "a"), Directory) ∷ (path (codes "a/b"), Absent) ∷ (path (codes "a/c"), File [])
    ∷ []

abbrev odd : Replica
odd = from_sorted {R = path_cmp} odd_entries

no_child : children odd (path (codes "a")) ≡ path (codes "a/c") ∷ []
no_child =
    let h : T (is_sorted path_cmp odd_entries) = tt in simp (get-from_sorted, entries-from_sorted)

stored : get odd (path (codes "a/b")) ≡ Some Absent
stored = let h : T (is_sorted path_cmp odd_entries) = tt in simp (get-from_sorted)

no_tree : ¬ (IsTree odd)
no_tree t = t.present (path (codes "a/b")) stored

-- A path is not below itself, and names that begin alike don't matter.
below : is_below (path (codes "a")) (path (codes "a/b")) ≡ true
below = refl

not_below_itself : is_below (path (codes "a")) (path (codes "a")) ≡ false
not_below_itself = refl

not_below_a_name_that_begins_alike : is_below (path (codes "a")) (path (codes "a-b/c")) ≡ false
not_below_a_name_that_begins_alike = refl

what_is_under_the_top : under small [] ≡ path (codes "a") ∷ path (codes "a/b") ∷ []
what_is_under_the_top =
    let h : T (is_sorted path_cmp entries) = tt in simp (get-from_sorted, entries-from_sorted)

what_is_under_a_directory : under small (path (codes "a")) ≡ path (codes "a/b") ∷ []
what_is_under_a_directory =
    let h : T (is_sorted path_cmp entries) = tt in simp (get-from_sorted, entries-from_sorted)

-- A directory is set before what it holds, and goes after it.
up : sets empty ((path (codes "a"), Directory) ∷ (path (codes "a/b"), File []) ∷ [])
    ≡ Some (insert (insert empty (path (codes "a")) Directory) (path (codes "a/b")) (File []))
up = simp (get-empty, get-insert {X = Contents} path_cmp-total)

not_before_its_parent : sets empty ((path (codes "a/b"), File []) ∷ (path (codes "a"), Directory)
    ∷ []) ≡ None
not_before_its_parent = simp (get-empty)

down : sets small ((path (codes "a/b"), Absent) ∷ []) ≡ Some (remove small (path (codes "a/b")))
down = let h : T (is_sorted path_cmp entries) = tt in simp (get-from_sorted, entries-from_sorted)

not_before_what_it_holds : sets small ((path (codes "a"), Absent) ∷ (path (codes "a/b"), Absent)
    ∷ []) ≡ None
not_before_what_it_holds =
    let h : T (is_sorted path_cmp entries) = tt in simp (get-from_sorted, entries-from_sorted)

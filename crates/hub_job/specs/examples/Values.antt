-- Worked examples.
use Rattle.std.specs.Prelude.{⊤, ◌≡◌, ℕ, true, false, T, List, [], ◌∷◌, ◌++◌, length, map, refl, codes}
use Rattle.std.specs.FinMap.{get-from_sorted, entries-from_sorted, is_sorted, from_sorted}
use Rattle.hub_path.specs.Path.{Path, path_of, path_cmp}
use Rattle.hub_path.specs.declared.side.Side.{Side}
use Rattle.hub_path.specs.declared.side.Side.TheVariants.{Left, Right}
use Rattle.hub_glob.specs.Specification.{Specification}
use Rattle.hub_glob.specs.declared.path_spec.Kind.TheVariants as kind
use Rattle.hub_glob.specs.declared.piece.Part.TheVariants.{One}
use Rattle.hub_glob.specs.declared.piece.Piece.TheVariants.{Lit}
use Rattle.hub_profile.specs.Parts.{Parts}
use Rattle.hub_profile.specs.examples.Profiles.{hub, of_kept}
use Rattle.hub_profile.specs.Protection.{no_bars}
use Rattle.hub_tree.specs.Tree.{Replica}
use Rattle.hub_tree.specs.declared.contents.Contents.{Contents}
use Rattle.hub_tree.specs.declared.contents.Contents.TheVariants as contents
use Rattle.hub_tree.specs.declared.contents.Mark.{Mark}
use Rattle.hub_tree.specs.declared.contents.Mark.TheVariants as mark
use Rattle.hub_job.specs.declared.op.Op.TheVariants.{Look, Fetch, Set}
use Rattle.hub_job.specs.declared.op.Next.TheVariants.{Ask, Finished, Stopped}
use Rattle.hub_job.specs.declared.answer.OpFault.TheVariants.{NoParent}
use Rattle.hub_job.specs.declared.answer.Answer.TheVariants.{Bytes, Done, Refused}
use Rattle.hub_job.specs.declared.log.Logged.{Logged}
use Rattle.hub_glob.specs.Glob.{matches}
use Rattle.hub_reach.specs.Reach.{reach}
use Rattle.hub_reconcile.specs.Sight.{sight}
use Rattle.hub_reconcile.specs.Items.{items, plan}
use Rattle.hub_job.specs.Machine.{answer, after, is_shared, sees}
use Rattle.hub_job.specs.Job.{next}
use Rattle.hub_job.specs.World.{Jobs, opening, turn, run, first_turns}

-- What these examples compute.
computed : ⊤
unfolding answer after next turn run sight items plan reach matches
computed = tt

abbrev entries : List (Path × Contents)
entries = (path_of (codes "docs"), contents.Directory) ∷ []

abbrev one : Replica
one = from_sorted {R = path_cmp} entries

abbrev none : List (Path × Mark)
none = []

an_empty_directory_is_seen :
    answer one (of_kept (codes "docs")) hub (Look (path_of (codes "docs")))
    ≡ sees mark.Directory [] false
unfolding computed
an_empty_directory_is_seen =
    let h : T (is_sorted path_cmp entries) = tt in simp (get-from_sorted, entries-from_sorted)

a_file_without_a_parent_is_refused :
    answer one (of_kept (codes "docs")) hub (Set (path_of (codes "docs/x/y")) (contents.File []))
    ≡ Refused NoParent
unfolding computed
a_file_without_a_parent_is_refused =
    let h : T (is_sorted path_cmp entries) = tt in simp (get-from_sorted, entries-from_sorted)

-- The whole replica is the parent of a kept value of one name: it is a directory, and no more is
-- told.
the_parent_of_a_kept_value_is_told_as_a_directory :
    answer one (of_kept (codes "docs")) hub (Look []) ≡ sees mark.Directory [] false
unfolding computed
the_parent_of_a_kept_value_is_told_as_a_directory = refl

what_is_not_reached_is_told_as_nothing :
    answer one (of_kept (codes "docs/x")) hub (Look []) ≡ sees mark.Absent [] false
unfolding computed
what_is_not_reached_is_told_as_nothing = refl

sights_and_bytes_are_shared :
    map is_shared (sees mark.Directory [] false ∷ Bytes [] ∷ Done ∷ Refused NoParent ∷ []) ≡ true
    ∷ true ∷ false ∷ false ∷ []
sights_and_bytes_are_shared = refl

-- `path = d`, `ignore = Name y`: d has a child y, which isn't reached. Others are told of d where
-- some change of it is allowed.
abbrev named : List ℕ → Specification
named t = record { kind = kind.Name; pattern = map (λ c. One (Lit c)) t }

abbrev without_y : Parts
without_y = record (of_kept (codes "d")) { ignore = named (codes "y") ∷ [] }

abbrev d : Path
d = path_of (codes "d")

abbrev entries_of_d : List (Path × Contents)
entries_of_d = (d, contents.Directory) ∷ (path_of (codes "d/y"), contents.Directory) ∷ []

abbrev holding_y : Replica
holding_y = from_sorted {R = path_cmp} entries_of_d

others_are_told_where_it_writes :
    answer holding_y without_y hub (Look d) ≡ sees mark.Directory [] true
unfolding computed
others_are_told_where_it_writes =
    let h : T (is_sorted path_cmp entries_of_d) = tt in simp (get-from_sorted, entries-from_sorted)

-- `noupdatepartial`, which bars deletions too, and `nocreationpartial`, both with `Name NAME ->
-- ROOT`.
abbrev no_updates_at : Side → List ℕ → Parts
no_updates_at side t = record without_y {
  partial = record {
    side = side;
    bars = record no_bars { update = true; delete = true };
    spec = named t;
  } ∷ [];
}

abbrev no_changes_at : Side → List ℕ → Parts
no_changes_at side t = record without_y {
  partial = record {
    side = side;
    bars = record no_bars { update = true; delete = true };
    spec = named t;
  }
      ∷ record { side = side; bars = record no_bars { create = true }; spec = named t }
      ∷ [];
}

others_are_not_told_where_nothing_is_written :
    answer holding_y (no_changes_at Left (codes "d")) hub (Look d) ≡ sees mark.Directory [] false
unfolding computed
others_are_not_told_where_nothing_is_written =
    let h : T (is_sorted path_cmp entries_of_d) = tt in simp (get-from_sorted, entries-from_sorted)

others_are_told_where_something_may_be_created :
    answer holding_y (no_updates_at Left (codes "d")) hub (Look d) ≡ sees mark.Directory [] true
unfolding computed
others_are_told_where_something_may_be_created =
    let h : T (is_sorted path_cmp entries_of_d) = tt in simp (get-from_sorted, entries-from_sorted)

bars_on_another_path_hide_nothing_here :
    answer holding_y (no_changes_at Left (codes "y")) hub (Look d) ≡ sees mark.Directory [] true
unfolding computed
bars_on_another_path_hide_nothing_here =
    let h : T (is_sorted path_cmp entries_of_d) = tt in simp (get-from_sorted, entries-from_sorted)

bars_on_the_other_root_hide_nothing_here :
    answer holding_y (no_changes_at Right (codes "d")) hub (Look d) ≡ sees mark.Directory [] true
unfolding computed
bars_on_the_other_root_hide_nothing_here =
    let h : T (is_sorted path_cmp entries_of_d) = tt in simp (get-from_sorted, entries-from_sorted)

-- `path = p/q`: the first Look is at its parent, on the left.
the_first_look_is_at_the_parent :
    next (of_kept (codes "p/q")) (from_sorted {R = path_cmp} none) [] ≡ Ask Left
    (Look (path_of (codes "p")))
unfolding computed
the_first_look_is_at_the_parent = refl

abbrev a : Path
a = path_of (codes "a")

abbrev looked : Side → Mark → Logged
looked side m = record {
  side = side;
  step = record { job = 0; op = Look a; answer = sees m [] false };
}

abbrev two_looks : List Logged
two_looks = looked Left mark.Directory ∷ looked Right mark.Absent ∷ []

-- `path = a`, and a is a directory on the left alone: after both Looks it is made on the right, and
-- then the job is finished.
a_directory_is_made :
    next (of_kept (codes "a")) (from_sorted {R = path_cmp} none) two_looks ≡ Ask Right
    (Set a contents.Directory)
unfolding computed
a_directory_is_made =
    let h : T (is_sorted path_cmp none) = tt in simp (get-from_sorted, entries-from_sorted)

the_job_is_finished_with_its_last_answer :
    next (of_kept (codes "a")) (from_sorted {R = path_cmp} none) (two_looks ++ record {
      side = Right;
      step = record { job = 0; op = Set a contents.Directory; answer = Done };
    } ∷ []) ≡ Finished
unfolding computed
the_job_is_finished_with_its_last_answer =
    let h : T (is_sorted path_cmp none) = tt in simp (get-from_sorted, entries-from_sorted)

-- A file that is only on the left is fetched there, and then set with the bytes that came.
abbrev file_looks : List Logged
file_looks = looked Left (mark.File (1 ∷ [])) ∷ looked Right mark.Absent ∷ []

a_file_is_fetched : next (of_kept (codes "a")) (from_sorted {R = path_cmp} none) file_looks ≡ Ask Left
    (Fetch a)
unfolding computed
a_file_is_fetched =
    let h : T (is_sorted path_cmp none) = tt in simp (get-from_sorted, entries-from_sorted)

a_file_is_set_with_the_bytes_that_came :
    next (of_kept (codes "a")) (from_sorted {R = path_cmp} none) (file_looks ++ record {
      side = Left;
      step = record { job = 0; op = Fetch a; answer = Bytes (codes "x") };
    } ∷ []) ≡ Ask Right (Set a (contents.File (codes "x")))
unfolding computed
a_file_is_set_with_the_bytes_that_came =
    let h : T (is_sorted path_cmp none) = tt in simp (get-from_sorted, entries-from_sorted)

a_refusal_stops_the_job :
    next (of_kept (codes "a")) (from_sorted {R = path_cmp} none) (two_looks ++ record {
      side = Right;
      step = record { job = 0; op = Set a contents.Directory; answer = Refused NoParent };
    } ∷ []) ≡ Stopped
unfolding computed
a_refusal_stops_the_job = refl

-- Two turns of two jobs in a world of empty replicas: one Look in each log.
abbrev jobs : Jobs
jobs = record {
  profiles = of_kept (codes "a") ∷ of_kept (codes "b") ∷ [];
  archive = λ j. from_sorted {R = path_cmp} none;
}

abbrev nobody : List (Path × Contents)
nobody = []

a_look_in_each_log :
    map length (run jobs (0 ∷ 1 ∷ []) (opening jobs (λ r. from_sorted {R = path_cmp} nobody))).logs
    ≡ 1 ∷ 1 ∷ []
unfolding computed
a_look_in_each_log = refl

both_looks_are_in_the_left_history :
    map (λ r. length
    ((run jobs (0 ∷ 1 ∷ []) (opening jobs (λ r. from_sorted {R = path_cmp} nobody))).history r))
    (hub ∷ path_of (codes "srv/s1") ∷ []) ≡ 2 ∷ 0 ∷ []
unfolding computed
both_looks_are_in_the_left_history = refl

the_empty_schedule_leaves_the_opening :
    run jobs [] (opening jobs (λ r. from_sorted {R = path_cmp} nobody)) ≡ opening jobs
    (λ r. from_sorted {R = path_cmp} nobody)
unfolding computed
the_empty_schedule_leaves_the_opening = refl

-- A job that has one turn left has its first one.
a_job_loses_its_later_turns : first_turns (λ j. 1) (0 ∷ 1 ∷ 0 ∷ 1 ∷ []) ≡ 0 ∷ 1 ∷ []
a_job_loses_its_later_turns = refl

-- Worked examples of jobs that start one after another.
use Rattle.std.specs.Prelude.{⊤, ◌≡◌, ℕ, true, false, T, List, [], ◌∷◌, ◌++◌, Bool, Option, Some, None, map, refl, codes}
use Rattle.std.proofs.Common.{cond, ap, sym, ◌∙◌}
use Rattle.std.specs.Ordering.{eq_by_cmp}
use Rattle.std.specs.FinMap.{get-from_sorted, entries-from_sorted, is_sorted, from_sorted, remove, same_map, get-remove}
use Rattle.hub_path.specs.Path.{Path, path_of, path_cmp}
use Rattle.hub_tree.specs.laws.Order.{path_total, path_antisymmetric}
use Rattle.hub_path.specs.declared.side.Side.{Side}
use Rattle.hub_path.specs.declared.side.Side.TheVariants.{Left, Right}
use Rattle.hub_profile.specs.Parts.{Parts}
use Rattle.hub_profile.specs.examples.Profiles.{s1, of_kept}
use Rattle.hub_tree.specs.Tree.{set_fault, with_contents}
use Rattle.hub_tree.specs.declared.contents.Contents.{Contents}
use Rattle.hub_tree.specs.declared.contents.Contents.TheVariants as contents
use Rattle.hub_tree.specs.declared.contents.Mark.{Mark}
use Rattle.hub_tree.specs.declared.contents.Mark.TheVariants as mark
use Rattle.hub_job.specs.declared.op.Op.TheVariants.{Look, Set}
use Rattle.hub_job.specs.declared.op.Next.TheVariants.{Ask, Finished, Stopped}
use Rattle.hub_job.specs.declared.answer.OpFault.TheVariants.{NothingThere}
use Rattle.hub_job.specs.declared.answer.Answer.{Answer}
use Rattle.hub_job.specs.declared.answer.Answer.TheVariants.{Done, Refused}
use Rattle.hub_job.specs.declared.op.Op.{Op}
use Rattle.hub_job.specs.declared.log.Logged.{Logged}
use Rattle.hub_glob.specs.Glob.{matches}
use Rattle.hub_reach.specs.Reach.{reach}
use Rattle.hub_reconcile.specs.Sight.{sight}
use Rattle.hub_reconcile.specs.Items.{items, plan}
use Rattle.hub_job.specs.Machine.{answer, after, changed_unless, sees}
use Rattle.hub_job.specs.Job.{next}
use Rattle.hub_serial.specs.World.{World, opening, run, turn}

-- What these examples compute.
pub computed : ⊤
unfolding answer after next turn sight items plan reach matches
computed = tt

abbrev no_contents : Option Contents
no_contents = None

none_either : (b : Bool) → cond b no_contents (cond b (Some contents.Directory) no_contents) ≡ no_contents
none_either true = refl
none_either false = refl

abbrev pub a : Path
a = path_of (codes "a")

abbrev pub P : Parts
P = of_kept (codes "a")

abbrev pub nothing : List (Path × Contents)
nothing = []

abbrev no_marks : List (Path × Mark)
no_marks = []

abbrev pub marked : Mark → List (Path × Mark)
marked m = (a, m) ∷ []

abbrev pub entry : ℕ → Side → Op → Answer → Logged
entry j side op answer =
    record { side = side; step = record { job = j; op = op; answer = answer } }

abbrev pub looked_by : ℕ → Side → Mark → Logged
looked_by j side m = entry j side (Look a) (sees m [] false)

abbrev looked : Side → Mark → Logged
looked side m = looked_by 0 side m

-- `path = a`: a is a directory at s1 and not at the hub. An archive without it: it is made at the
-- hub.
abbrev only_right : List Logged
only_right = looked Left mark.Absent ∷ looked Right mark.Directory ∷ []

it_is_made_at_the_hub :
    next P (from_sorted {R = path_cmp} no_marks) only_right ≡ Ask Left (Set a contents.Directory)
unfolding computed
it_is_made_at_the_hub =
    let h : T (is_sorted path_cmp no_marks) = tt in simp (get-from_sorted, entries-from_sorted)

-- With the archive that an earlier job of the two replicas left, it was deleted at the hub since:
-- so it is deleted at s1. A job that had the archive of the opening would bring it back.
it_is_deleted_at_s1 :
    next P (from_sorted {R = path_cmp} (marked mark.Directory)) only_right ≡ Ask Right
    (Set a contents.Absent)
unfolding computed
it_is_deleted_at_s1 =
    let h : T (is_sorted path_cmp (marked mark.Directory)) = tt in
    simp (get-from_sorted, entries-from_sorted)

-- A file that was deleted at the hub is deleted at s1, and then the job has no more to ask.
abbrev pub deleted : List Logged
deleted = looked Left mark.Absent ∷ looked Right (mark.File (1 ∷ []))
    ∷ entry 0 Right (Set a contents.Absent) Done ∷ []

it_has_no_more_to_ask : next P (from_sorted {R = path_cmp} (marked (mark.File (1 ∷ [])))) deleted ≡ Finished
unfolding computed
it_has_no_more_to_ask =
    let h : T (is_sorted path_cmp (marked (mark.File (1 ∷ [])))) = tt in
    simp (get-from_sorted, entries-from_sorted)

-- By the archive that it leaves, which has no such mark, it would go on, and make an empty file: so
-- a job that is done does nothing.
it_would_go_on : next P (from_sorted {R = path_cmp} no_marks) deleted ≡ Ask Left (Set a (contents.File []))
unfolding computed
it_would_go_on =
    let h : T (is_sorted path_cmp no_marks) = tt in simp (get-from_sorted, entries-from_sorted)

-- Two empty replicas: after two Looks a job has no more to ask, and with its third turn it is done.
abbrev start : World
start = opening (λ r. from_sorted {R = path_cmp} nothing) (λ k. from_sorted {R = path_cmp} no_marks)

done_with_the_third_turn :
    map (λ js. (run (P ∷ []) js start).done 0) ((0 ∷ 0 ∷ []) ∷ (0 ∷ 0 ∷ 0 ∷ []) ∷ [])
    ≡ false ∷ true ∷ []
unfolding computed
done_with_the_third_turn =
    let h : T (is_sorted path_cmp no_marks) = tt in
    let g : T (is_sorted path_cmp nothing) = tt in simp (get-from_sorted, entries-from_sorted)

-- Two starts of one profile: a, a directory of both, was deleted at the hub. If they overlap, both
-- look before one of them deletes it at s1, as above. Then the other one is refused, so it is
-- stopped and never done.
abbrev pub with_a : List (Path × Contents)
with_a = (a, contents.Directory) ∷ []

none_hinders : set_fault (from_sorted {R = path_cmp} with_a) a contents.Absent ≡ None
none_hinders = let h : T (is_sorted path_cmp with_a) = tt in simp (get-from_sorted, entries-from_sorted)

removed : with_contents (from_sorted {R = path_cmp} with_a) a contents.Absent ≡ from_sorted {R = path_cmp} nothing
removed =
    same_map path_total path_antisymmetric (remove (from_sorted {R = path_cmp} with_a) a) (from_sorted {R = path_cmp} nothing)
    (λ q. let h : T (is_sorted path_cmp with_a) = tt in let g : T (is_sorted path_cmp nothing) = tt in
    get-remove path_total (from_sorted {R = path_cmp} with_a) a q
    ∙ (ap (λ o. cond (eq_by_cmp path_cmp q a) None o) (get-from_sorted path_cmp with_a q h)
    ∙ (none_either (eq_by_cmp path_cmp q a) ∙ sym (get-from_sorted path_cmp nothing q g))))

after_the_first_deletion :
    after (from_sorted {R = path_cmp} with_a) (Set a contents.Absent) ≡ from_sorted {R = path_cmp} nothing
unfolding computed
after_the_first_deletion =
    ap (λ o. changed_unless o (from_sorted {R = path_cmp} with_a) (with_contents (from_sorted {R = path_cmp} with_a) a contents.Absent)) none_hinders
    ∙ removed

pub the_second_deletion_is_refused :
    answer (after (from_sorted {R = path_cmp} with_a) (Set a contents.Absent)) P s1 (Set a contents.Absent)
    ≡ Refused NothingThere
unfolding computed
the_second_deletion_is_refused =
    ap (λ m. answer m P s1 (Set a contents.Absent)) after_the_first_deletion
    ∙ (let g : T (is_sorted path_cmp nothing) = tt in simp (get-from_sorted, entries-from_sorted))

it_is_stopped :
    next P (from_sorted {R = path_cmp} (marked mark.Directory))
    (only_right ++ entry 0 Right (Set a contents.Absent) (Refused NothingThere) ∷ []) ≡ Stopped
unfolding computed
it_is_stopped = refl

-- If it starts after the end of the first one, it finds nothing, and has no more to ask.
nothing_is_left_to_do :
    next P (from_sorted {R = path_cmp} no_marks) (looked Left mark.Absent ∷ looked Right mark.Absent ∷ []) ≡ Finished
unfolding computed
nothing_is_left_to_do =
    let h : T (is_sorted path_cmp no_marks) = tt in simp (get-from_sorted, entries-from_sorted)

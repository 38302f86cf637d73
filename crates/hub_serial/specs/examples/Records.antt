-- Worked examples of what is recorded of a run, of starters, and of edits.
use Rattle.std.specs.Prelude.{⊤, ◌≡◌, ◌==◌, ℕ, zero, suc, true, false, T, List, [], ◌∷◌, Option, Some, None, map, refl, slice_get}
use Rattle.std.specs.FinMap as fin
use Rattle.std.specs.FinMap.{get-from_sorted, is_sorted, from_sorted}
use Rattle.std.proofs.Common.{ap, arith, cond, inl, sym, ◌∙◌}
use Rattle.hub_path.specs.Path.{Path, path_cmp, path_eq}
use Rattle.hub_path.specs.declared.side.Side.TheVariants.{Left, Right}
use Rattle.hub_glob.specs.Glob.{matches}
use Rattle.hub_profile.specs.examples.Profiles.{hub, s1, s2}
use Rattle.hub_reach.specs.Reach.{reach}
use Rattle.hub_tree.specs.Tree.{Archive, Replica}
use Rattle.hub_tree.specs.declared.contents.Contents.TheVariants as contents
use Rattle.hub_tree.specs.declared.contents.Mark.{Mark}
use Rattle.hub_tree.specs.declared.contents.Mark.TheVariants as mark
use Rattle.hub_job.specs.declared.log.Entry.{Entry}
use Rattle.hub_job.specs.declared.log.Logged.{Logged}
use Rattle.hub_serial.specs.Edits.{IsActor, MustKeepOrder, with_edit}
use Rattle.hub_serial.specs.Edits.Actor.{Job, Edit}
use Rattle.hub_serial.specs.RunRecord.{AreInOrder, IsSettledInOrder, RunRecord, StandsBefore, WereGiven, archives_after_end, turn_count}
use Rattle.hub_serial.specs.Started.{AreStarterEvents, GivesAsItStands, NoLongerRuns, OnlyRunningEnd, archives_after_events, starts_of}
use Rattle.hub_serial.specs.Starter.{all_wait}
use Rattle.hub_serial.specs.Starter.JobEvent.{Start, Turn, End}
use Rattle.hub_serial.specs.World.{RootPair, opening}
use Rattle.hub_serial.specs.examples.Clashes.{marks, there, twice}
use Rattle.hub_serial.specs.examples.Jobs.{two_starts_clash}
use Rattle.hub_serial.specs.examples.Starts.{P, a, looked_by, marked}

-- What these examples compute.
computed : ⊤
unfolding reach matches
computed = tt

-- The order of starts.
job_2_stands_before_job_0 : StandsBefore (2 ∷ 0 ∷ []) 2 0
job_2_stands_before_job_0 = (0, 1, omega arith, refl, refl)

not_the_other_way_round : ¬ (StandsBefore (1 ∷ 0 ∷ []) 0 1)
not_the_other_way_round (zero, b, l, e, f) = cc
not_the_other_way_round (suc zero, zero, l, e, f) = omega (arith, l)
not_the_other_way_round (suc zero, suc zero, l, e, f) = cc
not_the_other_way_round (suc zero, suc (suc b), l, e, f) = cc
not_the_other_way_round (suc (suc a), b, l, e, f) = cc

-- Two starts of one profile have looked, job 0 before job 1. So job 0 has to have started first.
abbrev first : Entry
first = (looked_by 0 Left mark.Absent).step

abbrev second : Entry
second = (looked_by 1 Left mark.Absent).step

out_of_order : ¬ (AreInOrder twice (1 ∷ 0 ∷ []) (first ∷ second ∷ []))
out_of_order ordered =
    not_the_other_way_round (ordered 0 1 first second (omega arith) refl refl (λ e. cc) two_starts_clash)

abbrev job_of : Option Entry → ℕ
job_of None = 0
job_of (Some e) = e.job

same_job : (d e : Entry) → Some d ≡ Some e → d.job ≡ e.job
same_job d e x = ap job_of x

in_order : AreInOrder twice (0 ∷ 1 ∷ []) (first ∷ second ∷ [])
in_order m zero e f l x y off clash = absurd (omega (arith, l))
in_order zero (suc zero) e f l x y off clash = (
  0,
  1,
  omega arith,
  ap (λ j. Some j) (same_job first e x),
  ap (λ j. Some j) (same_job second f y),
)
in_order (suc m) (suc zero) e f l x y off clash = absurd (omega (arith, l))
in_order m (suc (suc n)) e f l x y off clash = cc

abbrev no_entries : List Entry
no_entries = []

abbrev nobody : List Logged
nobody = []

abbrev no_marks : List (Path × Mark)
no_marks = []

abbrev without_marks : Archive
without_marks = from_sorted {R = path_cmp} no_marks

-- Job 0 has looked twice and is done; job 1 hasn't had a turn.
abbrev run_of_one : RunRecord
run_of_one = record {
  started = 0 ∷ [];
  given = λ j. without_marks;
  log = λ j. cond (j == 0) (looked_by 0 Left mark.Absent ∷ looked_by 0 Right mark.Absent ∷ []) nobody;
  done = λ j. j == 0;
  history = λ r. no_entries;
}

one_more_turn_for_the_end : map (turn_count run_of_one) (0 ∷ 1 ∷ []) ≡ 3 ∷ 0 ∷ []
one_more_turn_for_the_end = refl

abbrev archives : RootPair → Archive
archives k = marks

who_is_not_done_leaves_no_marks : archives_after_end twice run_of_one 1 archives ≡ archives
who_is_not_done_leaves_no_marks = refl

marks_come_at_the_end :
    archives_after_events twice run_of_one (Start 0 ∷ Turn 0 ∷ End 0 ∷ []) archives
    ≡ archives_after_end twice run_of_one 0 archives
marks_come_at_the_end = refl

no_job_starts_twice : (R : RunRecord) (replicas : Path → Replica) → R.started ≡ 0 ∷ 0 ∷ []
    → ¬ (IsSettledInOrder twice replicas R)
no_job_starts_twice R replicas e settled =
    omega (arith, settled.once 0 1 0 (ap (λ js. slice_get js 0) e) (ap (λ js. slice_get js 1) e))

-- Events of a starter.
its_starts : starts_of (Start 1 ∷ Turn 1 ∷ Start 0 ∷ End 1 ∷ []) ≡ 1 ∷ 0 ∷ []
its_starts = refl

a_running_job_ends : OnlyRunningEnd all_wait (Start 0 ∷ End 0 ∷ [])
a_running_job_ends = (refl, tt)

a_waiting_job_does_not : ¬ (OnlyRunningEnd all_wait (End 0 ∷ []))
a_waiting_job_does_not ends = cc

after_its_end_it_does_not_run : NoLongerRuns all_wait (Start 0 ∷ Turn 0 ∷ End 0 ∷ []) 0
after_its_end_it_does_not_run e = cc

before_its_end_it_runs : ¬ (NoLongerRuns all_wait (Start 0 ∷ Turn 0 ∷ []) 0)
before_its_end_it_runs over = over refl

no_mark : fin.get without_marks a ≡ None
no_mark = let h : T (is_sorted path_cmp no_marks) = tt in get-from_sorted path_cmp no_marks a h

its_mark : fin.get marks a ≡ Some mark.Directory
its_mark =
    let h : T (is_sorted path_cmp (marked mark.Directory)) = tt in
    get-from_sorted path_cmp (marked mark.Directory) a h

another_archive_than_stands_there : ¬ (GivesAsItStands twice run_of_one (Start 0 ∷ []) archives)
another_archive_than_stands_there gives =
    let h : None ≡ Some mark.Directory =
    sym no_mark ∙ (ap (λ A. fin.get A a) (gives.0 P refl) ∙ its_mark) in cc

the_archive_that_stands_there :
    GivesAsItStands twice run_of_one (Start 0 ∷ Turn 0 ∷ []) (λ k. without_marks)
the_archive_that_stands_there = (λ Q e. refl, tt)

-- It is due where the job reaches.
it_was_not_due : ¬ (WereGiven twice run_of_one (0 ∷ []) archives)
unfolding computed
it_was_not_due given =
    let h : None ≡ Some mark.Directory =
    sym no_mark ∙ (given.0 P refl a refl ∙ its_mark) in cc

this_one_was_due : WereGiven twice run_of_one (0 ∷ []) (λ k. without_marks)
this_one_was_due = (λ Q e q h. refl, tt)

no_job_is_left_running : (R : RunRecord) → ¬ (AreStarterEvents twice R archives (Start 0 ∷ []))
no_job_is_left_running R events = events.over 0 refl

-- Edits.
another_replica_stays : (with_edit hub a contents.Directory (opening (λ r. there) archives)).replica s2
    ≡ there
another_replica_stays = refl

it_depends_on_what_it_reaches : MustKeepOrder (Job P) (Edit hub a contents.Directory)
unfolding computed
it_depends_on_what_it_reaches = (refl, inl (a, refl))

not_on_another_root : ¬ (MustKeepOrder (Job P) (Edit s2 a contents.Directory))
not_on_another_root (h, depends) = cc

edits_of_one_path : MustKeepOrder (Edit hub a contents.Directory) (Edit hub a contents.Absent)
edits_of_one_path = (refl, refl)

edits_of_two_roots : ¬ (MustKeepOrder (Edit hub a contents.Directory) (Edit s1 a contents.Absent))
edits_of_two_roots (r, p) = let h : true ≡ false = ap (path_eq hub) r in cc

an_edit_is_of_a_path : IsActor (Edit hub a contents.Absent)
an_edit_is_of_a_path = omega arith

not_of_the_whole_replica : ¬ (IsActor (Edit hub [] contents.Absent))
not_of_the_whole_replica l = omega (arith, l)

-- Worked examples of what a job leaves.
use Rattle.std.specs.Prelude.{⊤, ◌≡◌, ◌==◌, ◌&&◌, ℕ, zero, suc, Bool, true, false, not, T, List, [], ◌∷◌, Some, None, find, fold, length, map, option_map, refl, slice_get, unwrap_or}
use Rattle.std.specs.FinMap.{get-from_sorted, entries-from_sorted, is_sorted, from_sorted}
use Rattle.std.specs.List.{list_any}
use Rattle.std.proofs.Common.{ap, cond, subst, sym, ◌∙◌}
use Rattle.std.proofs.lemmas.Bool.{false≢true}
use Rattle.std.proofs.lemmas.Option.{same_Some}
use Rattle.hub_path.specs.Path.{Name, Path, path_cmp, prefixes}
use Rattle.hub_path.specs.declared.side.Side.{Side}
use Rattle.hub_path.specs.declared.side.Side.TheVariants.{Left, Right}
use Rattle.hub_profile.specs.Parts.{at_side}
use Rattle.hub_glob.specs.Glob.{matches}
use Rattle.hub_profile.specs.examples.Profiles.{hub, s2}
use Rattle.hub_reach.specs.Reach.{reach}
use Rattle.hub_tree.specs.Tree.{Archive, Replica, contents_at, is_directory, mark_of, old_mark_at, with_mark}
use Rattle.hub_tree.specs.declared.contents.Mark.{Mark}
use Rattle.hub_tree.specs.declared.contents.Contents.TheVariants as contents
use Rattle.hub_tree.specs.declared.contents.Mark.TheVariants as mark
use Rattle.hub_reconcile.specs.Sight.{Sight, directory_or_absent, is_kept_parent, sight}
use Rattle.hub_reconcile.specs.View.{View, mark_eq}
use Rattle.hub_reconcile.specs.Items.{differs, fate, items, plan}
use Rattle.hub_reconcile.specs.Sync.{fate_over, giver, mark_under, next_archive, of_side, root_or_top, synced_contents, synced_mark, view_of}
use Rattle.hub_reconcile.specs.declared.item.Fate.TheVariants.{To}
use Rattle.hub_job.specs.declared.op.Next.TheVariants.{Stopped}
use Rattle.hub_job.specs.declared.log.Logged.{Logged}
use Rattle.hub_job.specs.Ends.{archive_after}
use Rattle.hub_job.specs.Job.{is_refused, next, view_in}
use Rattle.hub_job.specs.Machine.{answer, after}
use Rattle.hub_serial.specs.Serial.{AreSyncsInTurn, IsFresh, IsNotSerializable, IsSyncOf, IsWorkOf}
use Rattle.hub_serial.specs.World.{World, ending, next_for, opening}
use Rattle.hub_serial.specs.examples.Clashes.{looked, marks, there, twice}
use Rattle.hub_serial.specs.examples.Starts.{P, a, deleted, looked_by, marked, nothing, with_a}

-- What these examples compute.
computed : ⊤
unfolding answer after next sight items plan reach matches
computed = tt

abbrev empty : Replica
empty = from_sorted {R = path_cmp} nothing

-- A job has deleted a file at s1 that was deleted at the hub, and comes to its end.
abbrev before_its_end : World
before_its_end = record {
  replica = λ r. empty;
  archive = λ k. from_sorted {R = path_cmp} (marked (mark.File (1 ∷ [])));
  log = λ j. deleted;
  done = λ j. false;
  items = λ j. [];
}

its_item_went_to_s1 :
    (ending P 0 before_its_end).items 0 ≡ record { path = a; fate = To Right } ∷ []
unfolding computed
its_item_went_to_s1 =
    let h : T (is_sorted path_cmp (marked (mark.File (1 ∷ [])))) = tt in
    simp (get-from_sorted, entries-from_sorted)

another_job_has_none : (ending P 0 before_its_end).items 1 ≡ []
another_job_has_none = refl

it_alone_is_done : map (ending P 0 before_its_end).done (0 ∷ 1 ∷ []) ≡ true ∷ false ∷ []
it_alone_is_done = refl

then_it_does_nothing : next_for P 0 (ending P 0 before_its_end) ≡ Stopped
then_it_does_nothing = refl

another_archive_stays :
    (ending P 0 before_its_end).archive (hub, s2) ≡ before_its_end.archive (hub, s2)
another_archive_stays = refl

-- Before its first turn a job is fresh; after a Look it isn't.
fresh_at_first : IsFresh (opening (λ r. empty) (λ k. marks)) 0
fresh_at_first = record { log = refl; done = refl }

not_fresh_after_a_look : ¬ (IsFresh looked 0)
not_fresh_after_a_look fresh = let h = fresh.log in cc

-- a is to be deleted at s1: who leaves it there hasn't synchronized.
a_is_there : contents_at there a ≡ contents.Directory
a_is_there = let h : T (is_sorted path_cmp with_a) = tt in simp (get-from_sorted, entries-from_sorted)

it_is_to_go : synced_contents P empty there marks Right a ≡ contents.Absent
unfolding computed
it_is_to_go =
    let h : T (is_sorted path_cmp with_a) = tt in
    let g : T (is_sorted path_cmp nothing) = tt in
    let k : T (is_sorted path_cmp (marked mark.Directory)) = tt in
    simp (get-from_sorted, entries-from_sorted)

nothing_done_is_no_synchronization : ¬ (IsSyncOf P 0 looked looked)
nothing_done_is_no_synchronization sync =
    let h : contents.Directory ≡ contents.Absent =
    sym a_is_there ∙ (sync.contents Right a ∙ it_is_to_go) in cc

-- Two empty replicas and an archive without marks: after its two Looks, the end of a job leaves one
-- synchronization of them.
abbrev no_marks : List (Path × Mark)
no_marks = []

abbrev without_marks : Archive
without_marks = from_sorted {R = path_cmp} no_marks

abbrev looks : List Logged
looks = looked_by 0 Left mark.Absent ∷ looked_by 0 Right mark.Absent ∷ []

abbrev idle : World
idle = record {
  replica = λ r. empty;
  archive = λ k. without_marks;
  log = λ j. looks;
  done = λ j. false;
  items = λ j. [];
}

abbrev V : View
V = view_of P empty empty without_marks

alike_sides : (k : Side) → of_side empty empty k ≡ empty
alike_sides Left = refl
alike_sides Right = refl

either_side : (b : Bool) (k l : Side) (q : Path)
    → contents_at empty q ≡ cond b (contents_at (of_side empty empty l) q) (contents_at (of_side empty empty k) q)
either_side true k l q = ap (λ m. contents_at m q) (sym (alike_sides l))
either_side false k l q = ap (λ m. contents_at m q) (sym (alike_sides k))

absent_there : (n : Name) (p : Path) → contents_at empty (n ∷ p) ≡ contents.Absent
absent_there n p =
    let h : T (is_sorted path_cmp nothing) = tt in
    ap (λ o. unwrap_or o contents.Absent) (get-from_sorted path_cmp nothing (n ∷ p) h)

absent_then : (q : Path) → old_mark_at without_marks q ≡ mark.Absent
absent_then q =
    let h : T (is_sorted path_cmp no_marks) = tt in
    ap (λ o. unwrap_or o mark.Absent) (get-from_sorted path_cmp no_marks q h)

absent_if : (b : Bool) (m k : Mark) → m ≡ mark.Absent → k ≡ mark.Absent → cond b m k ≡ mark.Absent
absent_if true m k e f = e
absent_if false m k e f = f

none_both : (b : Bool) → (b && false) ≡ false
none_both true = refl
none_both false = refl

seen_absent : (b c : Bool) (s t u : Sight) → c ≡ false → s.mark ≡ mark.Absent → u.mark ≡ mark.Absent
    → (cond b s (cond c t u)).mark ≡ mark.Absent
seen_absent true c s t u e f g = f
seen_absent false true s t u e f g = absurd (false≢true (sym e))
seen_absent false false s t u e f g = g

it_sees_nothing : (r : Path) (n : Name) (p : Path) → (sight P r empty (n ∷ p)).mark ≡ mark.Absent
unfolding sight
it_sees_nothing r n p =
    seen_absent (reach P (n ∷ p)) _ _ _ _ (none_both (length (n ∷ p) == 0)) (ap mark_of (absent_there n p))
    (ap (λ c. directory_or_absent (is_kept_parent P (n ∷ p) && is_directory c)) (absent_there n p)
    ∙ ap directory_or_absent (none_both (is_kept_parent P (n ∷ p))))

absent_now : (k : Side) (q : Path) → V.mark k q ≡ mark.Absent
absent_now k [] = refl
absent_now k (n ∷ p) =
    absent_if (length (n ∷ p) == 0) mark.Absent
    (sight P (root_or_top (at_side P.roots k)) (of_side empty empty k) (n ∷ p)).mark refl
    (ap (λ m. (sight P (root_or_top (at_side P.roots k)) m (n ∷ p)).mark) (alike_sides k)
    ∙ it_sees_nothing (root_or_top (at_side P.roots k)) n p)

they_do_not_differ : (q : Path) → differs V q ≡ false
they_do_not_differ q =
    (λ i. reach P q && not (mark_eq (absent_now Left q i) (absent_now Right q i))) ∙ none_both (reach P q)

none_found : (f : Path → Bool) (ps : List Path) → ((q : Path) → f q ≡ false) → find f ps ≡ None
none_found f [] h = refl
none_found f (p ∷ ps) h = ap (λ b. cond b (Some p) (find f ps)) (h p) ∙ none_found f ps h

no_synced_mark : (q : Path) → synced_mark V q ≡ mark.Absent
no_synced_mark q =
    absent_if (reach P q) (mark_under V q (fate_over V q)) (V.old q)
    (ap (λ o. mark_under V q (option_map (fate V) o)) (none_found (differs V) (prefixes q) they_do_not_differ)
    ∙ absent_now Left q)
    (absent_then q)

nothing_was_seen : (view_in P without_marks looks).paths ≡ []
unfolding computed
nothing_was_seen =
    let h : T (is_sorted path_cmp no_marks) = tt in simp (get-from_sorted, entries-from_sorted)

the_archive_stays : archive_after P without_marks looks ≡ without_marks
unfolding next_archive
the_archive_stays =
    ap (λ ps. fold (λ A p. with_mark A p (synced_mark (view_in P without_marks looks) p)) without_marks ps)
    nothing_was_seen

no_items : items (view_in P without_marks looks) ≡ []
unfolding computed
no_items = let h : T (is_sorted path_cmp no_marks) = tt in simp (get-from_sorted, entries-from_sorted)

nor_of_the_replicas : items V ≡ []
unfolding computed
nor_of_the_replicas =
    let h : T (is_sorted path_cmp no_marks) = tt in
    let g : T (is_sorted path_cmp nothing) = tt in simp (get-from_sorted, entries-from_sorted)

its_end_synchronizes : IsSyncOf P 0 idle (ending P 0 idle)
its_end_synchronizes = record {
  contents = λ k q. either_side (reach P q) k (giver k (fate_over V q)) q;
  marks = λ q. ap (λ A. old_mark_at A q) the_archive_stays ∙ (absent_then q ∙ sym (no_synced_mark q));
  ok = refl;
  items = no_items ∙ sym nor_of_the_replicas;
  replicas = λ r h. refl;
  archives = λ k h.
      ap (λ b. cond b (archive_after P without_marks looks) without_marks) h;
}

it_synchronizes_in_turn : AreSyncsInTurn twice (0 ∷ []) idle (ending P 0 idle)
it_synchronizes_in_turn = (P, ending P 0 idle, refl, its_end_synchronizes, refl)

nothing_done_is_none : ¬ (AreSyncsInTurn twice (0 ∷ []) looked looked)
nothing_done_is_none (Q, between, is, sync, e) =
    nothing_done_is_no_synchronization
    (subst (λ v. IsSyncOf P 0 looked v) e (subst (λ R. IsSyncOf R 0 looked between) (sym (same_Some P Q is)) sync))

-- With a refusal no job has worked alone.
it_was_refused_nothing : (n : ℕ) (before after end : World)
    → list_any (λ e. is_refused e.step.answer) (after.log 0) ≡ true
    → ¬ (IsWorkOf twice 0 n before after end)
it_was_refused_nothing n before after end refused work =
    false≢true (sym (work.ok P refl) ∙ refused)

-- A job alone is serializable.
one_job : ¬ (IsNotSerializable twice (0 ∷ 0 ∷ []) (λ r. there) (λ k. marks))
one_job not = not (0 ∷ []) (λ j. 2) once refl
  where
    once : (m n j : ℕ) → slice_get (0 ∷ []) m ≡ Some j → slice_get (0 ∷ []) n ≡ Some j → m ≡ n
    once zero zero j e f = refl
    once zero (suc n) j e f = cc
    once (suc m) n j e f = cc

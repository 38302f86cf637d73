-- An outcome that histories settle is as promised.
use Rattle.std.proofs.Common.{◌≡◌, ◌≢◌, ◌≤◌, ◌<◌, ◌+◌, inl, inr, Bool, true, false, cond, ◌&&◌, ◌||◌, List, [], ◌∷◌, length, Option, Some, None, refl, ap, sym, ◌∙◌, subst, arith}
use Rattle.std.specs.Prelude.{◌==◌, ℕ, zero, suc, IsTrue, slice_get, find, unwrap_or, replicate}
use Rattle.std.specs.List.{list_any, list_all, range_with_len}
use Rattle.std.specs.FinMap as fin
use Rattle.std.proofs.lemmas.Bool.{false≢true, and_parts, and_from, or_cases, cases_eq}
use Rattle.std.proofs.lemmas.Option.{none-some, same_Some, slice_get_within}
use Rattle.hub_schedule.specs.laws.Unchanged.{TakesMarks, takes_is, foreign}
use Rattle.hub_reconcile.specs.laws.Views.{same_paths}
use Rattle.hub_path.specs.laws.General.{is_over-reflexive}
use Rattle.hub_path.specs.Path.{Name, Path, path_eq, path_cmp, parent, is_place, none_over}
use Rattle.hub_path.specs.declared.side.Side.{Side}
use Rattle.hub_path.specs.declared.side.Side.TheVariants.{Left, Right}
use Rattle.hub_profile.specs.Parts.{Parts, IsProfile, some_passes}
use Rattle.hub_reach.specs.Reach.{reach, has_root}
use Rattle.hub_reach.specs.Safe.{Rule, IsSafe, share_archive}
use Rattle.hub_tree.specs.Tree.{Replica, Archive, IsTree, contents_at, old_mark_at, is_absent, is_directory}
use Rattle.hub_tree.specs.declared.contents.Contents.TheVariants as contents
use Rattle.hub_reconcile.specs.Items.{items}
use Rattle.hub_reconcile.specs.Sync.{view_of, next_archive}
use Rattle.hub_reconcile.specs.laws.Archived.{archived}
use Rattle.hub_state.specs.State.{State, IsState, replica_at, archive_at, root_text}
use Rattle.hub_job.specs.declared.job_end.End.{End}
use Rattle.hub_job.specs.declared.job_end.End.TheVariants as end
use Rattle.hub_job.specs.declared.job_end.JobEnd.{JobEnd}
use Rattle.hub_job.specs.declared.outcome.Outcome.{Outcome}
use Rattle.hub_job.specs.declared.log.Entry.{Entry}
use Rattle.hub_job.specs.declared.log.Logged.{Logged}
use Rattle.hub_job.specs.declared.op.Next.TheVariants.{Finished}
use Rattle.hub_job.specs.Job.{next, is_refused, view_in}
use Rattle.hub_job.specs.Run.{root_at, world_for, IsSynced}
use Rattle.hub_job.specs.World.{Jobs, log_of, run, opening, alone}
use Rattle.hub_job.specs.History.{replay}
use Rattle.hub_schedule.specs.Settled.{AreProfiles}
use Rattle.hub_schedule.specs.Together.{left_at, LogsAreAlone, OwnPathsAreAlone, ElsewhereIsAsBefore}
use Rattle.hub_job.specs.Ends.{end_by, is_finished}
use Rattle.hub_job.specs.Outcome.{archive_of, jobs_of, replicas_of, takes_marks, mark_for, mark_by, IsEndOf}
use Rattle.hub_schedule.specs.Promise.{log_or_none, logs_in, HasReplicas, Settles, IsSynchronized}
use Rattle.hub_job.specs.laws.Untouched.{path-of_Some}
use Rattle.hub_job.specs.laws.Roots.{has_its_root}
use Rattle.hub_job.specs.laws.Roots.{two_roots, side_root, left_not_right}
use Rattle.hub_job.specs.laws.LoneJobs.{by_side}
use Rattle.hub_schedule.proofs.Finished.{alone_enough, finished_synced}
use Rattle.hub_schedule.specs.laws.Lists.{any-at, one_with}
use Rattle.hub_job.specs.laws.Finishing.{finished_by}

-- The least number that passes, if it is the only one, or if there is none.
found_passes : (t : ℕ → Bool) (xs : List ℕ) (i : ℕ) → find t xs ≡ Some i → t i ≡ true
found_passes t [] i e = cc
found_passes t (x ∷ xs) i e =
    elim (t x) as (λ b. t x ≡ b → cond b (Some x) (find t xs) ≡ Some i → t i ≡ true) [
      | true ↦ λ g h. ap t (sym (same_Some x i h)) ∙ g
      | false ↦ λ g h. found_passes t xs i h
    ] refl e

not_none : (t : ℕ → Bool) (j a n : ℕ) → a ≤ j → j < a + n → t j ≡ true → find t (range_with_len a n) ≡ None → ⊥
not_none t j a zero l h passes none = absurd (omega (arith, l, h))
not_none t j a (suc n) l h passes none =
    elim (t a) as (λ b. t a ≡ b → cond b (Some a) (find t (range_with_len (a + 1) n)) ≡ None → ⊥) [
      | true ↦ λ e g. none-some a (sym g)
      | false ↦ λ e g.
          let other : a ≢ j = λ same. false≢true (sym e ∙ (ap t same ∙ passes)) in
          not_none t j (a + 1) n (omega (arith, l, other)) (omega (arith, h)) passes g
    ] refl none

only_one : (t : ℕ → Bool) (j n : ℕ) (o : Option ℕ) → find t (range_with_len 0 n) ≡ o → j < n → t j ≡ true → ((i : ℕ) → t i ≡ true → i ≡ j) → o ≡ Some j
only_one t j n None e l h only = absurd (not_none t j 0 n (omega arith) (omega (arith, l)) h e)
only_one t j n (Some i) e l h only = ap (λ k. Some k) (only i (found_passes t (range_with_len 0 n) i e))

-- Ends.
stopped_or_finished : (x : End) → x ≡ end.Stopped → x ≡ end.Finished → ⊥
stopped_or_finished x e f = let both : end.Stopped ≡ end.Finished = sym e ∙ f in cc

pub end_next : (S : State) (P : Parts) (e : JobEnd) → IsEndOf S P e → e.end ≡ end.Finished → next P (archive_of S (Some P)) e.log ≡ Finished
end_next S P e is done =
    elim (is.how) [
      | inl stopped ↦ absurd (stopped_or_finished e.end stopped done)
      | inr how ↦ finished_by (next P (archive_of S (Some P)) e.log) (sym how ∙ done)
    ]

pub next_end : (S : State) (P : Parts) (e : JobEnd) → IsEndOf S P e → e.end ≢ end.Stopped → next P (archive_of S (Some P)) e.log ≡ Finished → e.end ≡ end.Finished
next_end S P e is going done =
    elim (is.how) [
      | inl stopped ↦ absurd (going stopped)
      | inr how ↦ how ∙ ap end_by done
    ]

-- The state's replicas are trees.
empty_at : (n : Name) (p : Path) → contents_at fin.empty (n ∷ p) ≡ contents.Absent
empty_at n p = ap (λ o. unwrap_or o contents.Absent) (fin.get-empty path_cmp (n ∷ p))

empty_parents : (p : Path) → is_absent (contents_at fin.empty p) ≡ false → is_directory (contents_at fin.empty (parent p)) ≡ true
empty_parents [] e = refl
empty_parents (n ∷ p) e = absurd (false≢true (sym e ∙ ap is_absent (empty_at n p)))

empty_tree : IsTree fin.empty
empty_tree = record {
  parents = empty_parents;
  present = λ p e. let n : None ≡ Some contents.Absent = sym (fin.get-empty path_cmp p) ∙ e in cc;
  no_top = fin.get-empty path_cmp [];
}

tree_or : (o : Option Replica) → ((m : Replica) → o ≡ Some m → IsTree m) → IsTree (unwrap_or o fin.empty)
tree_or None h = empty_tree
tree_or (Some m) h = h m refl

pub state_trees : (S : State) → IsState S → (r : Path) → IsTree (replicas_of S r)
state_trees S valid r = tree_or (replica_at S r) (λ m e. (valid.trees (root_text r) m e).0)

-- The archive of a pair.
or_alone : (b : Bool) → (b || false) ≡ true → b ≡ true
or_alone true e = refl
or_alone false e = e

roots_two : (t : Path → Bool) (a b r s : Path) → r ≢ s → (path_eq a r || (path_eq b r || false)) ≡ true → (path_eq a s || (path_eq b s || false)) ≡ true → t r ≡ true → t s ≡ true → (t a && (t b && true)) ≡ true
roots_two t a b r s off x y f g =
    elim (or_cases (path_eq a r) (path_eq b r || false) x) [
      | inl e ↦ elim (or_cases (path_eq a s) (path_eq b s || false) y) [
        | inl h ↦ absurd (off (sym (same_paths a r e) ∙ same_paths a s h))
        | inr h ↦ and_from (t a) (t b && true) (ap t (same_paths a r e) ∙ f) (and_from (t b) true (ap t (same_paths b s (or_alone (path_eq b s) h)) ∙ g) refl)
      ]
      | inr e ↦ elim (or_cases (path_eq a s) (path_eq b s || false) y) [
        | inl h ↦ and_from (t a) (t b && true) (ap t (same_paths a s h) ∙ g) (and_from (t b) true (ap t (same_paths b r (or_alone (path_eq b r) e)) ∙ f) refl)
        | inr h ↦ absurd (off (sym (same_paths b r (or_alone (path_eq b r) e)) ∙ same_paths b s (or_alone (path_eq b s) h)))
      ]
    ]

pair_shared : (P Q : Parts) (r s : Path) → IsProfile P → r ≢ s → has_root P r ≡ true → has_root P s ≡ true → has_root Q r ≡ true → has_root Q s ≡ true → share_archive P Q ≡ true
pair_shared P Q r s facts off a b c d =
    let two = two_roots P.roots facts.roots in
    ap (list_all (has_root Q)) two.are
    ∙ roots_two (has_root Q) two.first two.second r s off (ap (list_any (λ own. path_eq own r)) (sym two.are) ∙ a) (ap (list_any (λ own. path_eq own s)) (sym two.are) ∙ b) c d

takes_one : (Ps : List Parts) (Rs : List Rule) (o : Outcome) (r s p : Path) (i j : ℕ) → IsSafe Ps Rs → AreProfiles Ps → r ≢ s → TakesMarks Ps o r s p i → TakesMarks Ps o r s p j → i ≡ j
takes_one Ps Rs o r s p i j safe valid off a b =
    elim (cases_eq i j) [
      | inl e ↦ e
      | inr ne ↦ absurd (safe.no_clash i j a.profile b.profile a.is b.is ne
          (inr (pair_shared a.profile b.profile r s (valid i a.profile a.is) off a.first a.second b.first b.second, (p, p, is_over-reflexive p, a.reaches, b.reaches))))
    ]

takes_from : (Ps : List Parts) (o : Outcome) (r s p : Path) (j : ℕ) (P : Parts) (e : JobEnd) → slice_get Ps j ≡ Some P → slice_get o.jobs j ≡ Some e → e.end ≡ end.Finished
    → has_root P r ≡ true → has_root P s ≡ true → reach P p ≡ true → takes_marks o Ps r s p j ≡ true
takes_from Ps o r s p j P e is at done a b h =
    and_from (some_passes (λ e. is_finished e.end) (slice_get o.jobs j)) (some_passes (λ P. has_root P r && has_root P s && reach P p) (slice_get Ps j))
    (ap (some_passes (λ (e : JobEnd). is_finished e.end)) at ∙ ap is_finished done)
    (ap (some_passes (λ (P : Parts). has_root P r && has_root P s && reach P p)) is ∙ and_from (has_root P r && has_root P s) (reach P p) (and_from (has_root P r) (has_root P s) a b) h)

pub roots_apart : (P : Parts) → IsProfile P → root_at P Left ≢ root_at P Right
roots_apart P facts same = false≢true (sym (left_not_right P facts 0) ∙ path-of_Some (root_at P Left) (root_at P Right) (ap (λ r. Some r) same))

-- The roots of profiles are places.
one_of : (f : Path → Bool) (r : Path) (rs : List Path) → list_all f rs ≡ true → list_any (λ own. path_eq own r) rs ≡ true → f r ≡ true
one_of f r [] all h = absurd (false≢true h)
one_of f r (q ∷ rs) all h =
    let two = and_parts (f q) (list_all f rs) all in
    elim (or_cases (path_eq q r) (list_any (λ own. path_eq own r) rs) h) [
      | inl e ↦ ap f (sym (same_paths q r e)) ∙ two.0
      | inr k ↦ one_of f r rs two.1 k
    ]

pub root_place : (P : Parts) (r : Path) → IsProfile P → has_root P r ≡ true → is_place r ≡ true
root_place P r facts h =
    let two = and_parts (length P.roots == 2 && list_all is_place P.roots) (none_over P.roots) facts.roots in
    one_of is_place r P.roots (and_parts (length P.roots == 2) (list_all is_place P.roots) two.0).1 h

module _ (S : State) (Ps : List Parts) (histories : Path → List Entry) (o : Outcome) (settles : Settles S Ps histories o) where
  abbrev J : Jobs
  J = jobs_of S Ps

  abbrev before : Path → Replica
  before = replicas_of S

  -- Replicas.
  pub left_in : AreProfiles Ps → HasReplicas S Ps → (j : ℕ) (P : Parts) (r : Path) → slice_get Ps j ≡ Some P → IsTrue (has_root P r) → replicas_of o.state r ≡ left_at before histories r
  left_in facts there j P r is has =
      let m = there j P r is has in
      ap (λ x. unwrap_or x fin.empty)
      (settles.outcome.replicas r m.0 (root_place P r (facts j P is) has) m.1 ∙ ap (λ b. Some (cond b (replay (before r) (histories r)) m.0)) (any-at (λ P. has_root P r) Ps j P is has))

  pub own : AreProfiles Ps → HasReplicas S Ps → OwnPathsAreAlone J before (left_at before histories) (logs_in o) → OwnPathsAreAlone J before (replicas_of o.state) (logs_in o)
  own facts there alone = λ j P r q is has h. ap (λ m. contents_at m q) (left_in facts there j P r is has) ∙ alone j P r q is has h

  pub elsewhere : AreProfiles Ps → HasReplicas S Ps → ((j : ℕ) (P : Parts) (r : Path) → slice_get Ps j ≡ Some P → IsTrue (has_root P r) → ElsewhereIsAsBefore Ps r (before r) (left_at before histories r))
      → (r : Path) → IsTrue (is_place r) → ElsewhereIsAsBefore Ps r (before r) (replicas_of o.state r)
  elsewhere facts there stays r place = λ q never.
      elim (list_any (λ P. has_root P r) Ps) as (λ b. list_any (λ P. has_root P r) Ps ≡ b → contents_at (replicas_of o.state r) q ≡ contents_at (before r) q) [
        | true ↦ λ e. let w = one_with (λ P. has_root P r) Ps e in ap (λ m. contents_at m q) (left_in facts there w.0 w.1 r w.2 w.3) ∙ stays w.0 w.1 r w.2 w.3 q never
        | false ↦ λ e. ap (λ x. contents_at (unwrap_or x fin.empty) q) (foreign S Ps histories o settles r place e)
      ] refl

  -- Archives.
  mark_taken : (Rs : List Rule) → IsSafe Ps Rs → AreProfiles Ps → (j : ℕ) (P : Parts) (e : JobEnd) (r s p : Path) → slice_get Ps j ≡ Some P → slice_get o.jobs j ≡ Some e → e.end ≡ end.Finished
      → r ≢ s → has_root P r ≡ true → has_root P s ≡ true → reach P p ≡ true
      → old_mark_at (unwrap_or (archive_at o.state r s) fin.empty) p ≡ old_mark_at (next_archive (view_in P (archive_of S (Some P)) (logs_in o j)) (archive_of S (Some P))) p
  mark_taken Rs safe valid j P e r s p is at done off a b h =
      let taken = takes_from Ps o r s p j P e is at done a b h in
      let one = only_one (takes_marks o Ps r s p) j (length Ps) (find (takes_marks o Ps r s p) (range_with_len 0 (length Ps))) refl (slice_get_within Ps j P is) taken
      (λ i g. takes_one Ps Rs o r s p i j safe valid off (takes_is Ps o r s p i g) (takes_is Ps o r s p j taken)) in
      let old = old_mark_at (unwrap_or (archive_at S r s) fin.empty) p in
      settles.outcome.archives r s p (root_place P r (valid j P is) a) (root_place P s (valid j P is) b) off ∙ (ap (mark_by S Ps (logs_in o) p old) one ∙ ap (mark_for S (logs_in o) p old j) is)

  -- Jobs.
  module _ (facts : AreProfiles Ps) (trees : (r : Path) → IsTree (before r)) (alone_logs : LogsAreAlone J before (logs_in o)) (j : ℕ) (P : Parts) (e : JobEnd) (is : slice_get Ps j ≡ Some P) (at : slice_get o.jobs j ≡ Some e) where
    abbrev A : Replica
    A = before (root_at P Left)

    abbrev B : Replica
    B = before (root_at P Right)

    abbrev O : Archive
    O = archive_of S (Some P)

    archive_is : J.archive j ≡ O
    archive_is = ap (archive_of S) is

    log_is : logs_in o j ≡ e.log
    log_is = ap log_or_none at

    ends : IsEndOf S P e
    ends = settles.outcome.ends j e P at is

    -- The log is the one that the job gets alone.
    pub log_alone : e.log ≡ alone J before j (length e.log)
    log_alone = subst (λ l. l ≡ alone J before j (length l)) log_is (alone_logs j P is)

    done_alone : next P O e.log ≡ Finished → next P (J.archive j) (alone J before j (length e.log)) ≡ Finished
    done_alone done = ap (λ a. next P a (alone J before j (length e.log))) archive_is ∙ (ap (next P O) (sym log_alone) ∙ done)

    synced : next P O e.log ≡ Finished → IsSynced P A B O (world_for P j (run J (replicate (length e.log) j) (opening J before)))
    synced done =
        subst (λ a. IsSynced P A B a (world_for P j (run J (replicate (length e.log) j) (opening J before)))) archive_is
        (finished_synced J P before j (length e.log) is (facts j P is) (trees (root_at P Left)) (trees (root_at P Right)) (done_alone done))

    view_is : next P O e.log ≡ Finished → view_in P O e.log ≡ view_of P A B O
    view_is done = ap (view_in P O) log_alone ∙ (synced done).view

    roots_differ : root_at P Left ≢ root_at P Right
    roots_differ = roots_apart P (facts j P is)

    root_of : (k : Side) → has_root P (root_at P k) ≡ true
    root_of k = has_its_root P k (root_at P k) (side_root P (facts j P is) j k)

    pub synchronized : (Rs : List Rule) → IsSafe Ps Rs → OwnPathsAreAlone J before (replicas_of o.state) (logs_in o) → e.end ≡ end.Finished → IsSynchronized S P e o.state
    synchronized Rs safe own finished =
        let done = end_next S P e ends finished in
        record {
          ok = ap (list_any (λ (e : Logged). is_refused e.step.answer)) log_alone ∙ (synced done).ok;
          contents = λ k q h.
              own j P (root_at P k) q is (root_of k) h
              ∙ (ap (λ l. contents_at ((run J (replicate (length l) j) (opening J before)).replica (root_at P k)) q) log_is
              ∙ (by_side P j k (run J (replicate (length e.log) j) (opening J before)) q ∙ (synced done).contents k q));
          marks = λ q h.
              mark_taken Rs safe facts j P e (root_at P Left) (root_at P Right) q is at finished roots_differ (root_of Left) (root_of Right) h
              ∙ (ap (λ l. old_mark_at (next_archive (view_in P O l) O) q) log_is ∙ (ap (λ V. old_mark_at (next_archive V O) q) (view_is done) ∙ archived P A B O q));
          items = ends.items ∙ (ap (λ x. cond (is_finished x) (items (view_in P O e.log)) []) finished ∙ ap items (view_is done));
        }

    pub enough_finish : (n : ℕ) → e.end ≢ end.Stopped → next P O (alone J before j n) ≡ Finished → n ≤ length e.log → e.end ≡ end.Finished
    enough_finish n going done h =
        let there : next P (J.archive j) (alone J before j n) ≡ Finished = ap (λ a. next P a (alone J before j n)) archive_is ∙ done in
        let same : e.log ≡ alone J before j n = log_alone ∙ ap (λ w. log_of w j) (alone_enough J P before j n (length e.log) is there h) in
        next_end S P e ends going (ap (next P O) same ∙ done)

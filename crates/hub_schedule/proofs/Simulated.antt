-- The outcome of a schedule: it is settled, and its logs are those of the jobs alone.
use Rattle.std.proofs.Common.{◌≡◌, ◌≢◌, ◌≤◌, ◌+◌, inl, inr, Bool, true, false, cond, List, [], ◌∷◌, length, Option, Some, None, refl, ap, sym, ◌∙◌, subst, arith}
use Rattle.std.specs.Prelude.{◌==◌, ℕ, zero, suc, IsTrue, slice_get, slice_index_or, replicate}
use Rattle.std.proofs.lemmas.Bool.{cases_eq, ne_eqb}
use Rattle.std.proofs.lemmas.List.Sums.{length-filter}
use Rattle.std.proofs.lemmas.Option.{same_Some}
use Rattle.hub_path.specs.Path.{Path, is_place}
use Rattle.hub_path.specs.declared.side.Side.{Side}
use Rattle.hub_path.specs.declared.side.Side.TheVariants.{Left, Right}
use Rattle.hub_profile.specs.Parts.{Parts, IsProfile}
use Rattle.hub_reach.specs.Reach.{reach, has_root}
use Rattle.hub_tree.specs.Tree.{Replica, Archive, IsTree, contents_at, old_mark_at}
use Rattle.hub_reconcile.specs.Sync.{fate_over, mark_under, synced_contents, synced_mark}
use Rattle.hub_reconcile.specs.View.{View}
use Rattle.hub_state.specs.State.{State}
use Rattle.hub_job.specs.declared.job_end.End.TheVariants as end
use Rattle.hub_job.specs.declared.job_end.JobEnd.{JobEnd}
use Rattle.hub_job.specs.declared.outcome.Outcome.{Outcome}
use Rattle.hub_job.specs.declared.log.Logged.{Logged}
use Rattle.hub_job.specs.declared.op.Next.TheVariants.{Finished}
use Rattle.hub_job.specs.Job.{next}
use Rattle.hub_job.specs.Run.{Pair, root_at, world_for, on_side, IsSynced}
use Rattle.hub_job.specs.Same.{NoneClash, own_turns}
use Rattle.hub_job.specs.World.{World, Jobs, log_of, run, opening, alone, first_turns}
use Rattle.hub_job.specs.History.{replay}
use Rattle.hub_schedule.specs.Settled.{AreProfiles, IsSettled, IsSettledWorld}
use Rattle.hub_job.specs.Outcome.{archive_of, jobs_of, replicas_of, world_after, IsEndOf, IsOutcomeWith, IsOutcomeOf, KeepsTurns}
use Rattle.hub_schedule.specs.Promise.{log_or_none, logs_in, view_at, HasReplicas, IsSynchronized, NoneFinishedReaches, OldMarksStay, Settles, FinishedAreSynchronized}
use Rattle.hub_schedule.specs.Simulated.{turns_of, turns_enough, LogsAreOfTurns, EnoughTurnsEnd, TurnsSuffice, IsLoneSynchronization}
use Rattle.hub_job.specs.laws.Roots.{has_its_root}
use Rattle.hub_job.specs.laws.Roots.{side_root}
use Rattle.hub_job.specs.laws.LoneJobs.{alone_synchronizes, by_side}
use Rattle.hub_schedule.proofs.Finished.{alone_enough}
use Rattle.hub_schedule.specs.laws.Unchanged.{marks_stay}
use Rattle.hub_schedule.proofs.Promised.{end_next, left_in, next_end, root_place, roots_apart}
use Rattle.hub_schedule.proofs.Settling.{empty_log}
use Rattle.hub_schedule.proofs.Turns.{keeps, fewer, count_alone, count_first, all_turns, weight}

no_log_there : (logs : List (List Logged)) (jobs : List JobEnd) (j : ℕ) → length logs ≡ length jobs → slice_get jobs j ≡ None → slice_index_or logs j [] ≡ []
no_log_there [] [] j e none = refl
no_log_there [] (x ∷ jobs) j e none = absurd (omega (arith, e))
no_log_there (l ∷ logs) [] j e none = absurd (omega (arith, e))
no_log_there (l ∷ logs) (x ∷ jobs) zero e none = cc
no_log_there (l ∷ logs) (x ∷ jobs) (suc j) e none = no_log_there logs jobs j (omega (arith, e)) none

module _ (S : State) (Ps : List Parts) (turns : List ℕ) (o : Outcome) (is : IsOutcomeOf S Ps turns o) (settled : IsSettledWorld (jobs_of S Ps) (replicas_of S) (world_after S Ps turns)) where
  abbrev J : Jobs
  J = jobs_of S Ps

  abbrev w : World
  w = world_after S Ps turns

  log_by : (j : ℕ) (x : Option JobEnd) → slice_get o.jobs j ≡ x → log_of w j ≡ log_or_none x
  log_by j None at = no_log_there w.logs o.jobs j (settled.count ∙ sym is.all) at
  log_by j (Some e) at = sym (is.logs j e at)

  logs_are : log_of w ≡ logs_in o
  logs_are = λ i j. log_by j (slice_get o.jobs j) refl i

  replicas_are : w.replica ≡ (λ r. replay (replicas_of S r) (w.history r))
  replicas_are = λ i r. settled.replayed r i

  pub outcome_settles : Settles S Ps w.history o
  outcome_settles = record {
    settled = subst (IsSettled J (replicas_of S) w.history) logs_are settled.fits;
    outcome = subst (λ logs. IsOutcomeWith S Ps logs (λ r. replay (replicas_of S r) (w.history r)) o) logs_are (subst (λ (m : Path → Replica). IsOutcomeWith S Ps (log_of w) m o) replicas_are is);
  }

-- The turns that a job had.
abbrev pub LogsAlone : Type 0
LogsAlone = (J : Jobs) (P : Parts) (j : ℕ) (js : List ℕ) (replicas : Path → Replica) → NoneClash J.profiles → slice_get J.profiles j ≡ Some P
    → log_of (run J js (opening J replicas)) j ≡ alone J replicas j (length (own_turns j js))

pub logs_of_turns : LogsAlone → (S : State) (Ps : List Parts) (limit : ℕ → ℕ) (schedule : List ℕ) (o : Outcome) → NoneClash Ps → IsOutcomeOf S Ps (first_turns limit schedule) o → KeepsTurns limit schedule o
    → LogsAreOfTurns S Ps schedule o
logs_of_turns law S Ps limit schedule o apart is keep = λ j P e at ended.
    let turns = first_turns limit schedule in
    let count = length-filter (λ (i : ℕ). i == j) turns in
    let all = length-filter (λ (i : ℕ). i == j) schedule in (
      length (own_turns j turns),
      subst (λ n. n ≤ turns_of j schedule) (sym count) (fewer j schedule limit),
      is.logs j e ended ∙ law (jobs_of S Ps) P j turns (replicas_of S) apart at,
      λ going. ap length (keeps j schedule limit (keep j e ended going)) ∙ all,
    )

pub enough_end : (S : State) (Ps : List Parts) (schedule : List ℕ) (o : Outcome) (log : ℕ → List Logged) (replica : Path → Replica) → IsOutcomeWith S Ps log replica o → LogsAreOfTurns S Ps schedule o → EnoughTurnsEnd S Ps schedule o
enough_end S Ps schedule o log replica is logs = λ j n P e at ended going done h.
    let J = jobs_of S Ps in
    let w = logs j P e at ended in
    let archive : J.archive j ≡ archive_of S (Some P) = ap (archive_of S) at in
    let there : next P (J.archive j) (alone J (replicas_of S) j n) ≡ Finished = ap (λ a. next P a (alone J (replicas_of S) j n)) archive ∙ done in
    let more : n ≤ w.0 = subst (λ m. n ≤ m) (sym (w.3 going)) h in
    let same : e.log ≡ alone J (replicas_of S) j n = w.2 ∙ ap (λ v. log_of v j) (alone_enough J P (replicas_of S) j n w.0 at there more) in
    next_end S P e (is.ends j e P ended at) going (ap (next P (archive_of S (Some P))) same ∙ done)

pub turns_suffice : (S : State) (Ps : List Parts) → AreProfiles Ps → ((r : Path) → IsTree (replicas_of S r)) → TurnsSuffice S Ps
turns_suffice S Ps valid trees = λ j n P at h.
    let J = jobs_of S Ps in
    let archive : J.archive j ≡ archive_of S (Some P) = ap (archive_of S) at in
    ap (λ a. next P a (alone J (replicas_of S) j n)) (sym archive)
    ∙ (alone_synchronizes P (valid j P at) j J at n (replicas_of S) (trees (root_at P Left)) (trees (root_at P Right)) h).finished

-- A job that ran alone.
lone_contents : (P : Parts) (A B : Replica) (O Q : Archive) → O ≡ Q → (w : Pair) → IsSynced P A B O w → (k : Side) (q : Path) → contents_at (on_side w k) q ≡ synced_contents P A B Q k q
lone_contents P A B O Q e w s k q = subst (λ a. contents_at (on_side w k) q ≡ synced_contents P A B a k q) e (s.contents k q)

-- A job that has no turn is finished only if it reaches nothing.
no_weight : (w c x : ℕ) → x ≡ w + c → w ≡ 0 → c ≡ 0 → x ≡ 0
no_weight w c x e f g = omega (arith, e, f, g)

no_turns : (i j n : ℕ) → i ≢ j → turns_of i (replicate n j) ≡ 0
no_turns i j zero off = refl
no_turns i j (suc n) off =
    no_weight (weight (j == i)) (turns_of i (replicate n j)) (turns_of i (replicate (suc n) j)) (count_first i j (replicate n j)) (ap weight (ne_eqb j i (λ e. off (sym e)))) (no_turns i j n off)

at_start : (J : Jobs) (replicas : Path → Replica) (i : ℕ) → alone J replicas i 0 ≡ []
unfolding run
at_start J replicas i = empty_log J.profiles i

no_more : (m n : ℕ) → m ≤ n → n ≡ 0 → m ≡ 0
no_more m n h e = omega (arith, h, e)

abbrev pub NothingLaw : Type 0
NothingLaw = (P : Parts) (O : Archive) (q : Path) → IsProfile P → next P O [] ≡ Finished → reach P q ≡ false

module _ (law : NothingLaw) (S : State) (Ps : List Parts) (valid : AreProfiles Ps) (o : Outcome) (j n : ℕ) (P : Parts) (e : JobEnd) (at : slice_get Ps j ≡ Some P)
    (ends : (i : ℕ) (f : JobEnd) (Q : Parts) → slice_get o.jobs i ≡ Some f → slice_get Ps i ≡ Some Q → IsEndOf S Q f) (logs : LogsAreOfTurns S Ps (replicate n j) o) where
  other_idle : (i : ℕ) (Q : Parts) (f : JobEnd) (q : Path) → i ≢ j → slice_get Ps i ≡ Some Q → slice_get o.jobs i ≡ Some f → f.end ≡ end.Finished → reach Q q ≡ false
  other_idle i Q f q off its ended done =
      let w = logs i Q f its ended in
      let none : w.0 ≡ 0 = no_more w.0 (turns_of i (replicate n j)) w.1 (no_turns i j n off) in
      let start : f.log ≡ [] = w.2 ∙ (ap (alone (jobs_of S Ps) (replicas_of S) i) none ∙ at_start (jobs_of S Ps) (replicas_of S) i) in
      law Q (archive_of S (Some Q)) q (valid i Q its) (ap (next Q (archive_of S (Some Q))) (sym start) ∙ end_next S Q f (ends i f Q ended its) done)

  none_reaches : (r s q : Path) → reach P q ≡ false → NoneFinishedReaches Ps o r s q
  none_reaches r s q never = λ i Q f its ended done a b.
      elim (cases_eq i j) [
        | inl same ↦ ap (λ R. reach R q) (same_Some Q P (sym its ∙ (ap (slice_get Ps) same ∙ at))) ∙ never
        | inr off ↦ other_idle i Q f q off its ended done
      ]

  abbrev V : View
  V = view_at S P

  lone_mark : IsSynchronized S P e o.state → OldMarksStay S Ps o → (q : Path) (b : Bool) → reach P q ≡ b → old_mark_at (archive_of o.state (Some P)) q ≡ synced_mark V q
  lone_mark synced stay q true h = synced.marks q h
  lone_mark synced stay q false h =
      let facts = valid j P at in
      let has : (k : Side) → IsTrue (has_root P (root_at P k)) = λ k. has_its_root P k (root_at P k) (side_root P facts j k) in
      let place : (k : Side) → IsTrue (is_place (root_at P k)) = λ k. root_place P (root_at P k) facts (has k) in
      stay (root_at P Left) (root_at P Right) q (place Left) (place Right) (roots_apart P facts) (none_reaches (root_at P Left) (root_at P Right) q h)
      ∙ sym (ap (λ b. cond b (mark_under V q (fate_over V q)) (old_mark_at (archive_of S (Some P)) q)) h)

pub lone_synchronizes : NothingLaw → (S : State) (Ps : List Parts) (limit : ℕ → ℕ) (o : Outcome) (j n : ℕ) (P : Parts) (e : JobEnd) → AreProfiles Ps → ((r : Path) → IsTree (replicas_of S r)) → HasReplicas S Ps
    → ((r : Path) → (world_after S Ps (first_turns limit (replicate n j))).replica r ≡ replay (replicas_of S r) ((world_after S Ps (first_turns limit (replicate n j))).history r))
    → Settles S Ps (world_after S Ps (first_turns limit (replicate n j))).history o → FinishedAreSynchronized S Ps o → LogsAreOfTurns S Ps (replicate n j) o → EnoughTurnsEnd S Ps (replicate n j) o → KeepsTurns limit (replicate n j) o
    → slice_get Ps j ≡ Some P → slice_get o.jobs j ≡ Some e → e.end ≢ end.Stopped → turns_enough S P ≤ n → IsLoneSynchronization S P e o.state
lone_synchronizes law S Ps limit o j n P e valid trees there replayed settles finished logs enough keep at ended going h =
    let J = jobs_of S Ps in
    let R = replicas_of S in
    let turns : first_turns limit (replicate n j) ≡ replicate n j = all_turns j n limit (subst (λ m. m ≤ limit j) (count_alone j n) (keep j e ended going)) in
    let done : e.end ≡ end.Finished = enough j n P e at ended going (turns_suffice S Ps valid trees j n P at h) (subst (λ m. n ≤ m) (sym (count_alone j n)) (omega arith)) in
    let archive : J.archive j ≡ archive_of S (Some P) = ap (archive_of S) at in
    let synced = alone_synchronizes P (valid j P at) j J at n R (trees (root_at P Left)) (trees (root_at P Right)) h in
    let v = run J (replicate n j) (opening J R) in
    let root : (k : Side) → IsTrue (has_root P (root_at P k)) = λ k. has_its_root P k (root_at P k) (side_root P (valid j P at) j k) in
    record {
      finished = done;
      synchronized = finished j P e at ended done;
      contents = λ k q.
          ap (λ m. contents_at m q) (left_in S Ps (world_after S Ps (first_turns limit (replicate n j))).history o settles valid there j P (root_at P k) at (root k) ∙ sym (replayed (root_at P k)))
          ∙ (ap (λ js. contents_at ((run J js (opening J R)).replica (root_at P k)) q) turns
          ∙ (by_side P j k v q ∙ lone_contents P (R (root_at P Left)) (R (root_at P Right)) (J.archive j) (archive_of S (Some P)) archive (world_for P j v) synced k q));
      marks = λ q.
          lone_mark law S Ps valid o j n P e at settles.outcome.ends logs (finished j P e at ended done)
          (marks_stay S Ps (world_after S Ps (first_turns limit (replicate n j))).history o settles) q (reach P q) refl;
    }

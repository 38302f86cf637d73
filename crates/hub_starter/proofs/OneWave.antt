-- What a wave leaves is what its jobs leave one after another.
use Rattle.std.proofs.Common.{◌≡◌, ◌≢◌, ◌⊎◌, inl, inr, Bool, true, false, cond, ◌&&◌, ◌+◌, List, [], ◌∷◌, ◌++◌, length, Option, Some, None, refl, ap, sym, ◌∙◌, subst, arith}
use Rattle.std.specs.Prelude.{◌==◌, ◌<◌, ℕ, filter, find, nat_lt, slice_get, unwrap_or}
use Rattle.std.specs.List.{list_any, range_with_len}
use Rattle.std.specs.FinMap as fin
use Rattle.std.specs.Ordering.{is_lt}
use Rattle.std.proofs.lemmas.Bool.{false≢true, and_parts, and_from, false_from_ne_true}
use Rattle.std.proofs.lemmas.Bool.Decides.{nat_tests}
use Rattle.hub_text.specs.laws.List.{has-item}
use Rattle.hub_path.specs.Path.{Path, is_place, path_cmp}
use Rattle.hub_profile.specs.Parts.{Parts, some_passes}
use Rattle.hub_reach.specs.Reach.{has_root, reach}
use Rattle.hub_reach.specs.laws.General.{passing}
use Rattle.hub_tree.specs.Tree.{Archive, IsArchive, Replica, old_mark_at}
use Rattle.hub_tree.specs.laws.Contented.{same_archive}
use Rattle.hub_tree.specs.laws.MarkMaps.{IsArchive-empty}
use Rattle.hub_reconcile.specs.Items.{items}
use Rattle.hub_reconcile.specs.declared.item.Item.{Item}
use Rattle.hub_state.specs.State.{IsState, State, archive_at, pair_of as texts_of, replica_at}
use Rattle.hub_job.specs.declared.job_end.End.TheVariants as end
use Rattle.hub_job.specs.declared.job_end.JobEnd.{JobEnd}
use Rattle.hub_job.specs.declared.log.Entry.{Entry}
use Rattle.hub_job.specs.declared.outcome.Outcome.{Outcome}
use Rattle.hub_job.specs.declared.op.Next.TheVariants.{Finished}
use Rattle.hub_job.specs.Ends.{archive_after, end_by, is_finished}
use Rattle.hub_job.specs.History.{IsLegal, entries_at, entries_of, replay}
use Rattle.hub_job.specs.Job.{next, view_in}
use Rattle.hub_job.specs.Outcome.{archive_of, mark_by, mark_for, replicas_of, takes_marks}
use Rattle.hub_job.specs.laws.Finishing.{finished_by}
use Rattle.hub_schedule.specs.Promise.{HasReplicas, Settles, log_or_none, logs_in}
use Rattle.hub_schedule.specs.laws.Lists.{any-at, one_with}
use Rattle.hub_schedule.specs.laws.Unchanged.{finished_of}
use Rattle.hub_runner.specs.Part.{without_turns}
use Rattle.hub_serial.specs.Clash.{AreProfiles, JobsClash}
use Rattle.hub_serial.specs.RunRecord.{IsAsRecorded, IsSettledInOrder, RunRecord, StandsBefore, WereGiven, archives_after_ends, serial_world, turn_count, with_marks_by, with_marks_of}
use Rattle.hub_serial.specs.Schedule.{AreEquivalent, serial_turns}
use Rattle.hub_serial.specs.World.{RootPair, World, opening, pair_eq, pair_of, run}
use Rattle.hub_starter.specs.Opened.{archive_in, is_root_pair, items_of_end, opening_of, replica_in, turns_in, world_of}
use Rattle.hub_starter.proofs.Numbers.{Distinct, distinct_filtered, filtered_has, found_passes, has, has_append, has_cut, has_either, has_filtered, has_serial_turns, itself, none_found, placed_once, range_has}
use Rattle.hub_starter.proofs.Histories.{kept_one, legal_at}
use Rattle.hub_starter.proofs.Given.{NoneShares, shared_gap, were_given}
use Rattle.hub_starter.proofs.Frames.{IsLeftAlone, left_by_turns, no_items_turns}
use Rattle.hub_starter.proofs.Pairs.{different, given_archive, has_its_pair, is_pair_of_roots, its_pair, pair_itself, root_is_place, same_pair}
use Rattle.hub_starter.proofs.Marks.{both_take, cut_at, ends_are_archives, kept_marks, may_be_first, of_its_pair, of_pair, other_archives, taken_of_pair, takes}
use Rattle.hub_starter.proofs.Orders.{filter_swap, turned_clash}

-- What hub_serial says of histories in order, and of ends.
abbrev pub HistoriesAreSerial : Type 0
HistoriesAreSerial = (Ps : List Parts) (replicas : Path → Replica) (archives : RootPair → Archive)
    (R : RunRecord) → AreProfiles Ps → IsSettledInOrder Ps replicas R
    → WereGiven Ps R R.started archives
    → IsAsRecorded Ps replicas archives R (serial_world Ps replicas archives R)

abbrev pub EndsInAnyOrder : Type 0
EndsInAnyOrder = (Ps : List Parts) (R : RunRecord) (ends : List ℕ) (archives : RootPair → Archive)
    → AreProfiles Ps → AreEquivalent (JobsClash Ps) ends (filter R.done R.started)
    → archives_after_ends Ps R ends archives
    ≡ archives_after_ends Ps R (filter R.done R.started) archives

-- In the histories those that clash stand in order.
abbrev pub ClashesStandInOrder : List Parts → (Path → List Entry) → Type 0
ClashesStandInOrder Ps h = (r : Path) (i k : ℕ) → i < k → JobsClash Ps i k → (a b : ℕ)
    (e f : Entry) → slice_get (h r) a ≡ Some e → slice_get (h r) b ≡ Some f → e.job ≡ i
    → f.job ≡ k → a < b

module _ (serial : HistoriesAreSerial) (any_order : EndsInAnyOrder) (S : State) (Ps : List Parts)
    (o : Outcome) (W : List ℕ) (facts : AreProfiles Ps) (valid : IsState S)
    (valid_left : IsState o.state) (there : HasReplicas S Ps) (h : Path → List Entry)
    (settles : Settles S Ps h o) (distinct : Distinct W)
    (within : (l : ℕ) → has l W ≡ true → l < length Ps)
    (ascends : (i k : ℕ) → i < k → has i W ≡ true → has k W ≡ true → StandsBefore W i k)
    (lone : NoneShares Ps W) (stand : ClashesStandInOrder Ps h)
    (rest : (j : ℕ) (e : JobEnd) → has j W ≡ false → slice_get o.jobs j ≡ Some e
    → e ≡ without_turns) where
  abbrev known_root : Path → Bool
  known_root r = list_any (λ P. has_root P r) Ps

  abbrev finishes : ℕ → Bool
  finishes j = some_passes (λ e. is_finished e.end) (slice_get o.jobs j)

  abbrev no_entries : List Entry
  no_entries = []

  abbrev seen_at : Path → Bool → List Entry
  seen_at r b = cond b (h r) no_entries

  abbrev R : RunRecord
  R = record {
    started = W;
    given = λ j. archive_of S (slice_get Ps j);
    log = λ j. log_or_none (slice_get o.jobs j);
    done = finishes;
    history = λ r. seen_at r (known_root r);
  }

  abbrev archives : RootPair → Archive
  archives = archive_in S

  abbrev replicas : Path → Replica
  replicas = replica_in S

  -- Jobs that aren't in the wave.
  log_by : (j : ℕ) (x : Option JobEnd) → slice_get o.jobs j ≡ x → has j W ≡ false
      → log_or_none x ≡ []
  log_by j None at off = refl
  log_by j (Some e) at off = ap (λ (d : JobEnd). d.log) (rest j e off at)

  no_log : (j : ℕ) → has j W ≡ false → R.log j ≡ []
  no_log j off = log_by j (slice_get o.jobs j) refl off

  done_by : (j : ℕ) (x : Option JobEnd) → slice_get o.jobs j ≡ x → has j W ≡ false
      → some_passes (λ (e : JobEnd). is_finished e.end) x ≡ false
  done_by j None at off = refl
  done_by j (Some e) at off = ap (λ (d : JobEnd). is_finished d.end) (rest j e off at)

  not_done : (j : ℕ) → has j W ≡ false → finishes j ≡ false
  not_done j off = done_by j (slice_get o.jobs j) refl off

  items_by : (j : ℕ) (x : Option JobEnd) → slice_get o.jobs j ≡ x → has j W ≡ false
      → items_of_end x ≡ []
  items_by j None at off = refl
  items_by j (Some e) at off = ap (λ (d : JobEnd). d.items) (rest j e off at)

  -- Roots of profiles.
  known_place : (r : Path) → known_root r ≡ true → is_place r ≡ true
  known_place r k =
      let w = one_with (λ P. has_root P r) Ps k in
      root_is_place w.1 (facts w.0 w.1 w.2) r w.3

  at_place : (r : Path) → is_place r ≡ true → replicas r ≡ replicas_of S r
  at_place r p = ap (λ b. cond b (replicas_of S r) fin.empty) p

  is_known : (j : ℕ) (P : Parts) (r : Path) → slice_get Ps j ≡ Some P → has_root P r ≡ true
      → known_root r ≡ true
  is_known j P r is has_it = any-at (λ P. has_root P r) Ps j P is has_it

  -- The histories are settled.
  legal_by : (r : Path) (b : Bool) → known_root r ≡ b → IsLegal Ps r (replicas r) (seen_at r b)
  legal_by r true k =
      let w = one_with (λ P. has_root P r) Ps k in
      subst (λ m. IsLegal Ps r m (h r)) (sym (at_place r (known_place r k)))
      (settles.settled.legal w.0 w.1 r w.2 w.3)
  legal_by r false k = tt

  in_wave_by : (r : Path) (e : Entry) (a : ℕ) → known_root r ≡ true → slice_get (h r) a ≡ Some e
      → has e.job W ≡ true
  in_wave_by r e a k at =
      let job = legal_at Ps r (replicas r) (h r) a e (legal_by r true k) at in
      elim (has e.job W) as (λ b. has e.job W ≡ b → b ≡ true) [
        | true ↦ λ g. refl
        | false ↦ λ g. absurd (kept_one (λ d. d.job == e.job) (h r) a e at
            (itself e.job)
            (settles.settled.agree e.job job.0 r job.1 job.2
            ∙ ap (entries_at job.0 r) (no_log e.job g)))
      ] refl

  in_wave : (r : Path) (e : Entry) (a : ℕ) (b : Bool) → known_root r ≡ b
      → slice_get (seen_at r b) a ≡ Some e → has e.job W ≡ true
  in_wave r e a true k at = in_wave_by r e a k at
  in_wave r e a false k at = cc

  finished_one : (j : ℕ) (P : Parts) (x : Option JobEnd) → slice_get Ps j ≡ Some P
      → slice_get o.jobs j ≡ x → some_passes (λ (e : JobEnd). is_finished e.end) x ≡ true
      → next P (archive_of S (Some P)) (log_or_none x) ≡ Finished
  finished_one j P None is at done = absurd (false≢true done)
  finished_one j P (Some e) is at done =
      by_end (settles.outcome.ends j e P at is).how
    where
      by_end : (e.end ≡ end.Stopped) ⊎ (e.end ≡ end_by (next P (archive_of S (Some P)) e.log))
          → next P (archive_of S (Some P)) e.log ≡ Finished
      by_end (inl stopped) =
          absurd (false≢true (sym (ap is_finished stopped) ∙ done))
      by_end (inr so) =
          finished_by (next P (archive_of S (Some P)) e.log) (sym so ∙ finished_of e.end done)

  stand_by : (r : Path) (c : Bool) (a b : ℕ) (e f : Entry) → known_root r ≡ c → a < b
      → slice_get (seen_at r c) a ≡ Some e → slice_get (seen_at r c) b ≡ Some f → e.job ≢ f.job
      → JobsClash Ps e.job f.job → StandsBefore W e.job f.job
  stand_by r false a b e f k l x y off clash = cc
  stand_by r true a b e f k l x y off clash =
      elim (nat_lt e.job f.job) as (λ c. nat_lt e.job f.job ≡ c → StandsBefore W e.job f.job) [
        | true ↦ λ g.
            let less : e.job < f.job = grind (arith, nat_tests, g) in
            ascends e.job f.job less (in_wave_by r e a k x) (in_wave_by r f b k y)
        | false ↦ λ g.
            let less : f.job < e.job = grind (arith, nat_tests, g, off) in
            let turned = stand r f.job e.job less (turned_clash Ps e.job f.job clash) b a f e y x refl refl in
            absurd (omega (arith, l, turned))
      ] refl

  settled : IsSettledInOrder Ps replicas R
  settled = record {
    jobs = λ j g. has-item Ps j (within j g);
    once = λ a b j e f. placed_once W distinct a b j e f;
    runs = λ j P is. settles.settled.runs j P is;
    finished = λ j P is done.
        ap (λ x. next P (archive_of S x) (R.log j)) is
        ∙ finished_one j P (slice_get o.jobs j) is refl done;
    legal = λ r. legal_by r (known_root r) refl;
    known = λ r a e at. in_wave r e a (known_root r) refl at;
    agree = λ j P r is has_it.
        ap (λ b. entries_of j (seen_at r b)) (is_known j P r is has_it)
        ∙ settles.settled.agree j P r is has_it;
    ordered = λ r a b e f l x y off clash.
        stand_by r (known_root r) a b e f refl l x y off clash;
  }

  given : (j : ℕ) (P : Parts) → slice_get Ps j ≡ Some P → R.given j ≡ archives (pair_of P)
  given j P is = ap (archive_of S) is ∙ sym (given_archive S P (facts j P is))

  abbrev last : World
  last = serial_world Ps replicas archives R

  is_last : IsAsRecorded Ps replicas archives R last
  is_last = serial Ps replicas archives R facts settled
      (were_given Ps facts W lone R archives given distinct)

  -- Replicas.
  replay_by : (r : Path) (b : Bool) → known_root r ≡ b
      → replica_in o.state r ≡ replay (replicas r) (seen_at r b)
  replay_by r true k =
      let p = known_place r k in
      let w = one_with (λ P. has_root P r) Ps k in
      let m = there w.0 w.1 r w.2 w.3 in
      let left = settles.outcome.replicas r m.0 p m.1 in
      ap (λ b. cond b (replicas_of o.state r) fin.empty) p
      ∙ (ap (λ x. unwrap_or x fin.empty) left
      ∙ (ap (λ b. cond b (replay (replicas_of S r) (h r)) m.0) k
      ∙ ap (λ x. replay x (h r)) (sym (at_place r p))))
  replay_by r false k =
      other (is_place r) refl (replica_at S r) refl
    where
      other : (b : Bool) → is_place r ≡ b → (x : Option Replica) → replica_at S r ≡ x
          → replica_in o.state r ≡ replicas r
      other false p x e =
          ap (λ b. cond b (replicas_of o.state r) fin.empty) p
          ∙ sym (ap (λ b. cond b (replicas_of S r) fin.empty) p)
      other true p None e =
          (λ i. cond (is_place r) (unwrap_or ((settles.outcome.others r p e ∙ sym e) i) fin.empty)
          fin.empty)
      other true p (Some m) e =
          (λ i. cond (is_place r)
          (unwrap_or ((settles.outcome.replicas r m p e
          ∙ (ap (λ b. Some (cond b (replay (replicas_of S r) (h r)) m)) k ∙ sym e)) i) fin.empty)
          fin.empty)

  same_replica : (r : Path) → replica_in o.state r ≡ last.replica r
  same_replica r = replay_by r (known_root r) refl ∙ sym (is_last.replica r)

  -- Logs, ends and items.
  left : (j : ℕ) → has j W ≡ false → IsLeftAlone j (opening replicas archives) last
  left j off = left_by_turns Ps j (serial_turns (turn_count R) W) (opening replicas archives)
      (has_serial_turns (turn_count R) j W off)

  same_log : (j : ℕ) (b : Bool) → has j W ≡ b → R.log j ≡ last.log j
  same_log j true e = sym (is_last.log j e)
  same_log j false e = no_log j e ∙ sym (left j e).log

  same_done : (j : ℕ) (b : Bool) → has j W ≡ b → finishes j ≡ last.done j
  same_done j true e = sym (is_last.done j e)
  same_done j false e = not_done j e ∙ sym (left j e).done

  abbrev items_at : ℕ → List Item
  items_at j = items_of_end (slice_get o.jobs j)

  finished_items : (j : ℕ) (P : Parts) (x : Option JobEnd) → slice_get Ps j ≡ Some P
      → slice_get o.jobs j ≡ x → some_passes (λ (e : JobEnd). is_finished e.end) x ≡ true
      → items_of_end x ≡ items (view_in P (archive_of S (Some P)) (log_or_none x))
  finished_items j P None is at done = absurd (false≢true done)
  finished_items j P (Some e) is at done =
      (settles.outcome.ends j e P at is).items
      ∙ ap (λ b. cond b (items (view_in P (archive_of S (Some P)) e.log)) []) done

  open_items : (j : ℕ) (P : Parts) (x : Option JobEnd) → slice_get Ps j ≡ Some P
      → slice_get o.jobs j ≡ x → some_passes (λ (e : JobEnd). is_finished e.end) x ≡ false
      → items_of_end x ≡ []
  open_items j P None is at done = refl
  open_items j P (Some e) is at done =
      (settles.outcome.ends j e P at is).items
      ∙ ap (λ b. cond b (items (view_in P (archive_of S (Some P)) e.log)) []) done

  items_in_wave : (j : ℕ) (b : Bool) → has j W ≡ true → finishes j ≡ b → items_at j ≡ last.items j
  items_in_wave j true e done =
      let P = has-item Ps j (within j e) in
      finished_items j P.0 (slice_get o.jobs j) P.1 refl done
      ∙ (ap (λ x. items (view_in P.0 (archive_of S x) (R.log j))) (sym P.1)
      ∙ sym (is_last.items j P.0 e P.1 done))
  items_in_wave j false e done =
      let P = has-item Ps j (within j e) in
      open_items j P.0 (slice_get o.jobs j) P.1 refl done
      ∙ sym (no_items_turns Ps (serial_turns (turn_count R) W) j (opening replicas archives)
      (λ d. refl) (sym (same_done j true e) ∙ done))

  same_items : (j : ℕ) (b : Bool) → has j W ≡ b → items_at j ≡ last.items j
  same_items j true e = items_in_wave j (finishes j) e refl
  same_items j false e = items_by j (slice_get o.jobs j) refl e ∙ sym (left j e).items

  -- Archives of other pairs.
  no_pair : (k : RootPair) → is_root_pair k ≡ false → (j : ℕ) (P : Parts) → slice_get Ps j ≡ Some P
      → pair_eq (pair_of P) k ≡ false
  no_pair k off j P is =
      false_from_ne_true (pair_eq (pair_of P) k)
      (λ e. false≢true (sym off ∙ (ap is_root_pair (sym (same_pair (pair_of P) k e))
      ∙ is_pair_of_roots P (facts j P is))))

  last_archive : (k : RootPair) → last.archive k ≡ archives_after_ends Ps R (filter finishes W) archives k
  last_archive k = ap (λ (A : RootPair → Archive). A k) is_last.archive

  no_archive : (k : RootPair) → is_root_pair k ≡ false → archive_in o.state k ≡ last.archive k
  no_archive k off =
      ap (λ b. cond b (unwrap_or (archive_at o.state k.0 k.1) fin.empty) fin.empty) off
      ∙ sym (last_archive k
      ∙ (other_archives Ps R k (filter finishes W) archives (no_pair k off)
      ∙ ap (λ b. cond b (unwrap_or (archive_at S k.0 k.1) fin.empty) fin.empty) off))

  -- Archives of pairs of roots.
  module _ (k : RootPair) (is : is_root_pair k ≡ true) where
    places : (is_place k.0 ≡ true) × (is_place k.1 ≡ true)
    places = and_parts (is_place k.0) (is_place k.1)
        (and_parts (is_place k.0 && is_place k.1) (is_lt (path_cmp k.0 k.1)) is).0

    unlike : k.0 ≢ k.1
    unlike = different k.0 k.1
        (and_parts (is_place k.0 && is_place k.1) (is_lt (path_cmp k.0 k.1)) is).1

    in_state : (T : State) → archive_in T k ≡ unwrap_or (archive_at T k.0 k.1) fin.empty
    in_state T = ap (λ b. cond b (unwrap_or (archive_at T k.0 k.1) fin.empty) fin.empty) is

    archive_or : (T : State) → IsState T → (x : Option Archive) → archive_at T k.0 k.1 ≡ x
        → IsArchive (unwrap_or x fin.empty)
    archive_or T state None e = IsArchive-empty.0
    archive_or T state (Some a) e = (state.marks (texts_of k.0 k.1) a e).0

    state_archive : (T : State) → IsState T → IsArchive (archive_in T k)
    state_archive T state =
        subst IsArchive (sym (in_state T)) (archive_or T state (archive_at T k.0 k.1) refl)

    -- A job that takes a mark is finished, of the wave, and of the pair.
    taken_is : (p : Path) (j : ℕ) → takes_marks o Ps k.0 k.1 p j ≡ true
        → (has j (filter finishes W) ≡ true) × (takes Ps k p j ≡ true)
    taken_is p j e =
        let two = and_parts (finishes j)
        (some_passes (λ P. has_root P k.0 && has_root P k.1 && reach P p) (slice_get Ps j)) e in
        let P = passing (λ (P : Parts). has_root P k.0 && has_root P k.1 && reach P p)
        (slice_get Ps j) two.1 in
        let three = and_parts (has_root P.0 k.0 && has_root P.0 k.1) (reach P.0 p) P.2 in
        let own = pair_itself (pair_of P.0) k (its_pair P.0 (facts j P.0 P.1) k is three.0) in (
          filtered_has finishes j W (among j (has j W) refl two.0) two.0,
          ap (some_passes (λ (Q : Parts). pair_eq (pair_of Q) k && reach Q p)) P.1
              ∙ and_from _ _ own three.1,
        )
      where
        among : (j : ℕ) (b : Bool) → has j W ≡ b → finishes j ≡ true → has j W ≡ true
        among j true e f = e
        among j false e f = absurd (false≢true (sym (not_done j e) ∙ f))

    is_taken : (p : Path) (j : ℕ) → finishes j ≡ true → takes Ps k p j ≡ true
        → takes_marks o Ps k.0 k.1 p j ≡ true
    is_taken p j done e =
        let P = passing (λ (P : Parts). pair_eq (pair_of P) k && reach P p) (slice_get Ps j) e in
        let two = and_parts (pair_eq (pair_of P.0) k) (reach P.0 p) P.2 in
        let both = has_its_pair P.0 (facts j P.0 P.1) k (same_pair (pair_of P.0) k two.0) in
        and_from _ _ done
        (ap (some_passes (λ (Q : Parts). has_root Q k.0 && has_root Q k.1 && reach Q p)) P.1
        ∙ and_from _ _ both two.1)

    -- No job takes the mark.
    untaken : (p : Path) → find (takes_marks o Ps k.0 k.1 p) (range_with_len 0 (length Ps)) ≡ None
        → (j : ℕ) → has j (filter finishes W) ≡ true → takes Ps k p j ≡ false
    untaken p none j g =
        let w = has_filtered finishes j W g in
        false_from_ne_true (takes Ps k p j)
        (λ e. none_found (takes_marks o Ps k.0 k.1 p) (range_with_len 0 (length Ps)) none j
        (range_has 0 (length Ps) j (omega arith) (below j w.0))
        (is_taken p j w.1 e))
      where
        below : (j : ℕ) → has j W ≡ true → j < 0 + length Ps
        below j g = let l = within j g in omega (arith, l)

    -- The jobs of the pair don't clash.
    abbrev own_jobs : List ℕ
    own_jobs = filter (of_pair Ps k) W

    abbrev own_record : RunRecord
    own_record = record R { started = own_jobs }

    apart : (i j : ℕ) → has i own_jobs ≡ true → has j own_jobs ≡ true → i ≢ j → JobsClash Ps i j → ⊥
    apart i j h g off clash =
        let a = has_filtered (of_pair Ps k) i W h in
        let b = has_filtered (of_pair Ps k) j W g in
        let P = passing (λ (P : Parts). pair_eq (pair_of P) k) (slice_get Ps i) a.1 in
        let Q = passing (λ (P : Parts). pair_eq (pair_of P) k) (slice_get Ps j) b.1 in
        let one = same_pair (pair_of P.0) k P.2 in
        let two = same_pair (pair_of Q.0) k Q.2 in
        lone i j a.0 b.0 off clash (shared_gap Ps facts i j P.0 Q.0 P.1 Q.1 (one ∙ sym two))
        (shared_gap Ps facts j i Q.0 P.0 Q.1 P.1 (two ∙ sym one))

    -- One job takes it: of those of the pair it may be the first one to end.
    taken_mark : (p : Path) (j : ℕ) → takes_marks o Ps k.0 k.1 p j ≡ true
        → old_mark_at (archives_after_ends Ps R (filter finishes W) archives k) p
        ≡ mark_by S Ps (logs_in o) p (old_mark_at (unwrap_or (archive_at S k.0 k.1) fin.empty) p)
        (Some j)
    taken_mark p j e =
        let w = taken_is p j e in
        let L = filter finishes own_jobs in
        let ends = has_filtered finishes j W w.0 in
        let own_end : has j L ≡ true =
        filtered_has finishes j own_jobs
        (filtered_has (of_pair Ps k) j W ends.0 (taken_of_pair Ps k p j w.1)) ends.1 in
        let cut = cut_at j L
        (distinct_filtered finishes own_jobs (distinct_filtered (of_pair Ps k) W distinct)) own_end in
        let front = cut.0 in
        let after_it = cut.1 in
        let free : (l : ℕ) → has l front ≡ true → (JobsClash Ps l j ⊎ JobsClash Ps j l) → ⊥ = λ l g clash.
        (let own = has_cut l front after_it j L cut.2 (inl g) in
        let one = has_filtered finishes l own_jobs own in
        let two = has_filtered finishes j own_jobs own_end in
        let off : l ≢ j = λ same. false≢true (sym cut.3 ∙ (ap (λ x. has x front) (sym same) ∙ g)) in
        elim clash [
          | inl c ↦ apart l j one.0 two.0 off c
          | inr c ↦ apart j l two.0 one.0 (λ s. off (sym s)) c
        ]) in
        let order = any_order Ps own_record (j ∷ front ++ after_it) archives facts
        (subst (AreEquivalent (JobsClash Ps) (j ∷ front ++ after_it)) (sym cut.2)
        (may_be_first (JobsClash Ps) j front after_it cut.3 free)) in
        let others : (l : ℕ) → has l (front ++ after_it) ≡ true → takes Ps k p l ≡ false = λ l g.
        (false_from_ne_true (takes Ps k p l) (λ f.
        let own = has_cut l front after_it j L cut.2 (has_either l front after_it g) in
        let one = has_filtered finishes l own_jobs own in
        let two = has_filtered finishes j own_jobs own_end in
        let off : l ≢ j = λ same. false≢true (sym (has_append j front after_it cut.3 cut.4)
        ∙ (ap (λ x. has x (front ++ after_it)) (sym same) ∙ g)) in
        apart l j one.0 two.0 off (both_take Ps facts k p l j f w.1))) in
        ap (λ A. old_mark_at A p)
        (of_its_pair Ps R k (filter finishes W) archives archives refl
        ∙ ap (λ xs. archives_after_ends Ps R xs archives k) (filter_swap (of_pair Ps k) finishes W))
        ∙ (ap (λ (A : RootPair → Archive). old_mark_at (A k) p) (sym order)
        ∙ (kept_marks Ps R k p (front ++ after_it) (with_marks_of Ps R j archives) others
        ∙ its_mark p j w.1))
      where
        its_mark : (p : Path) (j : ℕ) → takes Ps k p j ≡ true
            → old_mark_at (with_marks_of Ps R j archives k) p
            ≡ mark_by S Ps (logs_in o) p (old_mark_at (unwrap_or (archive_at S k.0 k.1) fin.empty) p)
            (Some j)
        its_mark p j e =
            let P = passing (λ (P : Parts). pair_eq (pair_of P) k && reach P p) (slice_get Ps j) e in
            let two = and_parts (pair_eq (pair_of P.0) k) (reach P.0 p) P.2 in
            let same = same_pair (pair_of P.0) k two.0 in
            let given_here : archives k ≡ archive_of S (Some P.0) =
            ap archives (sym same) ∙ given_archive S P.0 (facts j P.0 P.1) in
            let old = old_mark_at (unwrap_or (archive_at S k.0 k.1) fin.empty) p in
            ap (λ x. old_mark_at (with_marks_by archives (R.log j) x k) p) P.1
            ∙ (ap (λ b. old_mark_at (cond b (archive_after P.0 (archives k) (R.log j)) (archives k)) p) two.0
            ∙ (ap (λ A. old_mark_at (archive_after P.0 A (R.log j)) p) given_here
            ∙ sym (ap (mark_for S (logs_in o) p old j) P.1)))

    marks_by : (p : Path) (x : Option ℕ)
        → find (takes_marks o Ps k.0 k.1 p) (range_with_len 0 (length Ps)) ≡ x
        → old_mark_at (archives_after_ends Ps R (filter finishes W) archives k) p
        ≡ mark_by S Ps (logs_in o) p (old_mark_at (unwrap_or (archive_at S k.0 k.1) fin.empty) p) x
    marks_by p None e =
        kept_marks Ps R k p (filter finishes W) archives (untaken p e)
        ∙ ap (λ A. old_mark_at A p) (in_state S)
    marks_by p (Some j) e = taken_mark p j (found_passes (takes_marks o Ps k.0 k.1 p) (range_with_len 0 (length Ps)) j e)

    same_mark : (p : Path) → old_mark_at (archive_in o.state k) p ≡ old_mark_at (last.archive k) p
    same_mark p =
        ap (λ A. old_mark_at A p) (in_state o.state)
        ∙ (settles.outcome.archives k.0 k.1 p places.0 places.1 unlike
        ∙ (sym (marks_by p _ refl) ∙ ap (λ A. old_mark_at A p) (sym (last_archive k))))

    pair_archive : archive_in o.state k ≡ last.archive k
    pair_archive =
        same_archive (archive_in o.state k) (last.archive k) (state_archive o.state valid_left)
        (subst IsArchive (sym (last_archive k))
        (ends_are_archives Ps R k (filter finishes W) archives (state_archive S valid)))
        same_mark

  archive_by : (k : RootPair) (b : Bool) → is_root_pair k ≡ b → archive_in o.state k ≡ last.archive k
  archive_by k true e = pair_archive k e
  archive_by k false e = no_archive k e

  -- The world that the wave leaves.
  pub wave_is_serial : world_of o.state o.jobs
      ≡ run Ps (serial_turns (turns_in (world_of o.state o.jobs)) W) (opening_of S)
  wave_is_serial i = record {
    replica = λ r. same_replica r i;
    archive = λ k. archive_by k (is_root_pair k) refl i;
    log = λ j. same_log j (has j W) refl i;
    done = λ j. same_done j (has j W) refl i;
    items = λ j. same_items j (has j W) refl i;
  }

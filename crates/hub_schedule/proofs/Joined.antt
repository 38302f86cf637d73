-- The jobs and the replicas of a world at its end are an outcome of it.
use Rattle.std.proofs.Common.{◌≡◌, ◌≢◌, ◌<◌, ◌+◌, ◌⊎◌, inl, inr, Bool, true, false, cond, ◌||◌, List, [], ◌∷◌, length, map, Some, None, Result, Ok, Err, IfOk, refl, ap, sym, ◌∙◌, subst}
use Rattle.std.specs.Prelude.{ℕ, suc, IsTrue, slice_get, find, fold, is_some, unwrap_or, if◌then◌else◌}
use Rattle.std.specs.List.{list_any, range_with_len}
use Rattle.std.specs.FinMap as fin
use Rattle.std.proofs.lemmas.List.{length-map}
use Rattle.std.proofs.lemmas.Bool.{false≢true, or_cases, false_from_ne_true}
use Rattle.std.specs.Cmp.{both_ways}
use Rattle.std.proofs.lemmas.Option.{none-some, same_Some, slice_get_within}
use Rattle.hub_job.specs.laws.Making.{none_more}
use Rattle.hub_reconcile.specs.laws.Views.{same_paths}
use Rattle.hub_path.specs.Path.{Path, path_eq, is_place}
use Rattle.hub_path.specs.declared.side.Side.{Side}
use Rattle.hub_path.specs.declared.side.Side.TheVariants.{Left, Right}
use Rattle.hub_profile.specs.Parts.{Parts, IsProfile, at_side, some_passes}
use Rattle.hub_reach.specs.Reach.{has_root}
use Rattle.hub_tree.specs.Tree.{Replica, Archive, old_mark_at}
use Rattle.hub_reconcile.specs.Items.{items}
use Rattle.hub_reconcile.specs.Sync.{root_or_top, next_archive}
use Rattle.hub_state.specs.State.{State, replica_at, with_replica, root_text, pair_of}
use Rattle.hub_state.specs.laws.RootTexts.{replica_put}
use Rattle.hub_schedule.specs.Next.{NextValue}
use Rattle.hub_job.specs.declared.op.Next.{Next}
use Rattle.hub_job.specs.declared.op.Next.TheVariants.{Ask, Finished, Stopped}
use Rattle.hub_job.specs.declared.job_end.End.{End}
use Rattle.hub_job.specs.declared.job_end.End.TheVariants as end
use Rattle.hub_job.specs.declared.job_end.JobEnd.{JobEnd}
use Rattle.hub_job.specs.declared.outcome.Outcome.{Outcome}
use Rattle.hub_schedule.specs.declared.slot.Slot.{Slot}
use Rattle.hub_schedule.specs.declared.slot.WorkingTree.{WorkingTree}
use Rattle.hub_job.specs.Ends.{end_by, is_finished, end_of}
use Rattle.hub_job.specs.Job.{is_ask, next, steps_made, view_in}
use Rattle.hub_schedule.specs.forms.Left.{end_value, next_value, put_tree, mark_in, mark_from, one_is_left, HasArchives, HasMarks}
use Rattle.hub_job.specs.Outcome as outcome
use Rattle.hub_job.specs.Outcome.{jobs_of}
use Rattle.hub_schedule.specs.Promise.{HasReplicas}
use Rattle.hub_job.specs.Run.{root_at}
use Rattle.hub_schedule.specs.Settled.{AreProfiles}
use Rattle.hub_schedule.specs.Table.{place_on, stopped_at, AllWouldAsk, AreTreeNumbers, HaveTurned, IsOutcomeAfter, IsTreeNumber, ShowsWorld}
use Rattle.hub_job.specs.World.{Jobs, World, log_of, opening}
use Rattle.hub_job.specs.laws.Untouched.{path-of_Some}
use Rattle.hub_job.specs.laws.Roots.{two_roots}
use Rattle.hub_schedule.proofs.NextMarks.{IsNextOf, find_marks, some_leaves}
use Rattle.hub_schedule.proofs.Promised.{root_place}
use Rattle.hub_schedule.specs.laws.Lists.{any-at, one_with, map_get, map_at, as_long}

-- A root of a profile is that of a side.
root_side : (P : Parts) (r : Path) → IsProfile P → has_root P r ≡ true → (k : Side) × (root_at P k ≡ r)
root_side P r facts h =
    let two = two_roots P.roots facts.roots in
    let any : (path_eq two.first r || (path_eq two.second r || false)) ≡ true = sym (ap (list_any (λ own. path_eq own r)) two.are) ∙ h in
    elim (or_cases (path_eq two.first r) (path_eq two.second r || false) any) [
      | inl e ↦ (Left, ap (λ rs. root_or_top (at_side rs Left)) two.are ∙ same_paths two.first r e)
      | inr g ↦ elim (or_cases (path_eq two.second r) false g) [
        | inl e ↦ (Right, ap (λ rs. root_or_top (at_side rs Right)) two.are ∙ same_paths two.second r e)
        | inr never ↦ absurd (false≢true never)
      ]
    ]

-- The state with these replicas.
either_way : (a b : Bool) → (a || b) ≡ (b || a)
either_way true true = refl
either_way true false = refl
either_way false true = refl
either_way false false = refl

either : {X : Type 0} (b c : Bool) (x y z : X) → (c ≡ true → x ≡ y) → cond b x (cond c y z) ≡ cond (c || b) x z
either true true x y z e = refl
either true false x y z e = refl
either false true x y z e = sym (e refl)
either false false x y z e = refl

abbrev is_there : Path → WorkingTree → Bool
is_there q t = path_eq q t.root.now

put_replicas : (replica : Path → Replica) (q : Path) → is_place q ≡ true → (trees : List WorkingTree) → ((k : ℕ) (t : WorkingTree) → slice_get trees k ≡ Some t → t.tree ≡ replica t.root.now)
    → ((k : ℕ) (t : WorkingTree) → slice_get trees k ≡ Some t → is_place t.root.now ≡ true) → (S : State)
    → replica_at (fold put_tree S trees) q ≡ cond (list_any (is_there q) trees) (Some (replica q)) (replica_at S q)
put_replicas replica q place [] each places S = refl
put_replicas replica q place (t ∷ trees) each places S =
    put_replicas replica q place trees (λ k u e. each (suc k) u e) (λ k u e. places (suc k) u e) (with_replica S t.root.now t.tree)
    ∙ (ap (cond (list_any (is_there q) trees) (Some (replica q))) (replica_put S t.root.now q t.tree (places 0 t refl) place)
    ∙ either (list_any (is_there q) trees) (is_there q t) (Some (replica q)) (Some t.tree) (replica_at S q)
    (λ e. ap (λ m. Some m) (ap replica (same_paths q t.root.now e) ∙ sym (each 0 t refl))))

put_archives : (trees : List WorkingTree) (S : State) → (fold put_tree S trees).archives ≡ S.archives
put_archives [] S = refl
put_archives (t ∷ trees) S = put_archives trees (with_replica S t.root.now t.tree)

-- How a job ends.
finished_next : (x : End) (a : Archive) → is_some (if is_finished x then Some a else None) ≡ is_finished x
finished_next end.Finished a = refl
finished_next end.Stopped a = refl
finished_next end.Unfinished a = refl

next_of : (x : End) (a b : Archive) → (if is_finished x then Some a else None) ≡ Some b → b ≡ a
next_of end.Finished a b e = sym (same_Some a b e)
next_of end.Stopped a b e = cc
next_of end.Unfinished a b e = cc

how_ended : (b : Bool) (x y : End) → x ≡ (if b then end.Stopped else y) → (x ≡ end.Stopped) ⊎ (x ≡ y)
how_ended true x y e = inl e
how_ended false x y e = inr e

slot_of : (slots : List Slot) (o : Outcome) → o.jobs ≡ map end_value slots → (j : ℕ) (e : JobEnd) → slice_get o.jobs j ≡ Some e → (s : Slot) × (slice_get slots j ≡ Some s) × (e ≡ end_value s)
slot_of slots o jobs j e at = map_get end_value slots j e (sym (ap (λ (es : List JobEnd). slice_get es j) jobs) ∙ at)

-- A stopped job ends as stopped.
pub went_on : (slots : List Slot) (o : Outcome) → o.jobs ≡ map end_value slots → (j : ℕ) (e : JobEnd) → slice_get o.jobs j ≡ Some e → e.end ≢ end.Stopped → stopped_at slots j ≡ false
went_on slots o jobs j e at going =
    let s = slot_of slots o jobs j e at in
    ap (some_passes (λ (s : Slot). s.job.stopped)) s.1
    ∙ false_from_ne_true s.0.job.stopped (λ h. going (ap (λ (e : JobEnd). e.end) s.2 ∙ ap (λ b. if b then end.Stopped else end_by (next s.0.job.profile s.0.job.archive s.0.job.log)) h))

stops_next : (n : Next) → end_by n ≡ end.Stopped → n ≡ Stopped
stops_next (Ask side op) e = cc
stops_next Finished e = cc
stops_next Stopped e = refl

stopped_by : (b : Bool) (n : Next) → (if b then end.Stopped else end_by n) ≡ end.Stopped → (n ≡ Stopped → ⊥) → b ≡ true
stopped_by true n e off = refl
stopped_by false n e off = absurd (off (stops_next n e))

-- A job that ends as stopped, though no answer in its log stops it, was stopped.
pub was_stopped : (S : State) (slots : List Slot) (trees : List WorkingTree) (o : Outcome) → o.jobs ≡ map end_value slots
    → (Ps : List Parts) (w : World) (j : ℕ) (P : Parts) (e : JobEnd) → ShowsWorld (jobs_of S Ps) w slots trees → slice_get Ps j ≡ Some P → slice_get o.jobs j ≡ Some e → e.end ≡ end.Stopped
    → next P (outcome.archive_of S (Some P)) e.log ≢ Stopped
    → (stopped_at slots j ≡ true) × (AllWouldAsk slots → 0 < steps_made e.log → next P (outcome.archive_of S (Some P)) e.log ≢ Finished)
was_stopped S slots trees o jobs Ps w j P e table is at ended off =
    let s = slot_of slots o jobs j e at in
    let a = table.each j s.0 s.1 in
    let profile : s.0.job.profile ≡ P = same_Some s.0.job.profile P (sym a.is ∙ is) in
    let archive : s.0.job.archive ≡ outcome.archive_of S (Some P) =
    a.archive ∙ (ap (outcome.archive_of S) a.is ∙ ap (λ Q. outcome.archive_of S (Some Q)) profile) in
    let log : s.0.job.log ≡ e.log = sym (ap (λ (e : JobEnd). e.log) s.2) in
    let own_next : next s.0.job.profile s.0.job.archive s.0.job.log ≡ next P (outcome.archive_of S (Some P)) e.log = λ i. next (profile i) (archive i) (log i) in
    let stopped : s.0.job.stopped ≡ true =
    stopped_by s.0.job.stopped (next s.0.job.profile s.0.job.archive s.0.job.log) (sym (ap (λ (e : JobEnd). e.end) s.2) ∙ ended) (λ h. off (sym own_next ∙ h)) in (
      ap (some_passes (λ (s : Slot). s.job.stopped)) s.1 ∙ stopped,
      λ all made done. false≢true (sym (ap is_ask (own_next ∙ done)) ∙ all j s.0 s.1 stopped (subst (λ l. 0 < steps_made l) (sym log) made)),
    )

module _ (S : State) (Ps : List Parts) (has : HasReplicas S Ps) (w : World) (slots : List Slot) (trees : List WorkingTree) (table : ShowsWorld (jobs_of S Ps) w slots trees) (o : Outcome)
    (jobs : o.jobs ≡ map end_value slots) (same : o.state.replicas ≡ (fold put_tree S trees).replicas)
    (there : HasArchives (one_is_left (map next_value slots)) (fold put_tree S trees) o.state) (marks : HasMarks (mark_from (map next_value slots)) (fold put_tree S trees) o.state) where
  -- Jobs.
  job_at : (j : ℕ) (e : JobEnd) → slice_get o.jobs j ≡ Some e → (s : Slot) × (slice_get slots j ≡ Some s) × (e ≡ end_value s)
  job_at = slot_of slots o jobs

  slot_profile : (j : ℕ) (s : Slot) (P : Parts) → slice_get slots j ≡ Some s → slice_get Ps j ≡ Some P → s.job.profile ≡ P
  slot_profile j s P at is = same_Some s.job.profile P (sym (table.each j s at).is ∙ is)

  facts : AreProfiles Ps
  facts j P is = let s = as_long slots Ps j P table.count is in subst IsProfile (slot_profile j s.0 P s.1 is) (table.each j s.0 s.1).valid

  archive_is : (j : ℕ) (s : Slot) → slice_get slots j ≡ Some s → s.job.archive ≡ outcome.archive_of S (Some s.job.profile)
  archive_is j s at = let a = table.each j s at in a.archive ∙ ap (outcome.archive_of S) a.is

  end_at : (j : ℕ) (s : Slot) (P : Parts) → slice_get slots j ≡ Some s → slice_get Ps j ≡ Some P → outcome.IsEndOf S P (end_value s)
  end_at j s P at is =
      let profile : s.job.profile ≡ P = slot_profile j s P at is in
      let archive : s.job.archive ≡ outcome.archive_of S (Some P) = archive_is j s at ∙ ap (λ Q. outcome.archive_of S (Some Q)) (slot_profile j s P at is) in
      record {
        how = how_ended s.job.stopped (end_of s.job) (end_by (next P (outcome.archive_of S (Some P)) s.job.log)) (λ i. if s.job.stopped then end.Stopped else end_by (next (profile i) (archive i) s.job.log));
        items = λ i. if is_finished (end_of s.job) then items (view_in (profile i) (archive i) s.job.log) else [];
      }

  ends_are : (j : ℕ) (e : JobEnd) (P : Parts) → slice_get o.jobs j ≡ Some e → slice_get Ps j ≡ Some P → outcome.IsEndOf S P e
  ends_are j e P at is = let s = job_at j e at in subst (outcome.IsEndOf S P) (sym s.2) (end_at j s.0 P s.1 is)

  logs_are : (j : ℕ) (e : JobEnd) → slice_get o.jobs j ≡ Some e → e.log ≡ log_of w j
  logs_are j e at = let s = job_at j e at in ap (λ (e : JobEnd). e.log) s.2 ∙ (table.each j s.0 s.1).log

  -- Replicas.
  tree_place : (k : ℕ) (t : WorkingTree) → slice_get trees k ≡ Some t → is_place t.root.now ≡ true
  tree_place k t at = let P = one_with (λ P. has_root P t.root.now) Ps (table.roots k t at) in root_place P.1 t.root.now (facts P.0 P.1 P.2) P.3

  listed_tree : (r : Path) (k : ℕ) → IsTreeNumber trees r k → list_any (is_there r) trees ≡ true
  listed_tree r k p = any-at (is_there r) trees k p.0 p.1 (path-of_Some r p.0.root.now (ap (λ q. Some q) (sym p.2)))

  root_there : (r : Path) (P : (j : ℕ) × (P : Parts) × (slice_get Ps j ≡ Some P) × (has_root P r ≡ true)) → list_any (is_there r) trees ≡ true
  root_there r P =
      let s = as_long slots Ps P.0 P.1 table.count P.2 in
      let a = table.each P.0 s.0 s.1 in
      let is : s.0.job.profile ≡ P.1 = slot_profile P.0 s.0 P.1 s.1 P.2 in
      let side = root_side s.0.job.profile r a.valid (ap (λ Q. has_root Q r) is ∙ P.3) in
      listed_tree r (place_on s.0 side.0) (subst (λ q. IsTreeNumber trees q (place_on s.0 side.0)) side.1 (a.places side.0))

  tree_root : (r : Path) → list_any (is_there r) trees ≡ true → list_any (λ P. has_root P r) Ps ≡ true
  tree_root r h = let t = one_with (is_there r) trees h in ap (λ q. list_any (λ P. has_root P q) Ps) (same_paths r t.1.root.now t.3) ∙ table.roots t.0 t.1 t.2

  as_roots : (r : Path) → list_any (is_there r) trees ≡ list_any (λ P. has_root P r) Ps
  as_roots r = both_ways (list_any (is_there r) trees) (list_any (λ P. has_root P r) Ps) (tree_root r) (λ h. root_there r (one_with (λ P. has_root P r) Ps h))

  replica_is : (r : Path) → is_place r ≡ true → replica_at o.state r ≡ cond (list_any (λ P. has_root P r) Ps) (Some (w.replica r)) (replica_at S r)
  replica_is r place =
      ap (λ m. fin.get m (root_text r)) same
      ∙ (put_replicas w.replica r place trees table.replicas.each tree_place S ∙ ap (λ b. cond b (Some (w.replica r)) (replica_at S r)) (as_roots r))

  replica_by : (r : Path) (m : Replica) (b : Bool) → replica_at S r ≡ Some m → cond b (Some (w.replica r)) (replica_at S r) ≡ Some (if b then w.replica r else m)
  replica_by r m true e = refl
  replica_by r m false e = e

  no_root : (r : Path) → replica_at S r ≡ None → list_any (λ P. has_root P r) Ps ≡ false
  no_root r none =
      false_from_ne_true (list_any (λ P. has_root P r) Ps)
      (λ h. let P = one_with (λ P. has_root P r) Ps h in let m = has P.0 P.1 r P.2 P.3 in none-some m.0 (sym none ∙ m.1))

  -- Archives.
  next_by : (k : ℕ) (s : Slot) → slice_get slots k ≡ Some s → IsNextOf S Ps (log_of w) o k (next_value s)
  next_by k s at =
      let a = table.each k s at in
      record {
        is = a.is;
        done = ap (some_passes (λ (e : JobEnd). is_finished e.end)) (ap (λ (es : List JobEnd). slice_get es k) jobs ∙ map_at end_value slots k s at)
            ∙ sym (finished_next (end_of s.job) (next_archive (view_in s.job.profile s.job.archive s.job.log) s.job.archive));
        next = λ b e. next_of (end_of s.job) (next_archive (view_in s.job.profile s.job.archive s.job.log) s.job.archive) b e
            ∙ (λ i. next_archive (view_in s.job.profile (archive_is k s at i) (a.log i)) (archive_is k s at i));
      }

  next_at : (k : ℕ) (n : NextValue) → slice_get (map next_value slots) k ≡ Some n → IsNextOf S Ps (log_of w) o k n
  next_at k n at = let s = map_get next_value slots k n at in subst (IsNextOf S Ps (log_of w) o k) (sym s.2) (next_by k s.0 s.1)

  many : length (map next_value slots) ≡ length Ps
  many = length-map slots next_value ∙ table.count

  all_next : (k : ℕ) (n : NextValue) → slice_get (map next_value slots) k ≡ Some n → IsNextOf S Ps (log_of w) o (0 + k) n
  all_next k n e = subst (λ i. IsNextOf S Ps (log_of w) o i n) (sym (none_more k)) (next_at k n e)

  archives_there : outcome.ArchivesAreThere S Ps o
  archives_there = λ r s one other off.
      let leave : ℕ → Bool = outcome.leaves_archive o Ps r s in
      let before : Bool = is_some (fin.get S.archives (pair_of r s)) in
      there r s one other off
      ∙ (ap (λ a. one_is_left (map next_value slots) r s || is_some (fin.get a (pair_of r s))) (put_archives trees S)
      ∙ (ap (λ b. b || before) (some_leaves S Ps (log_of w) o r s (map next_value slots) 0 all_next ∙ ap (λ n. list_any leave (range_with_len 0 n)) many)
      ∙ either_way (list_any leave (range_with_len 0 (length Ps))) before))

  marks_are : (r s p : Path) → IsTrue (is_place r) → IsTrue (is_place s) → r ≢ s
      → mark_in o.state r s p ≡ outcome.mark_by S Ps (log_of w) p (mark_in S r s p) (find (outcome.takes_marks o Ps r s p) (range_with_len 0 (length Ps)))
  marks_are r s p one other off =
      marks r s p one other off
      ∙ (ap (mark_from (map next_value slots) r s p) (ap (λ a. old_mark_at (unwrap_or (fin.get a (pair_of r s)) fin.empty) p) (put_archives trees S))
      ∙ (find_marks S Ps (log_of w) o r s p (mark_in S r s p) (map next_value slots) 0 all_next
      ∙ ap (λ n. outcome.mark_by S Ps (log_of w) p (mark_in S r s p) (find (outcome.takes_marks o Ps r s p) (range_with_len 0 n))) many))

  pub joined : outcome.IsOutcomeWith S Ps (log_of w) w.replica o
  joined = record {
    all = ap length jobs ∙ (length-map slots end_value ∙ table.count);
    logs = logs_are;
    ends = ends_are;
    replicas = λ r m place e. replica_is r place ∙ replica_by r m (list_any (λ P. has_root P r) Ps) e;
    others = λ r place e. replica_is r place ∙ (ap (λ b. cond b (Some (w.replica r)) (replica_at S r)) (no_root r e) ∙ e);
    pairs = archives_there;
    archives = marks_are;
  }

-- Where jobs and replicas stand for a world, each job has the numbers of replicas.
pub tree_numbers : {J : Jobs} {w : World} {slots : List Slot} {trees : List WorkingTree} → ShowsWorld J w slots trees → AreTreeNumbers slots trees
tree_numbers {trees} table = λ j s k e. let p = (table.each j s e).places k in slice_get_within trees (place_on s k) p.0 p.1

-- Where no job is stopped.
none_stopped : (slots : List Slot) → ((j : ℕ) → stopped_at slots j ≡ false) → AllWouldAsk slots
none_stopped slots going = λ j s at stopped made. absurd (false≢true (sym (going j) ∙ (ap (some_passes (λ (s : Slot). s.job.stopped)) at ∙ stopped)))

module _ (S : State) (Ps : List Parts) {slots now : List Slot} {trees trees_now : List WorkingTree} {schedule : List ℕ} (table : ShowsWorld (jobs_of S Ps) (opening (jobs_of S Ps) (outcome.replicas_of S)) slots trees)
    (turned : HaveTurned slots trees schedule now trees_now) where
  pub shown : (J : Jobs) × (w : World) × ShowsWorld J w now trees_now
  shown = let t = turned (jobs_of S Ps) (opening (jobs_of S Ps) (outcome.replicas_of S)) table in (jobs_of S Ps, t.0, t.1)

  -- The outcome is that of the schedule that was run.
  pub after_turns : {E : Type 0} (r : Result Outcome E) → ((j : ℕ) → stopped_at slots j ≡ false) → (AllWouldAsk slots → AllWouldAsk now) → HasReplicas S Ps → IfOk r (IsOutcomeAfter S now trees_now) → IfOk r (outcome.IsSimulated S Ps schedule)
  after_turns (Ok o) going more there h =
      let t = turned (jobs_of S Ps) (opening (jobs_of S Ps) (outcome.replicas_of S)) table in (
        t.2.limit,
        subst (λ (x : World). outcome.IsOutcomeWith S Ps (log_of x) x.replica o) t.2.world (h.leaves Ps t.0 there t.1),
        λ j e at on. t.2.all j (h.going j e at on),
        λ j P e is at ended off. let x = h.stopped Ps t.0 j P e t.1 is at ended off in (t.2.lost j (going j) x.0, x.1 (more (none_stopped slots going))),
      )
  after_turns (Err e) going more there h = h

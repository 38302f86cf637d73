-- A job that takes its turns one after another, alone.
use Rattle.std.proofs.Common.{◌≡◌, ◌<◌, ◌≤◌, inl, inr, Bool, true, false, cond, List, [], ◌∷◌, ◌++◌, Some, refl, ap, sym, ◌∙◌, subst, arith}
use Rattle.std.specs.Prelude.{◌⊎◌, ◌==◌, ℕ, zero, suc, slice_get, replicate}
use Rattle.std.specs.List.{list_any}
use Rattle.std.proofs.lemmas.List.Folds.{list_any-append}
use Rattle.std.proofs.lemmas.Bool.{false≢true, false_from_ne_true, and_from, or_left}
use Rattle.hub_path.specs.Path.{Path, path_eq}
use Rattle.hub_path.specs.declared.side.Side.{Side}
use Rattle.hub_path.specs.declared.side.Side.TheVariants.{Left, Right}
use Rattle.hub_profile.specs.Parts.{Parts, IsProfile}
use Rattle.hub_reach.specs.Reach.{has_root}
use Rattle.hub_tree.specs.Tree.{Replica, Archive, IsTree, contents_at, old_mark_at}
use Rattle.hub_reconcile.specs.Items.{items}
use Rattle.hub_reconcile.specs.Sync.{view_of, next_archive}
use Rattle.hub_reconcile.specs.laws.Archived.{archived}
use Rattle.hub_reconcile.specs.laws.Views.{same_paths, paths_same}
use Rattle.hub_job.specs.declared.op.Op.{Op}
use Rattle.hub_job.specs.declared.log.Logged.{Logged}
use Rattle.hub_job.specs.declared.op.Next.{Next}
use Rattle.hub_job.specs.declared.op.Next.TheVariants.{Ask, Finished, Stopped}
use Rattle.hub_job.specs.Machine.{after}
use Rattle.hub_job.specs.Job.{is_refused, next, view_in}
use Rattle.hub_job.specs.Ends.{archive_after}
use Rattle.hub_job.specs.Run.{Pair as Replicas, IsSynced, act_on, changed_at, logged, on_side, pair_opening, pair_run, root_at, turns_bound}
use Rattle.hub_job.specs.laws.Finishing.{job_ends, stays_finished}
use Rattle.hub_job.specs.laws.Roots.{side_root, left_not_right, right_not_left, has_its_root}
use Rattle.hub_serial.specs.Schedule.{after_turns}
use Rattle.hub_serial.specs.World.{RootPair, World, pair_of, pair_eq, archive_for, event, ending, act, next_for, turn_of, turn}
use Rattle.hub_serial.specs.Serial.{IsSyncOf}
use Rattle.hub_serial.proofs.Traces.{itself}

-- Turns of a job on its two replicas.
add : ℕ → ℕ → ℕ
add zero n = n
add (suc m) n = suc (add m n)

within_sum : (m n : ℕ) → n ≤ add m n
unfolding add
within_sum zero n = omega arith
within_sum (suc m) n = let h = within_sum m n in omega (arith, h)

run_on : (P : Parts) (O : Archive) (j m n : ℕ) (w : Replicas) → pair_run P O j (add m n) w ≡ pair_run P O j n (pair_run P O j m w)
unfolding pair_run add
run_on P O j zero n w = refl
run_on P O j (suc m) n w = run_on P O j m n (act_on P j w (next P O w.log))

pub is_synced : (P : Parts) → IsProfile P → (A B : Replica) (O : Archive) → IsTree A → IsTree B → (j m : ℕ)
    → next P O (pair_run P O j m (pair_opening A B)).log ≡ Finished → IsSynced P A B O (pair_run P O j m (pair_opening A B))
is_synced P facts A B O left right j m done =
    let n = turns_bound P A B in
    subst (λ w. IsSynced P A B O w)
    (run_on P O j m n (pair_opening A B) ∙ stays_finished P O j n (pair_run P O j m (pair_opening A B)) done)
    (job_ends P facts A B O left right j (add m n) (within_sum m n))

-- What the world is for one job.
abbrev replicas_for : Parts → ℕ → World → Replicas
replicas_for P j w = record { log = w.log j; left = w.replica (root_at P Left); right = w.replica (root_at P Right) }

on_side_for : (P : Parts) (j : ℕ) (k : Side) (w : World) → w.replica (root_at P k) ≡ on_side (replicas_for P j w) k
on_side_for P j Left w = refl
on_side_for P j Right w = refl

pub taken : {X : Type 0} (b : Bool) (x y : X) → b ≡ true → cond b x y ≡ x
taken true x y e = refl
taken false x y e = absurd (false≢true e)

pub passed : {X : Type 0} (b : Bool) (x y : X) → b ≡ false → cond b x y ≡ y
passed true x y e = absurd (false≢true (sym e))
passed false x y e = refl

own_pair : (k : RootPair) → pair_eq k k ≡ true
own_pair k = and_from (path_eq k.0 k.0) (path_eq k.1 k.1) (paths_same k.0) (paths_same k.1)

-- Only the job's own log and the replicas of its own roots differ.
pub record IsOwnWork (P : Parts) (j : ℕ) (w u : World) : Type 0 where
  pub replicas : (r : Path) → has_root P r ≡ false → u.replica r ≡ w.replica r
  pub archive : u.archive ≡ w.archive
  pub logs : (l : ℕ) → (l == j) ≡ false → u.log l ≡ w.log l
  pub done : u.done ≡ w.done

module _ (P : Parts) (facts : IsProfile P) (j : ℕ) where
  pub changed_root : (side k : Side) (op : Op) (w : World)
      → cond (path_eq (root_at P side) (root_at P k)) (after (w.replica (root_at P k)) op) (w.replica (root_at P k))
      ≡ changed_at side op k (w.replica (root_at P k))
  changed_root Left Left op w = taken (path_eq (root_at P Left) (root_at P Left)) _ _ (paths_same (root_at P Left))
  changed_root Left Right op w = passed (path_eq (root_at P Left) (root_at P Right)) _ _ (left_not_right P facts j)
  changed_root Right Left op w = passed (path_eq (root_at P Right) (root_at P Left)) _ _ (right_not_left P facts j)
  changed_root Right Right op w = taken (path_eq (root_at P Right) (root_at P Right)) _ _ (paths_same (root_at P Right))

  event_for : (side : Side) (op : Op) (w : World) → replicas_for P j (event P j side op w (Some (root_at P side))) ≡ act_on P j (replicas_for P j w) (Ask side op)
  event_for side op w =
      let log = taken (j == j) (w.log j ++ logged P j side op (w.replica (root_at P side)) ∷ []) (w.log j) (itself j)
      ∙ ap (λ m. w.log j ++ logged P j side op m ∷ []) (on_side_for P j side w) in
      λ i. record {
        log = log i;
        left = changed_root side Left op w i;
        right = changed_root side Right op w i;
      }

  pub asked_for : (side : Side) (op : Op) (w : World) → replicas_for P j (act P j w (Ask side op)) ≡ act_on P j (replicas_for P j w) (Ask side op)
  asked_for side op w = ap (λ o. replicas_for P j (event P j side op w o)) (side_root P facts j side) ∙ event_for side op w

  not_own : (side : Side) (r : Path) → has_root P r ≡ false → path_eq (root_at P side) r ≡ false
  not_own side r h =
      false_from_ne_true (path_eq (root_at P side) r)
      (λ e. false≢true (sym h ∙ subst (λ x. has_root P x ≡ true) (same_paths (root_at P side) r e) (has_its_root P side (root_at P side) (side_root P facts j side))))

  event_own : (side : Side) (op : Op) (w : World) → IsOwnWork P j w (event P j side op w (Some (root_at P side)))
  event_own side op w = record {
    replicas = λ r h. passed (path_eq (root_at P side) r) (after (w.replica r) op) (w.replica r) (not_own side r h);
    archive = refl;
    logs = λ l h. passed (l == j) (w.log l ++ logged P j side op (w.replica (root_at P side)) ∷ []) (w.log l) h;
    done = refl;
  }

  pub asked_own : (side : Side) (op : Op) (w : World) → IsOwnWork P j w (act P j w (Ask side op))
  asked_own side op w = subst (λ o. IsOwnWork P j w (event P j side op w o)) (sym (side_root P facts j side)) (event_own side op w)

  pub own_more : (w v u : World) → IsOwnWork P j w v → IsOwnWork P j v u → IsOwnWork P j w u
  own_more w v u a b = record {
    replicas = λ r h. b.replicas r h ∙ a.replicas r h;
    archive = b.archive ∙ a.archive;
    logs = λ l h. b.logs l h ∙ a.logs l h;
    done = b.done ∙ a.done;
  }

  -- The job has ended: before its last turn it had no more to ask.
  abbrev pub HasEnded : World → World → Type 0
  HasEnded w v = (m : ℕ) × (u : World) × IsOwnWork P j w u
      × (replicas_for P j u ≡ pair_run P (archive_for P w) j m (replicas_for P j w))
      × (next P (archive_for P w) (u.log j) ≡ Finished) × (v ≡ ending P j u)

  module _ (Ps : List Parts) (is : slice_get Ps j ≡ Some P) where
    pub turn_is : (w : World) → turn Ps j w ≡ act P j w (next_for P j w)
    unfolding turn
    turn_is w = ap (turn_of j w) is

    rests : (n : ℕ) (w : World) → w.done j ≡ true → after_turns (turn Ps) (replicate n j) w ≡ w
    rests zero w d = refl
    rests (suc n) w d =
        ap (after_turns (turn Ps) (replicate n j)) (turn_is w ∙ ap (act P j w) (taken (w.done j) Stopped (next P (archive_for P w) (w.log j)) d))
        ∙ rests n w d

    ended_first : (n : ℕ) (w : World) → next P (archive_for P w) (w.log j) ≡ Finished → HasEnded w (after_turns (turn Ps) (replicate n j) (ending P j w))
    unfolding pair_run
    ended_first n w e = (
      0,
      w,
      record { replicas = λ r h. refl; archive = refl; logs = λ l h. refl; done = refl },
      refl,
      e,
      rests n (ending P j w) (taken (j == j) true (w.done j) (itself j)),
    )

    ended_later : (side : Side) (op : Op) (w v : World) → next P (archive_for P w) (w.log j) ≡ Ask side op → HasEnded (act P j w (Ask side op)) v → HasEnded w v
    unfolding pair_run
    ended_later side op w v e (m, u, own, same, fin, is) =
        let first = asked_own side op w in
        let O : archive_for P (act P j w (Ask side op)) ≡ archive_for P w = ap (λ a. a (pair_of P)) first.archive in (
          suc m,
          u,
          own_more w (act P j w (Ask side op)) u first own,
          same ∙ ((λ i. pair_run P (O i) j m (asked_for side op w i)) ∙ ap (λ n. pair_run P (archive_for P w) j m (act_on P j (replicas_for P j w) n)) (sym e)),
          ap (λ N. next P N (u.log j)) (sym O) ∙ fin,
          is,
        )

    ends_by : (n : ℕ) (w v : World) (x : Next) → next P (archive_for P w) (w.log j) ≡ x
        → ((u : World) → u.done j ≡ false → (after_turns (turn Ps) (replicate n j) u).done j ≡ true → HasEnded u (after_turns (turn Ps) (replicate n j) u))
        → w.done j ≡ false → (after_turns (turn Ps) (replicate n j) (act P j w x)).done j ≡ true
        → HasEnded w (after_turns (turn Ps) (replicate n j) (act P j w x))
    ends_by n w v (Ask side op) e more f d =
        ended_later side op w (after_turns (turn Ps) (replicate n j) (act P j w (Ask side op))) e
        (more (act P j w (Ask side op)) (ap (λ b. b j) (asked_own side op w).done ∙ f) d)
    ends_by n w v Finished e more f d = ended_first n w e
    ends_by n w v Stopped e more f d = more w f d

    pub ends : (n : ℕ) (w : World) → w.done j ≡ false → (after_turns (turn Ps) (replicate n j) w).done j ≡ true → HasEnded w (after_turns (turn Ps) (replicate n j) w)
    ends zero w f d = absurd (false≢true (sym f ∙ d))
    ends (suc n) w f d =
        let does_it : turn Ps j w ≡ act P j w (next P (archive_for P w) (w.log j)) = turn_is w ∙ ap (act P j w) (passed (w.done j) Stopped (next P (archive_for P w) (w.log j)) f) in
        subst (λ u. HasEnded w (after_turns (turn Ps) (replicate n j) u)) (sym does_it)
        (ends_by n w w (next P (archive_for P w) (w.log j)) refl (ends n) f (ap (λ u. (after_turns (turn Ps) (replicate n j) u).done j) (sym does_it) ∙ d))

    -- Or it has not ended, and has done what it does on two replicas that nobody else changes.
    abbrev Works : ℕ → World → World → Type 0
    Works n w v = (v.done j ≡ false) × (archive_for P v ≡ archive_for P w) × (replicas_for P j v ≡ pair_run P (archive_for P w) j n (replicas_for P j w))

    works_later : (n : ℕ) (w v : World) (x : Next) (u : World) → next P (archive_for P w) (w.log j) ≡ x → act P j w x ≡ u → archive_for P u ≡ archive_for P w
        → replicas_for P j u ≡ act_on P j (replicas_for P j w) x → (v.done j ≡ true) ⊎ Works n u v → (v.done j ≡ true) ⊎ Works (suc n) w v
    unfolding pair_run
    works_later n w v x u e is O step (inl d) = inl d
    works_later n w v x u e is O step (inr (d, a, s)) =
        inr (d, a ∙ O, s ∙ ((λ i. pair_run P (O i) j n (step i)) ∙ ap (λ y. pair_run P (archive_for P w) j n (act_on P j (replicas_for P j w) y)) (sym e)))

    works_by : (n : ℕ) (w : World) (x : Next) → next P (archive_for P w) (w.log j) ≡ x
        → ((u : World) → u.done j ≡ false → ((after_turns (turn Ps) (replicate n j) u).done j ≡ true) ⊎ Works n u (after_turns (turn Ps) (replicate n j) u))
        → w.done j ≡ false
        → ((after_turns (turn Ps) (replicate n j) (act P j w x)).done j ≡ true) ⊎ Works (suc n) w (after_turns (turn Ps) (replicate n j) (act P j w x))
    works_by n w (Ask side op) e more f =
        let u = act P j w (Ask side op) in
        works_later n w (after_turns (turn Ps) (replicate n j) u) (Ask side op) u e refl (ap (λ a. a (pair_of P)) (asked_own side op w).archive)
        (asked_for side op w) (more u (ap (λ b. b j) (asked_own side op w).done ∙ f))
    works_by n w Finished e more f =
        inl (ap (λ (u : World). u.done j) (rests n (ending P j w) (taken (j == j) true (w.done j) (itself j))) ∙ taken (j == j) true (w.done j) (itself j))
    works_by n w Stopped e more f = works_later n w (after_turns (turn Ps) (replicate n j) w) Stopped w e refl refl refl (more w f)

    works : (n : ℕ) (w : World) → w.done j ≡ false → ((after_turns (turn Ps) (replicate n j) w).done j ≡ true) ⊎ Works n w (after_turns (turn Ps) (replicate n j) w)
    unfolding pair_run
    works zero w f = inr (f, refl, refl)
    works (suc n) w f =
        let does_it : turn Ps j w ≡ act P j w (next P (archive_for P w) (w.log j)) = turn_is w ∙ ap (act P j w) (passed (w.done j) Stopped (next P (archive_for P w) (w.log j)) f) in
        subst (λ u. ((after_turns (turn Ps) (replicate n j) u).done j ≡ true) ⊎ Works (suc n) w (after_turns (turn Ps) (replicate n j) u)) (sym does_it)
        (works_by n w (next P (archive_for P w) (w.log j)) refl (works n) f)

    -- The last of its turns.
    pub last_turn : (n : ℕ) (w : World) → after_turns (turn Ps) (replicate (suc n) j) w ≡ turn Ps j (after_turns (turn Ps) (replicate n j) w)
    last_turn zero w = refl
    last_turn (suc n) w = last_turn n (turn Ps j w)

    ends_now : (v : World) → next P (archive_for P v) (v.log j) ≡ Finished → v.done j ≡ false → (turn Ps j v).done j ≡ true
    ends_now v e f =
        ap (λ (u : World). u.done j) (turn_is v ∙ (ap (act P j v) (passed (v.done j) Stopped (next P (archive_for P v) (v.log j)) f ∙ e)))
        ∙ taken (j == j) true (v.done j) (itself j)

    ended_by_turn : (v : World) → v.done j ≡ true → (turn Ps j v).done j ≡ true
    ended_by_turn v d = ap (λ (u : World). u.done j) (rests 1 v d) ∙ d

    module _ (w : World) (none : w.log j ≡ []) (f : w.done j ≡ false) (left : IsTree (w.replica (root_at P Left))) (right : IsTree (w.replica (root_at P Right))) where
      enough_by : (n : ℕ) (v : World) → turns_bound P (w.replica (root_at P Left)) (w.replica (root_at P Right)) ≤ n
          → (v.done j ≡ true) ⊎ Works n w v → (turn Ps j v).done j ≡ true
      enough_by n v l (inl d) = ended_by_turn v d
      enough_by n v l (inr (d, a, s)) =
          let A = w.replica (root_at P Left) in
          let B = w.replica (root_at P Right) in
          let O = archive_for P w in
          let opens : replicas_for P j w ≡ pair_opening A B = λ i. record { log = none i; left = A; right = B } in
          let reached : replicas_for P j v ≡ pair_run P O j n (pair_opening A B) = s ∙ ap (pair_run P O j n) opens in
          let fin : next P O (v.log j) ≡ Finished = ap (λ (x : Replicas). next P O x.log) reached ∙ (job_ends P facts A B O left right j n l).finished in
          ends_now v (ap (λ N. next P N (v.log j)) a ∙ fin) d

      pub enough : (n : ℕ) → turns_bound P (w.replica (root_at P Left)) (w.replica (root_at P Right)) < n → (after_turns (turn Ps) (replicate n j) w).done j ≡ true
      enough zero l = absurd (omega (arith, l))
      enough (suc n) l = ap (λ (u : World). u.done j) (last_turn n w) ∙ enough_by n (after_turns (turn Ps) (replicate n j) w) (omega (arith, l)) (works n w f)

  -- Then it has synchronized.
  pub synchronized : (w u : World) (m : ℕ) → ((k : Side) → IsTree (w.replica (root_at P k))) → w.log j ≡ [] → IsOwnWork P j w u
      → replicas_for P j u ≡ pair_run P (archive_for P w) j m (replicas_for P j w)
      → next P (archive_for P w) (u.log j) ≡ Finished
      → IsSyncOf P j w (ending P j u)
  synchronized w u m trees none own same fin =
      let A = w.replica (root_at P Left) in
      let B = w.replica (root_at P Right) in
      let O = archive_for P w in
      let opens : replicas_for P j w ≡ pair_opening A B = λ i. record { log = none i; left = A; right = B } in
      let reached : replicas_for P j u ≡ pair_run P O j m (pair_opening A B) = same ∙ ap (pair_run P O j m) opens in
      let s : IsSynced P A B O (replicas_for P j u) =
      subst (λ x. IsSynced P A B O x) (sym reached) (is_synced P facts A B O (trees Left) (trees Right) j m (ap (λ (x : Replicas). next P O x.log) (sym reached) ∙ fin)) in
      let kept : u.archive (pair_of P) ≡ O = ap (λ a. a (pair_of P)) own.archive in
      let new : archive_for P (ending P j u) ≡ next_archive (view_of P A B O) O =
      taken (pair_eq (pair_of P) (pair_of P)) (archive_after P (u.archive (pair_of P)) (u.log j)) (u.archive (pair_of P)) (own_pair (pair_of P))
      ∙ (ap (λ N. archive_after P N (u.log j)) kept ∙ ap (λ V. next_archive V O) s.view) in
      record {
        contents = λ k q. ap (λ x. contents_at x q) (on_side_for P j k u) ∙ s.contents k q;
        marks = λ q. ap (λ N. old_mark_at N q) new ∙ archived P A B O q;
        ok = s.ok;
        items = taken (j == j) (items (view_in P (archive_for P u) (u.log j))) (u.items j) (itself j)
            ∙ (ap (λ N. items (view_in P N (u.log j))) kept ∙ ap items s.view);
        replicas = own.replicas;
        archives = λ k h. passed (pair_eq (pair_of P) k) (archive_after P (u.archive k) (u.log j)) (u.archive k) h ∙ ap (λ a. a k) own.archive;
      }

  -- Nothing is refused to it, whether it has ended or not.
  module _ (Ps : List Parts) (is : slice_get Ps j ≡ Some P) where
    refused_stays : (O : Archive) (n : ℕ) (w : Replicas) → list_any (λ (e : Logged). is_refused e.step.answer) w.log ≡ true
        → list_any (λ (e : Logged). is_refused e.step.answer) (pair_run P O j n w).log ≡ true
    unfolding pair_run
    refused_stays O zero w h = h
    refused_stays O (suc n) w h = refused_stays O n (act_on P j w (next P O w.log)) (refused_after w (next P O w.log) h)
      where
        refused_after : (w : Replicas) (x : Next) → list_any (λ (e : Logged). is_refused e.step.answer) w.log ≡ true
            → list_any (λ (e : Logged). is_refused e.step.answer) (act_on P j w x).log ≡ true
        refused_after w (Ask side op) h =
            list_any-append (λ (e : Logged). is_refused e.step.answer) w.log (logged P j side op (on_side w side) ∷ [])
            ∙ or_left (list_any (λ (e : Logged). is_refused e.step.answer) w.log) _ h
        refused_after w Finished h = h
        refused_after w Stopped h = h

    unrefused_by : (w v : World) (n : ℕ) → ((k : Side) → IsTree (w.replica (root_at P k))) → w.log j ≡ [] → w.done j ≡ false → v ≡ after_turns (turn Ps) (replicate n j) w
        → (v.done j ≡ true) ⊎ Works Ps is n w v → list_any (λ (e : Logged). is_refused e.step.answer) (v.log j) ≡ false
    unrefused_by w v n trees none f at (inl d) =
        let h = ends Ps is n w f (ap (λ (x : World). x.done j) (sym at) ∙ d) in
        ap (λ (x : World). list_any (λ (e : Logged). is_refused e.step.answer) (x.log j)) (at ∙ h.5)
        ∙ (synchronized w h.1 h.0 trees none h.2 h.3 h.4).ok
    unrefused_by w v n trees none f at (inr (d, a, s)) =
        let A = w.replica (root_at P Left) in
        let B = w.replica (root_at P Right) in
        let O = archive_for P w in
        let opens : replicas_for P j w ≡ pair_opening A B = λ i. record { log = none i; left = A; right = B } in
        let reached : replicas_for P j v ≡ pair_run P O j n (pair_opening A B) = s ∙ ap (pair_run P O j n) opens in
        let whole = job_ends P facts A B O (trees Left) (trees Right) j (add n (turns_bound P A B)) (within_sum n (turns_bound P A B)) in
        false_from_ne_true (list_any (λ (e : Logged). is_refused e.step.answer) (v.log j))
        (λ h. false≢true (sym whole.ok
        ∙ (ap (λ (x : Replicas). list_any (λ (e : Logged). is_refused e.step.answer) x.log) (run_on P O j n (turns_bound P A B) (pair_opening A B))
        ∙ refused_stays O (turns_bound P A B) (pair_run P O j n (pair_opening A B))
        (ap (λ (x : Replicas). list_any (λ (e : Logged). is_refused e.step.answer) x.log) (sym reached) ∙ h))))

    pub unrefused : (n : ℕ) (w : World) → ((k : Side) → IsTree (w.replica (root_at P k))) → w.log j ≡ [] → w.done j ≡ false
        → list_any (λ (e : Logged). is_refused e.step.answer) ((after_turns (turn Ps) (replicate n j) w).log j) ≡ false
    unrefused n w trees none f = unrefused_by w (after_turns (turn Ps) (replicate n j) w) n trees none f refl (works Ps is n w f)

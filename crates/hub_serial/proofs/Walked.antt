-- A job that takes its turns alone, where its log and what it does to its two roots are known.
use Rattle.std.proofs.Common.{◌≡◌, Bool, true, false, cond, ◌||◌, List, [], ◌∷◌, ◌++◌, length, map, Option, Some, None, refl, ap, sym, ◌∙◌, subst, append_assoc, append-nil}
use Rattle.std.specs.Prelude.{◌==◌, ℕ, filter, slice_get, replicate}
use Rattle.std.specs.List.{list_any}
use Rattle.std.specs.FinMap as fin
use Rattle.std.proofs.lemmas.Bool.{false≢true}
use Rattle.std.proofs.lemmas.Option.{same_Some}
use Rattle.hub_path.specs.Path.{Path, path_eq}
use Rattle.hub_path.specs.declared.side.Side.{Side}
use Rattle.hub_path.specs.declared.side.Side.TheVariants.{Left, Right}
use Rattle.hub_profile.specs.Parts.{Parts, IsProfile, at_side, is_root_at, some_passes}
use Rattle.hub_reach.specs.Reach.{has_root}
use Rattle.hub_tree.specs.Tree.{Replica, Archive}
use Rattle.hub_reconcile.specs.Sides.{side_eq}
use Rattle.hub_reconcile.specs.Sync.{root_or_top}
use Rattle.hub_reconcile.specs.laws.Views.{same_paths, paths_same}
use Rattle.hub_job.specs.declared.op.Next.TheVariants.{Ask, Finished}
use Rattle.hub_job.specs.declared.log.Entry.{Entry}
use Rattle.hub_job.specs.declared.log.Logged.{Logged}
use Rattle.hub_job.specs.Machine.{answer}
use Rattle.hub_job.specs.History.{replay, IsAnswerOf, IsLegal, entries_at}
use Rattle.hub_reconcile.specs.Items.{items}
use Rattle.hub_job.specs.Job.{next, sights, view_in}
use Rattle.hub_job.specs.Run.{Runs, changed_at, logged, root_at}
use Rattle.hub_job.specs.laws.Roots.{side_root, left_not_right, right_not_left, two_roots}
use Rattle.hub_serial.specs.Schedule.{after_turns}
use Rattle.hub_serial.specs.World.{World, act, archive_for, event, ending, pair_eq, pair_of, turn}
use Rattle.hub_job.specs.Ends.{archive_after}
use Rattle.hub_serial.specs.RunRecord.{with_marks_by}
use Rattle.hub_serial.proofs.Traces.{itself}
use Rattle.hub_serial.proofs.OldMarks.{SameReached, items_alike, next_alike}
use Rattle.hub_serial.proofs.Lone.{passed, taken, IsOwnWork, changed_root, asked_own, own_more, turn_is}

-- A profile has no other roots than its two.
pub root_side : (P : Parts) → IsProfile P → (r : Path) → has_root P r ≡ true → (k : Side) × (root_at P k ≡ r)
root_side P facts r h =
    let two = two_roots P.roots facts.roots in
    let first : root_at P Left ≡ two.first = ap (λ rs. root_or_top (at_side rs Left)) two.are in
    let second : root_at P Right ≡ two.second = ap (λ rs. root_or_top (at_side rs Right)) two.are in
    let there : (path_eq two.first r || (path_eq two.second r || false)) ≡ true = sym (ap (λ rs. list_any (λ own. path_eq own r) rs) two.are) ∙ h in
    elim (path_eq two.first r) as (λ b. path_eq two.first r ≡ b → (b || (path_eq two.second r || false)) ≡ true → (k : Side) × (root_at P k ≡ r)) [
      | true ↦ λ e g. (Left, first ∙ same_paths two.first r e)
      | false ↦ λ e g. elim (path_eq two.second r) as (λ b. path_eq two.second r ≡ b → (b || false) ≡ true → (k : Side) × (root_at P k ≡ r)) [
        | true ↦ λ f k. (Right, second ∙ same_paths two.second r f)
        | false ↦ λ f k. absurd (false≢true k)
      ] refl g
    ] refl there

pub entries_cons : (P : Parts) (r : Path) (e : Logged) (es : List Logged) (b : Bool) → is_root_at P r e.side ≡ b
    → entries_at P r (e ∷ es) ≡ cond b (e.step ∷ entries_at P r es) (entries_at P r es)
entries_cons P r e es true h = ap (λ b. map (λ (e : Logged). e.step) (cond b (e ∷ filter (λ (e : Logged). is_root_at P r e.side) es) (filter (λ (e : Logged). is_root_at P r e.side) es))) h
entries_cons P r e es false h = ap (λ b. map (λ (e : Logged). e.step) (cond b (e ∷ filter (λ (e : Logged). is_root_at P r e.side) es) (filter (λ (e : Logged). is_root_at P r e.side) es))) h

module _ (P : Parts) (facts : IsProfile P) (i : ℕ) (Ps : List Parts) (is : slice_get Ps i ≡ Some P) where
  root_of_side : (k s : Side) → path_eq (root_at P k) (root_at P s) ≡ side_eq s k
  root_of_side Left Left = paths_same (root_at P Left)
  root_of_side Left Right = left_not_right P facts i
  root_of_side Right Left = right_not_left P facts i
  root_of_side Right Right = paths_same (root_at P Right)

  root_of : (k s : Side) → is_root_at P (root_at P k) s ≡ side_eq s k
  root_of k s = ap (some_passes (path_eq (root_at P k))) (side_root P facts i s) ∙ root_of_side k s

  legal_more : (s k : Side) (x : Entry) (rest : List Entry) (m : Replica) → IsLegal Ps (root_at P k) m (cond (side_eq s k) (x ∷ rest) rest)
      → IsLegal Ps (root_at P k) (changed_at s x.op k m) rest
  legal_more Left Left x rest m l = l.1
  legal_more Left Right x rest m l = l
  legal_more Right Left x rest m l = l
  legal_more Right Right x rest m l = l.1

  answer_here : (s : Side) (x : Entry) (rest : List Entry) (m : Replica) → IsLegal Ps (root_at P s) m (cond (side_eq s s) (x ∷ rest) rest)
      → IsAnswerOf (root_at P s) m x (slice_get Ps x.job)
  answer_here Left x rest m l = l.0
  answer_here Right x rest m l = l.0

  replay_more : (s k : Side) (x : Entry) (rest : List Entry) (m : Replica) → replay (changed_at s x.op k m) rest ≡ replay m (cond (side_eq s k) (x ∷ rest) rest)
  replay_more Left Left x rest m = refl
  replay_more Left Right x rest m = refl
  replay_more Right Left x rest m = refl
  replay_more Right Right x rest m = refl

  abbrev pub Root : Side → Path
  Root k = root_at P k

  pub record HasWalked (front es : List Logged) (w v : World) : Type 0 where
    pub log : v.log i ≡ front ++ es
    pub roots : (k : Side) → v.replica (Root k) ≡ replay (w.replica (Root k)) (entries_at P (Root k) es)
    pub own : IsOwnWork P i w v

  -- The replicas and the log after one operation.
  root_after : (s k : Side) (e : Logged) (w : World) → (act P i w (Ask s e.step.op)).replica (Root k) ≡ changed_at s e.step.op k (w.replica (Root k))
  root_after s k e w = ap (λ o. (event P i s e.step.op w o).replica (Root k)) (side_root P facts i s) ∙ changed_root P facts i s k e.step.op w

  log_after : (e : Logged) (w : World) → e.step.job ≡ i → e.step.answer ≡ answer (w.replica (Root e.side)) P (Root e.side) e.step.op
      → (act P i w (Ask e.side e.step.op)).log i ≡ w.log i ++ e ∷ []
  log_after e w j a =
      ap (λ o. (event P i e.side e.step.op w o).log i) (side_root P facts i e.side)
      ∙ (taken (i == i) (w.log i ++ logged P i e.side e.step.op (w.replica (Root e.side)) ∷ []) (w.log i) (itself i)
      ∙ sym (λ z. w.log i ++ record { side = e.side; step = record { job = j z; op = e.step.op; answer = a z } } ∷ []))

  answered_by : (m : Replica) (e : Logged) (o : Option Parts) → o ≡ Some P → IsAnswerOf (Root e.side) m e.step o → e.step.answer ≡ answer m P (Root e.side) e.step.op
  answered_by m e None f a = absurd a
  answered_by m e (Some Q) f a = a.1 ∙ ap (λ R. answer m R (Root e.side) e.step.op) (same_Some Q P f)

  walked_more : (front es : List Logged) (e : Logged) (w u v : World) → u ≡ act P i w (Ask e.side e.step.op) → HasWalked (front ++ e ∷ []) es u v → HasWalked front (e ∷ es) w v
  walked_more front es e w u v at more = record {
    log = more.log ∙ append_assoc front (e ∷ []) es;
    roots = λ k.
        more.roots k
        ∙ (ap (λ (x : World). replay (x.replica (Root k)) (entries_at P (Root k) es)) at
        ∙ (ap (λ m. replay m (entries_at P (Root k) es)) (root_after e.side k e w)
        ∙ (replay_more e.side k e.step (entries_at P (Root k) es) (w.replica (Root k))
        ∙ sym (ap (replay (w.replica (Root k))) (entries_cons P (Root k) e es (side_eq e.side k) (root_of k e.side))))));
    own = own_more P facts i w u v (subst (λ x. IsOwnWork P i w x) (sym at) (asked_own P facts i e.side e.step.op w)) more.own;
  }

  pub walk : (O : Archive) (es front : List Logged) (w : World) → w.done i ≡ false → w.log i ≡ front → SameReached P O (archive_for P w) → Runs P O i front es
      → ((k : Side) → IsLegal Ps (Root k) (w.replica (Root k)) (entries_at P (Root k) es)) → HasWalked front es w (after_turns (turn Ps) (replicate (length es) i) w)
  walk O [] front w f at given runs legal = record {
    log = at ∙ sym (append-nil front);
    roots = λ k. refl;
    own = record { replicas = λ r h. refl; archive = refl; logs = λ l h. refl; done = refl };
  }
  walk O (e ∷ es) front w f at given runs legal =
      let asks : next P (archive_for P w) (w.log i) ≡ Ask e.side e.step.op =
      sym (next_alike P O (archive_for P w) given (w.log i)) ∙ (ap (next P O) at ∙ runs.0) in
      let u = act P i w (Ask e.side e.step.op) in
      let does_it : turn Ps i w ≡ u = turn_is P facts i Ps is w ∙ ap (act P i w) (passed (w.done i) _ (next P (archive_for P w) (w.log i)) f ∙ asks) in
      let here : IsAnswerOf (Root e.side) (w.replica (Root e.side)) e.step (slice_get Ps e.step.job) =
      answer_here e.side e.step (entries_at P (Root e.side) es) (w.replica (Root e.side))
      (subst (λ xs. IsLegal Ps (Root e.side) (w.replica (Root e.side)) xs) (entries_cons P (Root e.side) e es (side_eq e.side e.side) (root_of e.side e.side)) (legal e.side)) in
      let a = answered_by (w.replica (Root e.side)) e (slice_get Ps e.step.job) (ap (slice_get Ps) runs.2 ∙ is) here in
      let own = asked_own P facts i e.side e.step.op w in
      let more : HasWalked (front ++ e ∷ []) es u (after_turns (turn Ps) (replicate (length es) i) u) =
      walk O es (front ++ e ∷ []) u (ap (λ d. d i) own.done ∙ f) (log_after e w runs.2 a ∙ ap (λ l. l ++ e ∷ []) at)
      (λ q h. given q h ∙ ap (λ ar. fin.get (ar (pair_of P)) q) (sym own.archive))
      runs.3
      (λ k. subst (λ m. IsLegal Ps (Root k) m (entries_at P (Root k) es)) (sym (root_after e.side k e w))
      (legal_more e.side k e.step (entries_at P (Root k) es) (w.replica (Root k))
      (subst (λ xs. IsLegal Ps (Root k) (w.replica (Root k)) xs) (entries_cons P (Root k) e es (side_eq e.side k) (root_of k e.side)) (legal k)))) in
      walked_more front es e w (turn Ps i w) (after_turns (turn Ps) (replicate (length es) i) (turn Ps i w)) does_it
      (subst (λ x. HasWalked (front ++ e ∷ []) es x (after_turns (turn Ps) (replicate (length es) i) x)) (sym does_it) more)

  -- What a job has done with all its turns, its end among them or not.
  pub record HasWorked (O : Archive) (ended : Bool) (es : List Logged) (w v : World) : Type 0 where
    pub log : v.log i ≡ es
    pub roots : (k : Side) → v.replica (Root k) ≡ replay (w.replica (Root k)) (entries_at P (Root k) es)
    pub others : (r : Path) → has_root P r ≡ false → v.replica r ≡ w.replica r
    pub done : v.done i ≡ ended
    pub items : ended ≡ true → v.items i ≡ items (view_in P O es)
    pub marks : v.archive ≡ cond ended (with_marks_by w.archive es (Some P)) w.archive

  pub worked : (O : Archive) (es : List Logged) (w v : World) → w.done i ≡ false → HasWalked [] es w v → HasWorked O false es w v
  worked O es w v f h = record {
    log = h.log;
    roots = h.roots;
    others = h.own.replicas;
    done = ap (λ d. d i) h.own.done ∙ f;
    items = λ d. absurd (false≢true d);
    marks = h.own.archive;
  }

  -- With one more turn it ends.
  pub worked_end : (O : Archive) (es : List Logged) (w v : World) → w.done i ≡ false → SameReached P O (archive_for P w) → next P O es ≡ Finished
      → HasWalked [] es w v → HasWorked O true es w (turn Ps i v)
  worked_end O es w v f given fin h =
      let alike : next P (archive_for P v) (v.log i) ≡ Finished =
      ap (λ ar. next P (ar (pair_of P)) (v.log i)) h.own.archive ∙ (sym (next_alike P O (archive_for P w) given (v.log i)) ∙ (ap (next P O) h.log ∙ fin)) in
      let does_it : turn Ps i v ≡ ending P i v = turn_is P facts i Ps is v ∙ ap (act P i v) (passed (v.done i) _ (next P (archive_for P v) (v.log i)) (ap (λ d. d i) h.own.done ∙ f) ∙ alike) in
      subst (λ x. HasWorked O true es w x) (sym does_it) (record {
        log = h.log;
        roots = h.roots;
        others = h.own.replicas;
        done = taken (i == i) true (v.done i) (itself i);
        items = λ d.
            taken (i == i) (items (view_in P (archive_for P v) (v.log i))) (v.items i) (itself i)
            ∙ (ap (λ ar. items (view_in P (ar (pair_of P)) (v.log i))) h.own.archive
            ∙ (sym (items_alike P O (archive_for P w) given (sights (v.log i))) ∙ ap (λ l. items (view_in P O l)) h.log));
        marks = λ z k. cond (pair_eq (pair_of P) k) (archive_after P (h.own.archive z k) (h.log z)) (h.own.archive z k);
      })

-- Each Set that a job alone asks for is allowed by the contents that it finds.
use Rattle.std.proofs.Common.{◌≡◌, ◌<◌, ◌-◌, inl, inr, true, false, List, [], ◌∷◌, ◌++◌, length, Option, Some, None, refl, ap, sym, ◌∙◌, subst, arith, append_assoc, append-nil}
use Rattle.std.specs.Prelude.{ℕ, zero, suc, pred}
use Rattle.std.proofs.lemmas.Bool.{cases_lt}
use Rattle.hub_path.specs.Path.{Path}
use Rattle.hub_path.specs.declared.side.Side.{Side}
use Rattle.hub_path.specs.declared.side.Side.TheVariants.{Left, Right}
use Rattle.hub_profile.specs.Parts.{Parts, IsProfile, some_passes}
use Rattle.hub_reach.specs.Reach.{may_at}
use Rattle.hub_tree.specs.Sets.{sets, each}
use Rattle.hub_tree.specs.Tree.{Replica, Archive, IsTree, contents_at, mark_at, mark_of}
use Rattle.hub_tree.specs.declared.contents.Contents.{Contents}
use Rattle.hub_tree.specs.declared.contents.Contents.TheVariants as contents
use Rattle.hub_tree.specs.declared.contents.Mark.{Mark}
use Rattle.hub_tree.specs.declared.contents.Mark.TheVariants as mark
use Rattle.hub_tree.specs.laws.Replacing.{sets_keep_the_rest}
use Rattle.hub_reconcile.specs.View.{View}
use Rattle.hub_reconcile.specs.Items.{other, plan, verb_of}
use Rattle.hub_reconcile.specs.Sides.{paths_on}
use Rattle.hub_reconcile.specs.Sync.{of_side, view_of}
use Rattle.hub_reconcile.specs.declared.change.Change.{Change}
use Rattle.hub_reconcile.specs.laws.Views.{mark_here}
use Rattle.hub_job.specs.declared.op.Op.{Op}
use Rattle.hub_job.specs.declared.op.Op.TheVariants.{Look, Fetch, Set}
use Rattle.hub_job.specs.declared.op.Next.{Next}
use Rattle.hub_job.specs.declared.op.Next.TheVariants.{Ask, Finished, Stopped}
use Rattle.hub_job.specs.declared.answer.Answer.TheVariants.{Bytes}
use Rattle.hub_job.specs.declared.log.Logged.{Logged}
use Rattle.hub_job.specs.Machine.{answer, fetched}
use Rattle.hub_job.specs.Job.{next, missing, view_in, is_refused, fetched_last, bytes_or, steps_of, steps, op_of, look_or, step_or_end}
use Rattle.hub_job.specs.declared.step.Step.{Step}
use Rattle.hub_job.specs.Run.{Pair, on_side, root_at, logged, act_on, pair_run, pair_opening}
use Rattle.hub_job.specs.laws.Making.{Ready, Made, flat_steps, turn_is, next_end, fetched_last-push, Ready-pushed, File-marked, directory_of, nothing_of, any_each, fetch_after, unchanged, marked, next_ask, steps_all, by_mark}
use Rattle.hub_job.specs.laws.Looking.{at, log_by, next_is, act_look, both_none, looked_view, looked_ready}
use Rattle.hub_job.specs.laws.Finishing.{stays_finished, rest_of}
use Rattle.hub_job.specs.laws.Roots.{side_root}
use Rattle.hub_schedule.proofs.Once.{change_allowed, not_before, change_reached}

-- An operation that is allowed by the contents of the replica that it is for; and what comes next.
abbrev pub AllowedOp : Parts → Pair → Side → Op → Type 0
AllowedOp P w k (Look d) = Unit {0}
AllowedOp P w k (Fetch p) = Unit {0}
AllowedOp P w k (Set p c) = may_at P (root_at P k) p (verb_of (mark_at (on_side w k) p) (mark_of c)) ≡ true

abbrev pub AllowedNext : Parts → Pair → Next → Type 0
AllowedNext P w (Ask k op) = AllowedOp P w k op
AllowedNext P w Finished = Unit {0}
AllowedNext P w Stopped = Unit {0}

module _ (P : Parts) (facts : IsProfile P) (A B : Replica) (O : Archive) (left : IsTree A) (right : IsTree B) (j : ℕ) where
  abbrev R : Side → Replica
  R k = of_side A B k

  abbrev V : View
  V = view_of P A B O

  abbrev s : Side → Path → Contents
  s k q = contents_at (R (other k)) q

  abbrev Maps : List Change → Pair → Type 0
  Maps done w = (k : Side) → sets (R k) (each (s k) (paths_on k done)) ≡ Some (on_side w k)

  abbrev Good : Pair → Type 0
  Good w = AllowedNext P w (next P O w.log)

  -- A change of the plan finds on its side what was there at the opening.
  set_allowed : (done todo : List Change) (c : Change) (w : Pair) → plan V ≡ done ++ c ∷ todo → Maps done w
      → AllowedNext P w (Ask c.side (Set c.path (s c.side c.path)))
  set_allowed done todo c w whole maps =
      let k = c.side in
      let here : contents_at (on_side w k) c.path ≡ contents_at (R k) c.path =
      sets_keep_the_rest (R k) (on_side w k) (each (s k) (paths_on k done)) c.path (maps k) (any_each c.path (s k) (paths_on k done) ∙ not_before P facts A B O left right done todo c k whole) in
      let seen : V.mark k c.path ≡ mark_at (R k) c.path = mark_here P A B O k c.path (change_reached P facts A B O left right done todo c whole) in
      let given : c.mark ≡ mark_of (s k c.path) = marked P facts A B O left right j done todo c whole in
      ap (λ x. may_at P (root_at P k) c.path (verb_of (mark_of x) (mark_of (s k c.path)))) here
      ∙ (ap (λ x. may_at P (root_at P k) c.path (verb_of x (mark_of (s k c.path)))) (sym seen)
      ∙ (ap (λ x. may_at P (root_at P k) c.path (verb_of (V.mark k c.path) x)) (sym given)
      ∙ (ap (some_passes (λ r. may_at P r c.path (verb_of (V.mark k c.path) c.mark))) (sym (side_root P facts j k)) ∙ change_allowed V done todo c whole)))

  module _ (L : List Logged) (view : view_in P O L ≡ V) (complete : (k : Side) → missing P L k ≡ None) where
    abbrev IsMade : List Change → Pair → Type 0
    IsMade done w = Made P facts A B O left right j L view complete done w

    good_by : (w : Pair) (n : Next) → next P O w.log ≡ n → AllowedNext P w n → Good w
    good_by w n e ok = subst (AllowedNext P w) (sym e) ok

    next_step : (front : List Step) (x : Step) (rest : List Step) (log : List Logged) → steps V ≡ front ++ x ∷ rest → Ready L front log → next P O log ≡ Ask x.side (op_of (fetched_last [] log) x)
    next_step front x rest log whole r = next_ask P facts A B O left right j L view complete front x rest log whole r

    plain_good : (done todo : List Change) (c : Change) (w : Pair) (x : Step) (m : Mark) → c.mark ≡ m → plan V ≡ done ++ c ∷ todo → IsMade done w → steps_of c.side c.path m ≡ x ∷ []
        → Ask x.side (op_of (fetched_last [] w.log) x) ≡ Ask c.side (Set c.path (s c.side c.path)) → Good w
    plain_good done todo c w x m e whole made one asks =
        let rest : steps V ≡ flat_steps done ++ x ∷ flat_steps todo = steps_all P facts A B O left right j L view complete done todo c m e whole ∙ ap (λ xs. flat_steps done ++ (xs ++ flat_steps todo)) one in
        good_by w (Ask c.side (Set c.path (s c.side c.path))) (next_step (flat_steps done) x (flat_steps todo) w.log rest made.0 ∙ asks) (set_allowed done todo c w whole made.1)

    -- Before and after the Fetch of a change to a file.
    filed_good : (done todo : List Change) (c : Change) (w : Pair) (d b : List ℕ) (n : ℕ) → c.mark ≡ mark.File d → plan V ≡ done ++ c ∷ todo → IsMade done w → s c.side c.path ≡ contents.File b → n < 2 → Good (pair_run P O j n w)
    unfolding answer pair_run
    filed_good done todo c w d b zero e whole made file l =
        let first : Step = record { side = other c.side; path = c.path; fetches = true; mark = mark.File d } in
        let second : Step = record { side = c.side; path = c.path; fetches = false; mark = mark.File d } in
        let all : steps V ≡ flat_steps done ++ first ∷ second ∷ flat_steps todo = steps_all P facts A B O left right j L view complete done todo c (mark.File d) e whole in
        good_by w (Ask (other c.side) (Fetch c.path)) (next_step (flat_steps done) first (second ∷ flat_steps todo) w.log all made.0) tt
    filed_good done todo c w d b (suc zero) e whole made file l =
        let k = c.side in
        let first : Step = record { side = other k; path = c.path; fetches = true; mark = mark.File d } in
        let second : Step = record { side = k; path = c.path; fetches = false; mark = mark.File d } in
        let all : steps V ≡ flat_steps done ++ first ∷ second ∷ flat_steps todo = steps_all P facts A B O left right j L view complete done todo c (mark.File d) e whole in
        let n = next_step (flat_steps done) first (second ∷ flat_steps todo) w.log all made.0 in
        let u = act_on P j w (Ask (other k) (Fetch c.path)) in
        let entry = logged P j (other k) (Fetch c.path) (on_side w (other k)) in
        let gave : fetched (contents_at (on_side w (other k)) c.path) ≡ Bytes b = ap fetched (unchanged P facts A B O left right j done todo c w whole made.1 ∙ file) in
        let ready : Ready L (flat_steps done ++ first ∷ []) u.log = Ready-pushed L w.log (flat_steps done) first entry refl (ap is_refused gave) refl made.0 in
        let held : fetched_last [] u.log ≡ b = fetched_last-push [] w.log entry ∙ ap (bytes_or (fetched_last [] w.log)) gave in
        let maps : Maps done u = λ i. made.1 i ∙ ap (λ m. Some m) (sym (fetch_after P j w (other k) i c.path)) in
        let more : steps V ≡ (flat_steps done ++ first ∷ []) ++ second ∷ flat_steps todo = all ∙ sym (append_assoc (flat_steps done) (first ∷ []) (second ∷ flat_steps todo)) in
        let asks : next P O u.log ≡ Ask k (Set c.path (s k c.path)) =
        next_step (flat_steps done ++ first ∷ []) second (flat_steps todo) u.log more ready ∙ ap (λ x. Ask k (Set c.path x)) (ap (λ b. contents.File b) held ∙ sym file) in
        subst (λ (v : Pair). Good v) (sym (turn_is P O j 0 w (Ask (other k) (Fetch c.path)) n)) (good_by u (Ask k (Set c.path (s k c.path))) asks (set_allowed done todo c u whole maps))
    filed_good done todo c w d b (suc (suc n)) e whole made file l = absurd (omega (arith, l))

    -- While a change is made.
    early : (done todo : List Change) (c : Change) (w : Pair) (m : Mark) (n : ℕ) → c.mark ≡ m → plan V ≡ done ++ c ∷ todo → IsMade done w → n < length (steps_of c.side c.path m) → Good (pair_run P O j n w)
    unfolding pair_run
    early done todo c w (mark.File d) n e whole made l =
        let file = File-marked (s c.side c.path) d (sym e ∙ marked P facts A B O left right j done todo c whole) in
        filed_good done todo c w d file.0 n e whole made file.1 l
    early done todo c w mark.Directory zero e whole made l =
        plain_good done todo c w (record { side = c.side; path = c.path; fetches = false; mark = mark.Directory }) mark.Directory e whole made refl
        (ap (λ x. Ask c.side (Set c.path x)) (directory_of (s c.side c.path) (sym e ∙ marked P facts A B O left right j done todo c whole)))
    early done todo c w mark.Directory (suc n) e whole made l = let k : suc n < 1 = l in absurd (omega (arith, k))
    early done todo c w mark.Absent zero e whole made l =
        plain_good done todo c w (record { side = c.side; path = c.path; fetches = false; mark = mark.Absent }) mark.Absent e whole made refl
        (ap (λ x. Ask c.side (Set c.path x)) (nothing_of (s c.side c.path) (sym e ∙ marked P facts A B O left right j done todo c whole)))
    early done todo c w mark.Absent (suc n) e whole made l = let k : suc n < 1 = l in absurd (omega (arith, k))

    -- While the changes that are left are made, and afterwards.
    changes_good : (todo done : List Change) (w : Pair) (n : ℕ) → plan V ≡ done ++ todo → IsMade done w → Good (pair_run P O j n w)
    changes_good [] done w n whole made =
        let all : IsMade (plan V) w = subst (λ (cs : List Change). IsMade cs w) (sym (whole ∙ append-nil done)) made in
        let ends = next_end P facts A B O left right j L view complete w.log all.0 in
        subst (λ (v : Pair). Good v) (sym (stays_finished P O j n w ends)) (good_by w Finished ends tt)
    changes_good (c ∷ todo) done w n whole made =
        let one = by_mark P facts A B O left right j L view complete done todo c w c.mark refl whole made in
        elim (cases_lt n one.0) [
          | inl l ↦ early done todo c w c.mark n refl whole made (subst (λ m. n < m) one.3 l)
          | inr l ↦ subst (λ (v : Pair). Good v) (sym (ap (λ i. pair_run P O j i w) (rest_of one.0 n l) ∙ one.2 (n - one.0)))
              (changes_good todo (done ++ c ∷ []) one.1 (n - one.0) (whole ∙ sym (append_assoc done (c ∷ []) todo)) one.4)
        ]

  -- During the Looks.
  abbrev looks : List (Side × Path) → Pair
  looks ds = at P facts A B O left right j ds

  abbrev log_of_looks : List (Side × Path) → List Logged
  log_of_looks ds = log_by P facts A B O left right j ds

  made_none : (ds : List (Side × Path)) (k : Side) → sets (R k) (each (s k) (paths_on k [])) ≡ Some (on_side (looks ds) k)
  made_none ds Left = refl
  made_none ds Right = refl

  looks_good : (n : ℕ) (ds : List (Side × Path)) (l r : Option Path) → missing P (log_of_looks ds) Left ≡ l → missing P (log_of_looks ds) Right ≡ r
      → ((m : ℕ) (es : List (Side × Path)) → n ≡ suc m → Good (pair_run P O j m (looks es))) → Good (pair_run P O j n (looks ds))
  unfolding pair_run
  looks_good n ds None None e f more =
      let none = both_none P facts A B O left right j ds e f in
      changes_good (log_of_looks ds) (looked_view P facts A B O left right j ds none) none (plan V) [] (looks ds) n refl (looked_ready P facts A B O left right j ds, made_none ds)
  looks_good zero ds (Some p) r e f more =
      subst (AllowedNext P (looks ds)) (sym (next_is P facts A B O left right j ds ∙ ap (λ o. look_or Left (look_or Right (step_or_end P O (log_of_looks ds)) (missing P (log_of_looks ds) Right)) o) e)) tt
  looks_good zero ds None (Some p) e f more =
      subst (AllowedNext P (looks ds))
      (sym (next_is P facts A B O left right j ds ∙ (ap (λ o. look_or Left (look_or Right (step_or_end P O (log_of_looks ds)) (missing P (log_of_looks ds) Right)) o) e ∙ ap (λ o. look_or Right (step_or_end P O (log_of_looks ds)) o) f))) tt
  looks_good (suc n) ds (Some p) r e f more =
      let asks = next_is P facts A B O left right j ds ∙ ap (λ o. look_or Left (look_or Right (step_or_end P O (log_of_looks ds)) (missing P (log_of_looks ds) Right)) o) e in
      subst (λ (v : Pair). Good v) (sym (turn_is P O j n (looks ds) (Ask Left (Look p)) asks ∙ ap (pair_run P O j n) (act_look P facts A B O left right j ds Left p))) (more n (ds ++ (Left, p) ∷ []) refl)
  looks_good (suc n) ds None (Some p) e f more =
      let asks = next_is P facts A B O left right j ds ∙ (ap (λ o. look_or Left (look_or Right (step_or_end P O (log_of_looks ds)) (missing P (log_of_looks ds) Right)) o) e ∙ ap (λ o. look_or Right (step_or_end P O (log_of_looks ds)) o) f) in
      subst (λ (v : Pair). Good v) (sym (turn_is P O j n (looks ds) (Ask Right (Look p)) asks ∙ ap (pair_run P O j n) (act_look P facts A B O left right j ds Right p))) (more n (ds ++ (Right, p) ∷ []) refl)

  looks_all : (n : ℕ) (ds : List (Side × Path)) → Good (pair_run P O j n (looks ds))
  looks_all zero ds = looks_good zero ds (missing P (log_of_looks ds) Left) (missing P (log_of_looks ds) Right) refl refl (λ m es e. absurd (omega (arith, e)))
  looks_all (suc n) ds =
      looks_good (suc n) ds (missing P (log_of_looks ds) Left) (missing P (log_of_looks ds) Right) refl refl (λ m es e. subst (λ i. Good (pair_run P O j i (looks es))) (ap pred e) (looks_all n es))

  -- After any number of turns.
  pub alone_allowed : (n : ℕ) → Good (pair_run P O j n (pair_opening A B))
  alone_allowed n = looks_all n []

-- What is recorded of jobs that started at any time is what the serial run leaves.
use Rattle.std.specs.FinMap as fin
use Rattle.std.proofs.Common.{◌≡◌, ◌≢◌, inl, inr, Bool, true, false, cond, not, ◌||◌, List, [], ◌∷◌, ◌++◌, length, Option, Some, None, refl, ap, sym, ◌∙◌, subst, arith}
use Rattle.std.specs.Prelude.{◌⊎◌, ◌==◌, ℕ, zero, suc, filter, slice_get, replicate, IsTrue}
use Rattle.std.proofs.lemmas.Bool.{false≢true, false_from_ne_true, or_left, or_right, or_parts}
use Rattle.std.proofs.lemmas.Option.{same_Some}
use borrow.Author.Tests.{eqb-true}
use Rattle.hub_path.specs.Path.{Path, path_eq}
use Rattle.hub_reconcile.specs.laws.Views.{same_paths}
use Rattle.hub_job.specs.Alike.{May}
use Rattle.hub_job.specs.Same.{AsksMay}
use Rattle.hub_path.specs.declared.side.Side.{Side}
use Rattle.hub_profile.specs.Parts.{Parts, at_side, is_root_at, some_passes}
use Rattle.hub_reach.specs.Reach.{has_root}
use Rattle.hub_tree.specs.Tree.{Replica, Archive}
use Rattle.hub_job.specs.declared.log.Entry.{Entry}
use Rattle.hub_job.specs.declared.log.Logged.{Logged}
use Rattle.hub_job.specs.declared.op.Next.TheVariants.{Finished}
use Rattle.hub_job.specs.Machine.{after}
use Rattle.hub_job.specs.History.{replay, IsAnswerOf, IsLegal, entries_of, entries_at}
use Rattle.hub_reconcile.specs.Items.{items}
use Rattle.hub_job.specs.Job.{next, view_in}
use Rattle.hub_job.specs.Run.{Runs, root_at}
use Rattle.hub_job.specs.laws.Roots.{has_its_root, side_root}
use Rattle.hub_serial.specs.Schedule.{AreEquivalent, after_turns, serial_turns}
use Rattle.hub_job.specs.Ends.{archive_after}
use Rattle.hub_serial.specs.World.{World, RootPair, archive_for, opening, pair_eq, pair_of, turn}
use Rattle.hub_serial.specs.Clash.{AreProfiles, JobsClash}
use Rattle.hub_serial.specs.Serial.{IsFresh}
use Rattle.hub_serial.specs.RunRecord.{archives_after_end, archives_after_ends, with_marks_of, with_marks_by, AreInOrder, StandsBefore, IsAsRecorded, IsSettledInOrder, RunRecord, WereGiven, turn_count}
use Rattle.hub_serial.proofs.Traces.{itself, same_left}
use Rattle.hub_serial.proofs.OldMarks.{SameReached, ends_commute}
use Rattle.hub_serial.proofs.Commute.{AnswersAlike, AreApart, OthersAlike, same_pair}
use Rattle.hub_serial.proofs.Exchange.{are_apart, clashing_turned}
use Rattle.hub_serial.proofs.InTurn.{Distinct, IsLeftAlone, append_turns, has, has_not_both, has_replicated, left_by_turns}
use Rattle.hub_serial.proofs.InOrder.{All, Leading, Parted, Permitted, legal_first, legal_second, part, replay_on, rest_of, own_jobs}
use Rattle.hub_serial.proofs.Lone.{last_turn}
use Rattle.hub_serial.proofs.Walked.{HasWorked, entries_cons, root_side, walk, worked, worked_end}

-- What holds of each entry of other jobs.
all_rest : (C D : Entry → Type 0) (i : ℕ) (es : List Entry) → ((e : Entry) → (e.job == i) ≡ false → C e → D e) → All C es → All D (rest_of i es)
all_rest C D i [] f a = tt
all_rest C D i (e ∷ es) f a =
    elim (e.job == i) as (λ b. (e.job == i) ≡ b → All D (cond (not b) (e ∷ rest_of i es) (rest_of i es))) [
      | true ↦ λ h. all_rest C D i es f a.1
      | false ↦ λ h. (f e h a.0, all_rest C D i es f a.1)
    ] refl

pick : (C : Entry → Type 0) (i : ℕ) (es : List Entry) → All C es → (entries_of i es ≡ []) ⊎ ((f : Entry) × (f.job ≡ i) × C f)
pick C i [] a = inl refl
pick C i (e ∷ es) a =
    elim (e.job == i) as (λ b. (e.job == i) ≡ b → (cond b (e ∷ entries_of i es) (entries_of i es) ≡ []) ⊎ ((f : Entry) × (f.job ≡ i) × C f)) [
      | true ↦ λ h. inr (e, eqb-true e.job i h, a.0)
      | false ↦ λ h. pick C i es a.1
    ] refl

others_same : (l i : ℕ) (es : List Entry) → (l == i) ≡ false → entries_of l (rest_of i es) ≡ entries_of l es
others_same l i [] off = refl
others_same l i (e ∷ es) off =
    elim (e.job == i) as (λ b. (e.job == i) ≡ b → entries_of l (cond (not b) (e ∷ rest_of i es) (rest_of i es)) ≡ cond (e.job == l) (e ∷ entries_of l es) (entries_of l es)) [
      | true ↦ λ h.
          let other : (e.job == l) ≡ false = false_from_ne_true (e.job == l) (λ g. false≢true (sym off ∙ (ap (λ x. x == i) (sym (eqb-true e.job l g)) ∙ h))) in
          others_same l i es off ∙ sym (ap (λ b. cond b (e ∷ entries_of l es) (entries_of l es)) other)
      | false ↦ λ h. ap (λ xs. cond (e.job == l) (e ∷ xs) xs) (others_same l i es off)
    ] refl

-- Who isn't in a list stands nowhere in it.
nowhere : (i : ℕ) (L : List ℕ) (b : ℕ) → has i L ≡ false → slice_get L b ≡ Some i → ⊥
nowhere i [] b h e = cc
nowhere i (l ∷ L) zero h e = false≢true (sym (or_parts (l == i) (has i L) h).0 ∙ (ap (λ x. x == i) (same_Some l i e) ∙ itself i))
nowhere i (l ∷ L) (suc b) h e = nowhere i L b (or_parts (l == i) (has i L) h).1 e

not_before_first : (i k : ℕ) (L : List ℕ) → has i L ≡ false → StandsBefore (i ∷ L) k i → ⊥
not_before_first i k L h (a, zero, l, e, f) = omega (arith, l)
not_before_first i k L h (a, suc b, l, e, f) = nowhere i L b h f

before_later : (i k m : ℕ) (L : List ℕ) → (k == i) ≡ false → StandsBefore (i ∷ L) k m → StandsBefore L k m
before_later i k m L off (zero, b, l, e, f) = absurd (false≢true (sym off ∙ (ap (λ x. x == i) (sym (same_Some i k e)) ∙ itself i)))
before_later i k m L off (suc a, zero, l, e, f) = absurd (omega (arith, l))
before_later i k m L off (suc a, suc b, l, e, f) = (a, b, omega (arith, l), e, f)

none_in : (l : ℕ) (xs ys : List ℕ) → has l xs ≡ false → has l ys ≡ false → has l (xs ++ ys) ≡ false
none_in l [] ys e f = f
none_in l (x ∷ xs) ys e f =
    let two = or_parts (x == l) (has l xs) e in
    ap (λ b. b || has l (xs ++ ys)) two.0 ∙ none_in l xs ys two.1 f

none_there : (R : RunRecord) (i : ℕ) (L : List ℕ) → has i L ≡ false → has i (serial_turns (turn_count R) L) ≡ false
none_there R i [] e = refl
none_there R i (l ∷ L) e =
    let two = or_parts (l == i) (has i L) e in
    none_in i (replicate (turn_count R l) l) (serial_turns (turn_count R) L)
    (has_replicated l i (turn_count R l) (false_from_ne_true (i == l) (λ g. false≢true (sym two.0 ∙ (ap (λ x. l == x) (eqb-true i l g) ∙ itself l)))))
    (none_there R i L two.1)

module _ (answers : AnswersAlike) (others : OthersAlike) (Ps : List Parts) (facts : AreProfiles Ps) where
  abbrev pub After : List ℕ → Entry → Entry → Type 0
  After L e f = e.job ≢ f.job → JobsClash Ps e.job f.job → StandsBefore L e.job f.job

  abbrev pub Ordered : List ℕ → List Entry → Type 0
  Ordered L [] = Unit {0}
  Ordered L (e ∷ es) = All (After L e) es × Ordered L es

  ordered_rest : (i : ℕ) (L : List ℕ) (es : List Entry) → Ordered (i ∷ L) es → Ordered L (rest_of i es)
  ordered_rest i L [] o = tt
  ordered_rest i L (e ∷ es) o =
      elim (e.job == i) as (λ b. (e.job == i) ≡ b → Ordered L (cond (not b) (e ∷ rest_of i es) (rest_of i es))) [
        | true ↦ λ h. ordered_rest i L es o.1
        | false ↦ λ h. (all_rest (After (i ∷ L) e) (After L e) i es (λ f g c off clash. before_later i e.job f.job L h (c off clash)) o.0, ordered_rest i L es o.1)
      ] refl

  leading : (r : Path) (i : ℕ) (L : List ℕ) (es : List Entry) → has i L ≡ false → Ordered (i ∷ L) es → Leading answers others Ps facts r i es
  leading r i L [] h o = tt
  leading r i L (e ∷ es) h o = (
    elim (e.job == i) as (λ b. (e.job == i) ≡ b → (e.job ≡ i) ⊎ ((entries_of i es ≡ []) ⊎ (JobsClash Ps e.job i → ⊥))) [
      | true ↦ λ g. inl (eqb-true e.job i g)
      | false ↦ λ g. inr (elim (pick (After (i ∷ L) e) i es o.0) [
        | inl none ↦ inl none
        | inr w ↦ inr (λ clash. not_before_first i e.job L h
            (subst (λ k. StandsBefore (i ∷ L) e.job k) w.1 (w.2 (λ same. false≢true (sym g ∙ (ap (λ x. x == i) (same ∙ w.1) ∙ itself i))) (subst (λ k. JobsClash Ps e.job k) (sym w.1) clash))))
      ])
    ] refl,
    leading r i L es h o.1,
  )

  own_none_by : (r : Path) (m : Replica) (e : Entry) (P : Parts) (o : Option Parts) → o ≡ Some P → has_root P r ≡ false → IsAnswerOf r m e o → ⊥
  own_none_by r m e P None f h a = a
  own_none_by r m e P (Some Q) f h a = false≢true (sym h ∙ (ap (λ R. has_root R r) (sym (same_Some Q P f)) ∙ a.0))

  own_none : (r : Path) (i : ℕ) (P : Parts) → slice_get Ps i ≡ Some P → has_root P r ≡ false → (m : Replica) (es : List Entry) → IsLegal Ps r m es → entries_of i es ≡ []
  own_none r i P is h m [] l = refl
  own_none r i P is h m (e ∷ es) l =
      elim (e.job == i) as (λ b. (e.job == i) ≡ b → cond b (e ∷ entries_of i es) (entries_of i es) ≡ []) [
        | true ↦ λ g. absurd (own_none_by r m e P (slice_get Ps e.job) (ap (slice_get Ps) (eqb-true e.job i g) ∙ is) h l.0)
        | false ↦ λ g. own_none r i P is h (after m e.op) es l.1
      ] refl

  no_entries : (L : List ℕ) (es : List Entry) → All (λ e. has e.job L ≡ true) es → L ≡ [] → es ≡ []
  no_entries L [] a n = refl
  no_entries L (e ∷ es) a n = absurd (false≢true (ap (has e.job) (sym n) ∙ a.0))

  module _ (R : RunRecord)
      (runs : (j : ℕ) (P : Parts) → slice_get Ps j ≡ Some P → Runs P (R.given j) j [] (R.log j))
      (ends : (j : ℕ) (P : Parts) → slice_get Ps j ≡ Some P → R.done j ≡ true → next P (R.given j) (R.log j) ≡ Finished) where
    -- What is left to be done by these jobs, in a world, with these histories.
    pub record IsLeft (L : List ℕ) (w : World) (h : Path → List Entry) : Type 0 where
      pub fresh : (l : ℕ) → has l L ≡ true → IsFresh w l
      pub jobs : (l : ℕ) → has l L ≡ true → (P : Parts) × (slice_get Ps l ≡ Some P)
      pub legal : (r : Path) → IsLegal Ps r (w.replica r) (h r)
      pub permitted : (r : Path) → All (Permitted answers others Ps facts r) (h r)
      pub ordered : (r : Path) → Ordered L (h r)
      pub known : (r : Path) → All (λ e. has e.job L ≡ true) (h r)
      pub agree : (l : ℕ) (P : Parts) (r : Path) → has l L ≡ true → slice_get Ps l ≡ Some P → IsTrue (has_root P r) → entries_of l (h r) ≡ entries_at P r (R.log l)

    pub record IsRun (L : List ℕ) (w : World) (h : Path → List Entry) (v : World) : Type 0 where
      pub logs : (l : ℕ) → has l L ≡ true → v.log l ≡ R.log l
      pub done : (l : ℕ) → has l L ≡ true → v.done l ≡ R.done l
      pub items : (l : ℕ) (P : Parts) → has l L ≡ true → slice_get Ps l ≡ Some P → R.done l ≡ true → v.items l ≡ items (view_in P (R.given l) (R.log l))
      pub roots : (r : Path) → v.replica r ≡ replay (w.replica r) (h r)
      pub marks : v.archive ≡ archives_after_ends Ps R (filter R.done L) w.archive

    works_by : (i : ℕ) (P : Parts) (is : slice_get Ps i ≡ Some P) (w : World) (b : Bool) → R.done i ≡ b → IsFresh w i → SameReached P (R.given i) (archive_for P w)
        → ((k : Side) → IsLegal Ps (root_at P k) (w.replica (root_at P k)) (entries_at P (root_at P k) (R.log i)))
        → HasWorked P (facts i P is) i Ps is (R.given i) b (R.log i) w (after_turns (turn Ps) (replicate (cond b (suc (length (R.log i))) (length (R.log i))) i) w)
    works_by i P is w false e fresh given legal =
        worked P (facts i P is) i Ps is (R.given i) (R.log i) w (after_turns (turn Ps) (replicate (length (R.log i)) i) w) fresh.done
        (walk P (facts i P is) i Ps is (R.given i) (R.log i) [] w fresh.done fresh.log given (runs i P is) legal)
    works_by i P is w true e fresh given legal =
        let n = length (R.log i) in
        let v = after_turns (turn Ps) (replicate n i) w in
        subst (λ x. HasWorked P (facts i P is) i Ps is (R.given i) true (R.log i) w x) (sym (last_turn P (facts i P is) i Ps is n w))
        (worked_end P (facts i P is) i Ps is (R.given i) (R.log i) w v fresh.done given (ends i P is e)
        (walk P (facts i P is) i Ps is (R.given i) (R.log i) [] w fresh.done fresh.log given (runs i P is) legal))

    module _ (i : ℕ) (L : List ℕ) (w : World) (h : Path → List Entry) (first : has i L ≡ false) (left : IsLeft (i ∷ L) w h) (archives : RootPair → Archive) (stand : w.archive ≡ archives) (given : WereGiven Ps R (i ∷ L) archives) where
      here : has i (i ∷ L) ≡ true
      here = or_left (i == i) (has i L) (itself i)

      abbrev P : Parts
      P = (left.jobs i here).0

      is : slice_get Ps i ≡ Some P
      is = (left.jobs i here).1

      abbrev v : World
      v = after_turns (turn Ps) (replicate (turn_count R i) i) w

      parted : (r : Path) → Parted answers others Ps facts r i (w.replica r) (h r)
      parted r = part answers others Ps facts r i (w.replica r) (h r) (left.permitted r) (leading r i L (h r) first (left.ordered r)) (left.legal r)

      own_legal : (k : Side) → IsLegal Ps (root_at P k) (w.replica (root_at P k)) (entries_at P (root_at P k) (R.log i))
      own_legal k =
          subst (λ es. IsLegal Ps (root_at P k) (w.replica (root_at P k)) es)
          (left.agree i P (root_at P k) here is (has_its_root P k (root_at P k) (side_root P (facts i P is) i k)))
          (legal_first Ps (root_at P k) (w.replica (root_at P k)) (entries_of i (h (root_at P k))) (rest_of i (h (root_at P k))) (parted (root_at P k)).0)

      done : HasWorked P (facts i P is) i Ps is (R.given i) (R.done i) (R.log i) w v
      done = works_by i P is w (R.done i) refl (left.fresh i here) (λ q g. given.0 P is q g ∙ ap (λ ar. fin.get (ar (pair_of P)) q) (sym stand)) own_legal

      root_by : (r : Path) (b : Bool) → has_root P r ≡ b → v.replica r ≡ replay (w.replica r) (entries_of i (h r))
      root_by r true e =
          let s = root_side P (facts i P is) r e in
          subst (λ x. v.replica x ≡ replay (w.replica x) (entries_of i (h x))) s.1
          (done.roots s.0 ∙ ap (replay (w.replica (root_at P s.0))) (sym (left.agree i P (root_at P s.0) here is (has_its_root P s.0 (root_at P s.0) (side_root P (facts i P is) i s.0)))))
      root_by r false e = done.others r e ∙ ap (replay (w.replica r)) (sym (own_none r i P is e (w.replica r) (h r) (left.legal r)))

      root_now : (r : Path) → v.replica r ≡ replay (w.replica r) (entries_of i (h r))
      root_now r = root_by r (has_root P r) refl

      more : (l : ℕ) → has l L ≡ true → has l (i ∷ L) ≡ true
      more l m = or_right (i == l) (has l L) m

      unlike : (l : ℕ) → has l L ≡ true → (l == i) ≡ false
      unlike l m = has_not_both i l L first m

      alone : (l : ℕ) → has l L ≡ true → IsLeftAlone l w v
      alone l m = left_by_turns Ps l (replicate (turn_count R i) i) w (has_replicated i l (turn_count R i) (unlike l m))

      later_has : (j : ℕ) → (j == i) ≡ false → has j (i ∷ L) ≡ true → has j L ≡ true
      later_has j off m =
          ap (λ b. b || has j L) (sym (false_from_ne_true (i == j) (λ g. false≢true (sym off ∙ (ap (λ x. x == i) (sym (eqb-true i j g)) ∙ itself i))))) ∙ m

      is_left : IsLeft L v (λ r. rest_of i (h r))
      is_left = record {
        fresh = λ l m. (let old = left.fresh l (more l m) in record { log = (alone l m).log ∙ old.log; done = (alone l m).done ∙ old.done });
        jobs = λ l m. left.jobs l (more l m);
        legal = λ r. subst (λ x. IsLegal Ps r x (rest_of i (h r))) (sym (root_now r)) (legal_second Ps r (w.replica r) (entries_of i (h r)) (rest_of i (h r)) (parted r).0);
        permitted = λ r. all_rest (Permitted answers others Ps facts r) (Permitted answers others Ps facts r) i (h r) (λ e f c. c) (left.permitted r);
        ordered = λ r. ordered_rest i L (h r) (left.ordered r);
        known = λ r. all_rest (λ e. has e.job (i ∷ L) ≡ true) (λ e. has e.job L ≡ true) i (h r)
            (λ e f c. later_has e.job f c) (left.known r);
        agree = λ l Q r m e f. others_same l i (h r) (unlike l m) ∙ left.agree l Q r (more l m) e f;
      }

      logs_by : (u : World) → IsRun L v (λ r. rest_of i (h r)) u → IsLeftAlone i v u → (l : ℕ) (b : Bool) → (i == l) ≡ b → (b || has l L) ≡ true → u.log l ≡ R.log l
      logs_by u rest kept l true e m = ap (λ x. u.log x) (sym (eqb-true i l e)) ∙ (kept.log ∙ (done.log ∙ ap R.log (eqb-true i l e)))
      logs_by u rest kept l false e m = rest.logs l m

      done_by : (u : World) → IsRun L v (λ r. rest_of i (h r)) u → IsLeftAlone i v u → (l : ℕ) (b : Bool) → (i == l) ≡ b → (b || has l L) ≡ true → u.done l ≡ R.done l
      done_by u rest kept l true e m = ap (λ x. u.done x) (sym (eqb-true i l e)) ∙ (kept.done ∙ (done.done ∙ ap R.done (eqb-true i l e)))
      done_by u rest kept l false e m = rest.done l m

      items_by : (u : World) → IsRun L v (λ r. rest_of i (h r)) u → IsLeftAlone i v u → (l : ℕ) (Q : Parts) (b : Bool) → (i == l) ≡ b → (b || has l L) ≡ true
          → slice_get Ps l ≡ Some Q → R.done l ≡ true → u.items l ≡ items (view_in Q (R.given l) (R.log l))
      items_by u rest kept l Q true e m at d =
          let same : i ≡ l = eqb-true i l e in
          let own : P ≡ Q = same_Some P Q (sym is ∙ (ap (slice_get Ps) same ∙ at)) in
          ap (λ x. u.items x) (sym same)
          ∙ (kept.items ∙ (done.items (ap R.done same ∙ d) ∙ (λ z. items (view_in (own z) (R.given (same z)) (R.log (same z))))))
      items_by u rest kept l Q false e m at d = rest.items l Q m at d

      marks_by : (b : Bool) (A : RootPair → Archive) → A ≡ cond b (with_marks_by w.archive (R.log i) (Some P)) w.archive
          → archives_after_ends Ps R (filter R.done L) A ≡ archives_after_ends Ps R (cond b (i ∷ filter R.done L) (filter R.done L)) w.archive
      marks_by true A e = ap (archives_after_ends Ps R (filter R.done L)) (e ∙ ap (with_marks_by w.archive (R.log i)) (sym is))
      marks_by false A e = ap (archives_after_ends Ps R (filter R.done L)) e

      stands : v.archive ≡ archives_after_end Ps R i archives
      stands = done.marks ∙ ((λ z. cond (R.done i) (with_marks_by (stand z) (R.log i) (sym is z)) (stand z)))

      is_run : (u : World) → IsRun L v (λ r. rest_of i (h r)) u → IsLeftAlone i v u → IsRun (i ∷ L) w h u
      is_run u rest kept = record {
        logs = λ l m. logs_by u rest kept l (i == l) refl m;
        done = λ l m. done_by u rest kept l (i == l) refl m;
        items = λ l Q m at d. items_by u rest kept l Q (i == l) refl m at d;
        roots = λ r. rest.roots r ∙ (ap (λ x. replay x (rest_of i (h r))) (root_now r)
            ∙ (sym (replay_on (w.replica r) (entries_of i (h r)) (rest_of i (h r))) ∙ sym (parted r).1));
        marks = rest.marks ∙ marks_by (R.done i) (v.archive) done.marks;
      }

    pub run_of : (L : List ℕ) (w : World) (h : Path → List Entry) (archives : RootPair → Archive) → w.archive ≡ archives → Distinct L → IsLeft L w h → WereGiven Ps R L archives
        → IsRun L w h (after_turns (turn Ps) (serial_turns (turn_count R) L) w)
    run_of [] w h archives stand d left given = record {
      logs = λ l m. absurd (false≢true m);
      done = λ l m. absurd (false≢true m);
      items = λ l Q m at d. absurd (false≢true m);
      marks = refl;
      roots = λ r. sym (ap (replay (w.replica r)) (no_entries [] (h r) (left.known r) refl));
    }
    run_of (i ∷ L) w h archives stand d left given =
        let v = after_turns (turn Ps) (replicate (turn_count R i) i) w in
        let parts : after_turns (turn Ps) (replicate (turn_count R i) i ++ serial_turns (turn_count R) L) w ≡ after_turns (turn Ps) (serial_turns (turn_count R) L) v = append_turns (turn Ps) (replicate (turn_count R i) i) (serial_turns (turn_count R) L) w in
        let rest = run_of L v (λ r. rest_of i (h r)) (archives_after_end Ps R i archives) (stands i L w h d.0 left archives stand given) d.1 (is_left i L w h d.0 left archives stand given) given.1 in
        subst (λ u. IsRun (i ∷ L) w h u) (sym parts)
        (is_run i L w h d.0 left archives stand given (after_turns (turn Ps) (serial_turns (turn_count R) L) v) rest (left_by_turns Ps i (serial_turns (turn_count R) L) v (none_there R i L d.0)))

-- From what is recorded, by positions.
all_at : (C : Entry → Type 0) (es : List Entry) → ((a : ℕ) (e : Entry) → slice_get es a ≡ Some e → C e) → All C es
all_at C [] f = tt
all_at C (e ∷ es) f = (f 0 e refl, all_at C es (λ a x h. f (suc a) x h))

all_from : (C D E : Entry → Type 0) (es : List Entry) → ((e : Entry) → C e → D e → E e) → All C es → All D es → All E es
all_from C D E [] f a b = tt
all_from C D E (e ∷ es) f a b = (f e a.0 b.0, all_from C D E es f a.1 b.1)

position : (j : ℕ) (L : List ℕ) → has j L ≡ true → (b : ℕ) × (slice_get L b ≡ Some j)
position j [] h = absurd (false≢true h)
position j (l ∷ L) h =
    elim (l == j) as (λ b. (l == j) ≡ b → (b || has j L) ≡ true → (b : ℕ) × (slice_get (l ∷ L) b ≡ Some j)) [
      | true ↦ λ e g. (0, ap (λ x. Some x) (eqb-true l j e))
      | false ↦ λ e g. let w = position j L g in (suc w.0, w.1)
    ] refl h

not_zero : (b : ℕ) → 0 ≡ suc b → ⊥
not_zero b e = omega (arith, e)

pub distinct_once : (L : List ℕ) → ((a b j : ℕ) → slice_get L a ≡ Some j → slice_get L b ≡ Some j → a ≡ b) → Distinct L
distinct_once [] once = tt
distinct_once (j ∷ L) once = (
  false_from_ne_true (has j L) (λ h. let w = position j L h in not_zero w.0 (once 0 (suc w.0) j refl w.1)),
  distinct_once L (λ a b k e f. same_suc a b (once (suc a) (suc b) k e f)),
)
  where
    same_suc : (a b : ℕ) → suc a ≡ suc b → a ≡ b
    same_suc a b e = omega (arith, e)

each_own : (C : Entry → Type 0) (es : List Entry) → ((j : ℕ) → All C (entries_of j es)) → All C es
each_own C [] f = tt
each_own C (e ∷ es) f = (
  (subst (λ xs. All C xs) (ap (λ b. cond b (e ∷ entries_of e.job es) (entries_of e.job es)) (itself e.job)) (f e.job)).0,
  each_own C es (λ j. elim (e.job == j) as (λ b. All C (cond b (e ∷ entries_of j es) (entries_of j es)) → All C (entries_of j es)) [
    | true ↦ λ a. a.1
    | false ↦ λ a. a
  ] (f j)),
)

is_the_root : (r : Path) (o : Option Path) → some_passes (path_eq r) o ≡ true → o ≡ Some r
is_the_root r None h = absurd (false≢true h)
is_the_root r (Some s) h = ap (λ x. Some x) (sym (same_paths r s h))

runs_may : AsksMay → (P : Parts) (O : Archive) (j : ℕ) (r : Path) (front es : List Logged) → Runs P O j front es → All (λ x. May P r x.op) (entries_at P r es)
runs_may asks P O j r front [] runs = tt
runs_may asks P O j r front (e ∷ es) runs =
    let more = runs_may asks P O j r (front ++ e ∷ []) es runs.3 in
    subst (λ xs. All (λ x. May P r x.op) xs) (sym (entries_cons P r e es (is_root_at P r e.side) refl))
    (elim (is_root_at P r e.side) as (λ b. is_root_at P r e.side ≡ b → All (λ x. May P r x.op) (cond b (e.step ∷ entries_at P r es) (entries_at P r es))) [
      | true ↦ λ h. (asks P O front e.side e.step.op r runs.0 (is_the_root r (at_side P.roots e.side) h), more)
      | false ↦ λ h. more
    ] refl)

module _ (asks : AsksMay) (answers : AnswersAlike) (others : OthersAlike) (Ps : List Parts) (facts : AreProfiles Ps) (replicas : Path → Replica) (archives : RootPair → Archive) (R : RunRecord)
    (settled : IsSettledInOrder Ps replicas R) where
  permitted_by : (r : Path) (j : ℕ) (o : Option Parts) → slice_get Ps j ≡ o → All (Permitted answers others Ps facts r) (entries_of j (R.history r))
  permitted_by r j None e =
      all_from (λ x. x.job ≡ j) (λ x. x.job ≡ j) (Permitted answers others Ps facts r) (entries_of j (R.history r))
      (λ x same also P is has. absurd (no_profile P (sym e ∙ (ap (slice_get Ps) (sym same) ∙ is))))
      (own_jobs answers others Ps facts r j (R.history r)) (own_jobs answers others Ps facts r j (R.history r))
    where
      no_profile : (P : Parts) → None ≡ Some P → ⊥
      no_profile P h = cc
  permitted_by r j (Some P) e =
      elim (has_root P r) as (λ b. has_root P r ≡ b → All (Permitted answers others Ps facts r) (entries_of j (R.history r))) [
        | true ↦ λ h.
            all_from (λ x. x.job ≡ j) (λ x. May P r x.op) (Permitted answers others Ps facts r) (entries_of j (R.history r))
            (λ x same may Q is has. subst (λ S. May S r x.op) (same_Some P Q (sym e ∙ (ap (slice_get Ps) (sym same) ∙ is))) may)
            (own_jobs answers others Ps facts r j (R.history r))
            (subst (λ xs. All (λ x. May P r x.op) xs) (sym (settled.agree j P r e h)) (runs_may asks P (R.given j) j r [] (R.log j) (settled.runs j P e)))
        | false ↦ λ h.
            all_from (λ x. x.job ≡ j) (λ x. x.job ≡ j) (Permitted answers others Ps facts r) (entries_of j (R.history r))
            (λ x same also Q is has. absurd (false≢true (sym h ∙ (ap (λ S. has_root S r) (same_Some P Q (sym e ∙ (ap (slice_get Ps) (sym same) ∙ is))) ∙ has))))
            (own_jobs answers others Ps facts r j (R.history r)) (own_jobs answers others Ps facts r j (R.history r))
      ] refl

  ordered_by : (es : List Entry) → AreInOrder Ps R.started es → Ordered answers others Ps facts R.started es
  ordered_by [] o = tt
  ordered_by (e ∷ es) o = (
    all_at (After answers others Ps facts R.started e) es (λ a x h. o 0 (suc a) e x (omega arith) refl h),
    ordered_by es (λ a b x y l f g. o (suc a) (suc b) x y (omega (arith, l)) f g),
  )

  pub recorded : WereGiven Ps R R.started archives → IsAsRecorded Ps replicas archives R (after_turns (turn Ps) (serial_turns (turn_count R) R.started) (opening replicas archives))
  recorded given =
      let run = run_of answers others Ps facts R settled.runs settled.finished R.started (opening replicas archives) R.history archives refl (distinct_once R.started settled.once)
      (record {
        fresh = λ l m. record { log = refl; done = refl };
        jobs = settled.jobs;
        legal = settled.legal;
        permitted = λ r. each_own (Permitted answers others Ps facts r) (R.history r) (λ j. permitted_by r j (slice_get Ps j) refl);
        ordered = λ r. ordered_by (R.history r) (settled.ordered r);
        known = λ r. all_at (λ e. has e.job R.started ≡ true) (R.history r) (settled.known r);
        agree = λ l P r m e h. settled.agree l P r e h;
      }) given in
      record { log = run.logs; done = run.done; items = run.items; replica = run.roots; archive = run.marks }

-- Ends in any order in which those of jobs that clash come in the order of starts.
ends_by : (P Q : Parts) → AreApart P Q → (k : RootPair) (A : Archive) (l m : List Logged) (b c : Bool) → pair_eq (pair_of P) k ≡ b → pair_eq (pair_of Q) k ≡ c
    → cond b (archive_after P (cond c (archive_after Q A m) A) l) (cond c (archive_after Q A m) A) ≡ cond c (archive_after Q (cond b (archive_after P A l) A) m) (cond b (archive_after P A l) A)
ends_by P Q apart k A l m true true e f = ends_commute P Q (apart.marks (same_pair (pair_of P) k e ∙ sym (same_pair (pair_of Q) k f))) A l m
ends_by P Q apart k A l m true false e f = refl
ends_by P Q apart k A l m false true e f = refl
ends_by P Q apart k A l m false false e f = refl

module _ (Ps : List Parts) (facts : AreProfiles Ps) (R : RunRecord) where
  pub marks_commute_by : (i k : ℕ) (A : RootPair → Archive) (o u : Option Parts) → slice_get Ps i ≡ o → slice_get Ps k ≡ u → (JobsClash Ps i k → ⊥)
      → with_marks_by (with_marks_by A (R.log k) u) (R.log i) o ≡ with_marks_by (with_marks_by A (R.log i) o) (R.log k) u
  marks_commute_by i k A None u e f free = refl
  marks_commute_by i k A (Some P) None e f free = refl
  marks_commute_by i k A (Some P) (Some Q) e f free = λ z l.
      ends_by P Q (are_apart P Q (facts i P e) (facts k Q f) (λ clash. free (P, Q, e, f, clash))) l (A l) (R.log i) (R.log k)
      (pair_eq (pair_of P) l) (pair_eq (pair_of Q) l) refl refl z

  pub ends_in_any_order : (ends : List ℕ) (archives : RootPair → Archive) → AreEquivalent (JobsClash Ps) ends (filter R.done R.started)
      → archives_after_ends Ps R ends archives ≡ archives_after_ends Ps R (filter R.done R.started) archives
  ends_in_any_order ends archives e =
      same_left (JobsClash Ps) (clashing_turned Ps) (RootPair → Archive) (with_marks_of Ps R)
      (λ i k A off free. marks_commute_by i k A (slice_get Ps i) (slice_get Ps k) refl refl free) ends (filter R.done R.started) archives e

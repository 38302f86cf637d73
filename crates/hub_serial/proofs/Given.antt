-- What a starter that keeps jobs that clash apart gives to the jobs.
use Rattle.std.proofs.Common.{◌≡◌, ◌≢◌, inl, inr, Bool, true, false, cond, not, ◌||◌, List, [], ◌∷◌, ◌++◌, Option, Some, None, refl, ap, sym, ◌∙◌, subst}
use Rattle.std.specs.Prelude.{◌==◌, ℕ, filter, slice_get}
use Rattle.std.specs.FinMap as fin
use Rattle.std.proofs.lemmas.Bool.{false≢true, false_from_ne_true, or_cases, or_left, or_right, or_parts}
use Rattle.std.proofs.lemmas.List.Folds.{list_any-append}
use borrow.Author.Tests.{eqb-true}
use Rattle.hub_profile.specs.Parts.{Parts}
use Rattle.hub_tree.specs.Tree.{Archive}
use Rattle.hub_job.specs.declared.log.Logged.{Logged}
use Rattle.hub_job.specs.Ends.{archive_after}
use Rattle.hub_serial.specs.Schedule.{after_turns}
use Rattle.hub_serial.specs.World.{RootPair, pair_eq, pair_of}
use Rattle.hub_serial.specs.Clash.{AreProfiles, JobsClash}
use Rattle.hub_serial.specs.Starter.{JobEvent, JobStatus, KeepsApart, all_wait, with_status}
use Rattle.hub_serial.specs.Starter.JobEvent.{Start, Turn, End}
use Rattle.hub_serial.specs.Starter.JobStatus.{Waiting, Running, Ended}
use Rattle.hub_serial.specs.RunRecord.{RunRecord, WereGiven, archives_after_end, archives_after_ends, with_marks_of, with_marks_by}
use Rattle.hub_serial.specs.Started.{OnlyRunningEnd, GivesAsItStands, NoLongerRuns, AreStarterEvents, archives_after_events, starts_of}
use Rattle.hub_serial.proofs.Traces.{itself}
use Rattle.hub_serial.proofs.OldMarks.{SameReached, kept_by_other}
use Rattle.hub_serial.proofs.Commute.{AreApart, same_pair}
use Rattle.hub_serial.proofs.Exchange.{are_apart, clashing_turned}
use Rattle.hub_serial.proofs.InTurn.{Distinct, append_turns, distinct_filtered, has, has_filtered, has_no_more}
use Rattle.hub_serial.proofs.Starting.{NoneRunsWith, ended, not_over, not_waiting, started}
use Rattle.hub_serial.proofs.Recorded.{marks_commute_by}

abbrev others : ℕ → List ℕ → List ℕ
others i L = filter (λ k. not (k == i)) L

-- Lists of jobs.
has_last : (l j : ℕ) (L : List ℕ) → has l (L ++ j ∷ []) ≡ (has l L || ((j == l) || false))
has_last l j L = list_any-append (λ i. i == l) L (j ∷ [])

distinct_last : (j : ℕ) (L : List ℕ) → Distinct L → has j L ≡ false → Distinct (L ++ j ∷ [])
distinct_last j [] d h = (refl, tt)
distinct_last j (l ∷ L) d h =
    let two = or_parts (l == j) (has j L) h in
    let off : (j == l) ≡ false = false_from_ne_true (j == l) (λ e. false≢true (sym two.0 ∙ (ap (λ x. l == x) (eqb-true j l e) ∙ itself l))) in
    (has_last l j L ∙ ((λ z. d.0 z || ((off z) || false))), distinct_last j L d.1 two.1)

has_other : (l i : ℕ) (L : List ℕ) → (l == i) ≡ false → has l L ≡ true → has l (others i L) ≡ true
has_other l i [] off h = h
has_other l i (k ∷ L) off h =
    elim (k == i) as (λ b. (k == i) ≡ b → has l (cond (not b) (k ∷ others i L) (others i L)) ≡ true) [
      | true ↦ λ e.
          let other : (k == l) ≡ false = false_from_ne_true (k == l) (λ g. false≢true (sym off ∙ (ap (λ x. x == i) (sym (eqb-true k l g)) ∙ e))) in
          has_other l i L off (ap (λ b. b || has l L) (sym other) ∙ h)
      | false ↦ λ e. elim (or_cases (k == l) (has l L) h) [
        | inl here ↦ or_left (k == l) (has l (others i L)) here
        | inr more ↦ or_right (k == l) (has l (others i L)) (has_other l i L off more)
      ]
    ] refl

all_others : (i : ℕ) (L : List ℕ) → has i L ≡ false → others i L ≡ L
all_others i [] h = refl
all_others i (k ∷ L) h =
    let two = or_parts (k == i) (has i L) h in
    ap (λ b. cond (not b) (k ∷ others i L) (others i L)) two.0 ∙ ap (λ xs. k ∷ xs) (all_others i L two.1)

runs_or_not : (b : Bool) (s : JobStatus) → s ≡ Running → cond b Running s ≡ Running
runs_or_not true s e = refl
runs_or_not false s e = e

module _ (Ps : List Parts) (facts : AreProfiles Ps) (R : RunRecord) where
  abbrev step : ℕ → (RootPair → Archive) → RootPair → Archive
  step = archives_after_end Ps R

  either_by : (i k : ℕ) (A : RootPair → Archive) (b c : Bool) → (JobsClash Ps i k → ⊥)
      → cond b (with_marks_of Ps R i (cond c (with_marks_of Ps R k A) A)) (cond c (with_marks_of Ps R k A) A) ≡ cond c (with_marks_of Ps R k (cond b (with_marks_of Ps R i A) A)) (cond b (with_marks_of Ps R i A) A)
  either_by i k A true true free = marks_commute_by Ps facts R i k A (slice_get Ps i) (slice_get Ps k) refl refl free
  either_by i k A true false free = refl
  either_by i k A false true free = refl
  either_by i k A false false free = refl

  steps_commute : (i k : ℕ) (A : RootPair → Archive) → (JobsClash Ps i k → ⊥) → step i (step k A) ≡ step k (step i A)
  steps_commute i k A free = either_by i k A (R.done i) (R.done k) free

  -- The end of one of some jobs that don't clash can come first.
  first_end : (i : ℕ) (L : List ℕ) (A : RootPair → Archive) → Distinct L → has i L ≡ true → ((l : ℕ) → has l L ≡ true → l ≢ i → JobsClash Ps i l → ⊥)
      → after_turns step L A ≡ after_turns step (others i L) (step i A)
  first_end i [] A d h free = absurd (false≢true h)
  first_end i (l ∷ L) A d h free =
      elim (l == i) as (λ b. (l == i) ≡ b → (b || has i L) ≡ true → after_turns step L (step l A) ≡ after_turns step (cond (not b) (l ∷ others i L) (others i L)) (step i A)) [
        | true ↦ λ e g.
            let same : l ≡ i = eqb-true l i e in
            ap (λ x. after_turns step L (step x A)) same
            ∙ ap (λ xs. after_turns step xs (step i A)) (sym (all_others i L (subst (λ x. has x L ≡ false) same d.0)))
        | false ↦ λ e g.
            let off : l ≢ i = λ same. false≢true (sym e ∙ (ap (λ x. x == i) same ∙ itself i)) in
            first_end i L (step l A) d.1 g (λ k m. free k (or_right (l == k) (has k L) m))
            ∙ ap (after_turns step (others i L)) (steps_commute i l A (free l (or_left (l == l) (has l L) (itself l)) off))
      ] refl h

  -- Ends of jobs that don't clash with a job leave its archive as it is where it reaches.
  held_by : (P : Parts) (j l : ℕ) (is : slice_get Ps j ≡ Some P) (A : RootPair → Archive) (o : Option Parts) (b : Bool) → slice_get Ps l ≡ o → (JobsClash Ps j l → ⊥)
      → SameReached P (A (pair_of P)) (cond b (with_marks_by A (R.log l) o) A (pair_of P))
  held_by P j l is A None true e free = λ q h. refl
  held_by P j l is A None false e free = λ q h. refl
  held_by P j l is A (Some Q) false e free = λ q h. refl
  held_by P j l is A (Some Q) true e free =
      let apart = are_apart P Q (facts j P is) (facts l Q e) (λ clash. free (P, Q, is, e, clash)) in
      in_pair P Q apart (A (pair_of P)) (R.log l) (pair_eq (pair_of Q) (pair_of P)) refl
    where
      in_pair : (P Q : Parts) → AreApart P Q → (O : Archive) (log : List Logged) (c : Bool) → pair_eq (pair_of Q) (pair_of P) ≡ c
          → SameReached P O (cond c (archive_after Q O log) O)
      in_pair P Q apart O log true f = λ q h. sym (kept_by_other P Q (apart.marks (sym (same_pair (pair_of Q) (pair_of P) f))) O log q h)
      in_pair P Q apart O log false f = λ q h. refl

  held : (P : Parts) (j : ℕ) (is : slice_get Ps j ≡ Some P) (L : List ℕ) (A : RootPair → Archive) → ((l : ℕ) → has l L ≡ true → JobsClash Ps j l → ⊥)
      → SameReached P (A (pair_of P)) (after_turns step L A (pair_of P))
  held P j is [] A free = λ q h. refl
  held P j is (l ∷ L) A free =
      let one = held_by P j l is A (slice_get Ps l) (R.done l) refl (free l (or_left (l == l) (has l L) (itself l))) in
      let more = held P j is L (step l A) (λ k m. free k (or_right (l == k) (has k L) m)) in
      λ q h. one q h ∙ more q h

  -- The jobs that run, in the order of their starts.
  pub record AreRunning (at : ℕ → JobStatus) (L : List ℕ) : Type 0 where
    pub into : (l : ℕ) → at l ≡ Running → has l L ≡ true
    pub from : (l : ℕ) → has l L ≡ true → at l ≡ Running
    pub once : Distinct L
    pub apart : NoneRunsWith (JobsClash Ps) (clashing_turned Ps) at

  not_in : (at : ℕ → JobStatus) (j : ℕ) (L : List ℕ) → AreRunning at L → at j ≡ Waiting → has j L ≡ false
  not_in at j L run w = false_from_ne_true (has j L) (λ h. not_waiting (at j) (run.from j h) w)

  into_started : (at : ℕ → JobStatus) (j l : ℕ) (L : List ℕ) (b : Bool) → (l == j) ≡ b → AreRunning at L → cond b Running (at l) ≡ Running → has l (L ++ j ∷ []) ≡ true
  into_started at j l L true e run r =
      has_last l j L ∙ or_right (has l L) ((j == l) || false) (or_left (j == l) false (ap (λ x. j == x) (eqb-true l j e) ∙ itself j))
  into_started at j l L false e run r = has_last l j L ∙ or_left (has l L) ((j == l) || false) (run.into l r)

  from_started : (at : ℕ → JobStatus) (j l : ℕ) (L : List ℕ) → AreRunning at L → has l (L ++ j ∷ []) ≡ true → with_status at j Running l ≡ Running
  from_started at j l L run h =
      elim (or_cases (has l L) ((j == l) || false) (sym (has_last l j L) ∙ h)) [
        | inl here ↦ runs_or_not (l == j) (at l) (run.from l here)
        | inr last ↦ elim (or_cases (j == l) false last) [
          | inl same ↦ ap (λ b. cond b Running (at l)) (ap (λ x. l == x) (eqb-true j l same) ∙ itself l)
          | inr never ↦ absurd (false≢true never)
        ]
      ]

  start_runs : (at : ℕ → JobStatus) (j : ℕ) (L : List ℕ) → AreRunning at L → at j ≡ Waiting → ((k : ℕ) → at k ≡ Running → JobsClash Ps j k → ⊥)
      → AreRunning (with_status at j Running) (L ++ j ∷ [])
  start_runs at j L run w free = record {
    into = λ l r. into_started at j l L (l == j) refl run r;
    from = λ l h. from_started at j l L run h;
    once = distinct_last j L run.once (not_in at j L run w);
    apart = started (JobsClash Ps) (clashing_turned Ps) at j run.apart free;
  }

  into_ended : (at : ℕ → JobStatus) (i l : ℕ) (L : List ℕ) (b : Bool) → (l == i) ≡ b → AreRunning at L → cond b Ended (at l) ≡ Running → has l (others i L) ≡ true
  into_ended at i l L true e run r = absurd (not_over Ended r refl)
  into_ended at i l L false e run r = has_other l i L e (run.into l r)

  from_ended : (at : ℕ → JobStatus) (i l : ℕ) (L : List ℕ) (b : Bool) → (l == i) ≡ b → AreRunning at L → has l (others i L) ≡ true → cond b Ended (at l) ≡ Running
  from_ended at i l L true e run h = absurd (false≢true (sym (has_no_more i L) ∙ (ap (λ x. has x (others i L)) (sym (eqb-true l i e)) ∙ h)))
  from_ended at i l L false e run h = run.from l (has_filtered (λ k. not (k == i)) l L h)

  end_runs : (at : ℕ → JobStatus) (i : ℕ) (L : List ℕ) → AreRunning at L → AreRunning (with_status at i Ended) (others i L)
  end_runs at i L run = record {
    into = λ l r. into_ended at i l L (l == i) refl run r;
    from = λ l h. from_ended at i l L (l == i) refl run h;
    once = distinct_filtered (λ k. not (k == i)) L run.once;
    apart = ended (JobsClash Ps) (clashing_turned Ps) at i run.apart;
  }

  end_first : (at : ℕ → JobStatus) (i : ℕ) (L : List ℕ) (A : RootPair → Archive) → AreRunning at L → at i ≡ Running → after_turns step L A ≡ after_turns step (others i L) (step i A)
  end_first at i L A run r =
      first_end i L A run.once (run.into i r) (λ l m off clash. run.apart i l r (run.from l m) (λ same. off (sym same)) clash)

  pub were_given : (at : ℕ → JobStatus) (es : List JobEvent) (L : List ℕ) (A : RootPair → Archive) → AreRunning at L → KeepsApart (JobsClash Ps) at es → OnlyRunningEnd at es → GivesAsItStands Ps R es A
      → WereGiven Ps R (starts_of es) (after_turns step L A)
  were_given at [] L A run rule ends gives = tt
  were_given at (Start j ∷ es) L A run rule ends gives =
      let more = were_given (with_status at j Running) es (L ++ j ∷ []) A (start_runs at j L run rule.0 rule.1) rule.2 ends gives.1 in (
        λ P is q h. ap (λ O. fin.get O q) (gives.0 P is) ∙ held P j is L A (λ l m clash. rule.1 l (run.from l m) clash) q h,
        subst (λ B. WereGiven Ps R (starts_of es) B) (append_turns step L (j ∷ []) A) more,
      )
  were_given at (Turn j ∷ es) L A run rule ends gives = were_given at es L A run rule.1 ends gives
  were_given at (End i ∷ es) L A run rule ends gives =
      subst (λ B. WereGiven Ps R (starts_of es) B) (sym (end_first at i L A run ends.0))
      (were_given (with_status at i Ended) es (others i L) (step i A) (end_runs at i L run) rule ends.1 gives)

  none_left : (at : ℕ → JobStatus) (L : List ℕ) → AreRunning at L → ((l : ℕ) → at l ≡ Running → ⊥) → L ≡ []
  none_left at [] run none = refl
  none_left at (l ∷ L) run none = absurd (none l (run.from l (or_left (l == l) (has l L) (itself l))))

  pub left_so : (at : ℕ → JobStatus) (es : List JobEvent) (L : List ℕ) (A : RootPair → Archive) → AreRunning at L → KeepsApart (JobsClash Ps) at es → OnlyRunningEnd at es → ((j : ℕ) → NoLongerRuns at es j)
      → after_turns step (starts_of es) (after_turns step L A) ≡ archives_after_events Ps R es A
  left_so at [] L A run rule ends over = ap (λ M. after_turns step M A) (none_left at L run (λ l r. over l r))
  left_so at (Start j ∷ es) L A run rule ends over =
      ap (after_turns step (starts_of es)) (sym (append_turns step L (j ∷ []) A))
      ∙ left_so (with_status at j Running) es (L ++ j ∷ []) A (start_runs at j L run rule.0 rule.1) rule.2 ends over
  left_so at (Turn j ∷ es) L A run rule ends over = left_so at es L A run rule.1 ends over
  left_so at (End i ∷ es) L A run rule ends over =
      ap (after_turns step (starts_of es)) (end_first at i L A run ends.0)
      ∙ left_so (with_status at i Ended) es (others i L) (step i A) (end_runs at i L run) rule ends.1 over

  nobody_runs : AreRunning all_wait []
  nobody_runs = record {
    into = λ l r. absurd (not_waiting Waiting (sym (sym r)) refl);
    from = λ l h. absurd (false≢true h);
    once = tt;
    apart = λ i k r s off clash. not_waiting Waiting (sym (sym r)) refl;
  }

  ended_ones : (L : List ℕ) (A : RootPair → Archive) → after_turns step L A ≡ archives_after_ends Ps R (filter R.done L) A
  ended_ones [] A = refl
  ended_ones (l ∷ L) A =
      elim (R.done l) as (λ b. after_turns step L (cond b (with_marks_of Ps R l A) A) ≡ archives_after_ends Ps R (cond b (l ∷ filter R.done L) (filter R.done L)) A) [
        | true ↦ ended_ones L (with_marks_of Ps R l A)
        | false ↦ ended_ones L A
      ]

  pub given_by_starter : (archives : RootPair → Archive) (es : List JobEvent) → AreStarterEvents Ps R archives es → WereGiven Ps R R.started archives
  given_by_starter archives es s = subst (λ L. WereGiven Ps R L archives) (sym s.started) (were_given all_wait es [] archives nobody_runs s.apart s.ends s.given)

  pub left_by_starter : (archives : RootPair → Archive) (es : List JobEvent) → AreStarterEvents Ps R archives es → archives_after_events Ps R es archives ≡ archives_after_ends Ps R (filter R.done R.started) archives
  left_by_starter archives es s =
      sym (left_so all_wait es [] archives nobody_runs s.apart s.ends s.over)
      ∙ (ended_ones (starts_of es) archives ∙ ap (λ L. archives_after_ends Ps R (filter R.done L) archives) (sym s.started))

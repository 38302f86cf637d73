-- A run by rounds, round by round.
use Rattle.std.proofs.Common.{◌≡◌, ◌∙◌, ◌∷◌, ◌++◌, ◌+◌, inl, inr, ℕ, zero, suc, true, false, arith, cond, get_or}
use Rattle.std.proofs.Common.{List, [], drop, length, None, Some, append-nil, append_assoc, refl, sym, ap, ap₂, subst}
use Rattle.std.specs.Prelude.{◌≡◌, ◌<◌, Bool, Contains, Err, Ok, Result, not, slice_get, string_bytes}
use Rattle.std.specs.List.{filter, find, position_or_len}
use Rattle.std.proofs.Math.Seq.{drop-length}
use Rattle.std.proofs.lemmas.Bool.{true≢false}
use Rattle.std.proofs.lemmas.List.{length_push}
use Rattle.std.proofs.lemmas.List.Folds.{find_at}
use Rattle.std.proofs.lemmas.Option.{get_or_from_slice_get, none-some, same_Some, slice_get_within}
use Rattle.hub_profile.specs.Parts.{Parts}
use Rattle.hub_profile.specs.declared.rule.Rule.{Rule}
use Rattle.hub_cert.specs.Set.{IsSafeSet, Members}
use Rattle.hub_cert.specs.declared.fault.CheckFault.{CheckFault}
use Rattle.hub_search.specs.Faults.{AreFaults}
use Rattle.hub_search.specs.Search.{Disproves}
use Rattle.hub_text.specs.laws.List.{at-place}
use Rattle.hub_apart.specs.ApartLines.{AreLines}
use Rattle.hub_rounds.specs.Rounds.{AreRounds, IsPlaced, is_in_some}
use Rattle.hub_rounds.specs.laws.Rounds.{refused-round}
use Rattle.hub_rounds.specs.Unverified.{IsRoundsFault, RefusesRound, is_memory}
use Rattle.hub_rounds.specs.declared.fault.RoundsFault.{RoundsFault}
use Rattle.hub_rounds.specs.declared.fault.RoundsFault.TheVariants as rounds_fault
use Rattle.hub_rounds.specs.declared.placing.Placing.{Placing}
use Rattle.hub_rounds.specs.declared.placing.Placing.TheVariants.{Round, Unplaced}
use Rattle.hub_rounds.specs.declared.rounds.Rounds.{Rounds}
use Rattle.hub_state.specs.State.{State}
use Rattle.hub_job.specs.declared.outcome.Outcome.{Outcome}
use Rattle.hub_schedule.specs.Simulated.{AreFinished}
use Rattle.hub_runner.specs.Working.{AreWorkers, MayRun}
use Rattle.hub_report.specs.Jobs.{lines_of_jobs}
use Rattle.hub_report.specs.declared.run.Run.{Run}
use Rattle.hub_report.specs.declared.rounds_run.RoundsRun.{RoundsRun}
use Rattle.hub_job.specs.declared.run_fault.RunFault.{RunFault}
use Rattle.hub_job.specs.declared.run_fault.RunFault.TheVariants as error
use Rattle.hub_cli.specs.declared.words.Reading.{Reading}
use Rattle.hub_cli.specs.declared.words.Reading.TheVariants.{Plain}
use Rattle.hub_serve.specs.Rounds.{AreLinesAs, HasUnverifiedRound, IsUncut}
use Rattle.hub_serve.specs.Runs.{ComesOf, IsRunOn, PreventsRun}
use Rattle.hub_serve.proofs.Prevented.{prevents}
use Rattle.hub_serve.specs.ByRounds.{AllFinished, AreRunFrom, Ends, HaveRun, IsAdded, IsBegun, RefusesWorkers}
use Rattle.hub_serve.specs.ByRounds.{HasRunByRounds, IsFirstAlone, RefusesOneOf, is_alone, leaves_out}
use Rattle.hub_serve.specs.ByRounds.{IsRoundRun, AddsRound, job_lines_of_rounds, not_run, round_set, final_state}

-- The state that one more round left.
state-more : (S : State) (os : List Outcome) (o : Outcome) → final_state S (os ++ o ∷ []) ≡ o.state
state-more S [] o = refl
state-more S (p ∷ os) o = state-more p.state os o

-- All jobs are finished, with those of one more round,
all-more : (os : List Outcome) (o : Outcome) → AllFinished os → AreFinished o.jobs → AllFinished (os ++ o ∷ [])
all-more [] o all f = (f, tt)
all-more (p ∷ os) o all f = (all.0, all-more os o all.1 f)

-- and so those of the last round are.
last-finished : (os : List Outcome) (o : Outcome) → AllFinished (os ++ o ∷ []) → AreFinished o.jobs
last-finished [] o all = all.0
last-finished (p ∷ os) o all = last-finished os o all.1

-- One more round was run, after as many as there are outcomes.
run-more : (Rs : List Rule) (n : ℕ) (S : State) (rounds : List (List Parts)) (os : List Outcome) (Ps : List Parts) (o : Outcome)
    → AreRunFrom Rs n S rounds os → AllFinished os → slice_get rounds (length os) ≡ Some Ps
    → IsRoundRun Rs Ps n (final_state S os) o → AreRunFrom Rs n S rounds (os ++ o ∷ [])
run-more Rs n S [] [] Ps o run all at h = cc
run-more Rs n S [] (p ∷ os) Ps o run all at h = absurd run
run-more Rs n S (Qs ∷ rounds) [] Ps o run all at h =
    (subst (λ (Xs : List Parts). IsRoundRun Rs Xs n S o) (sym (same_Some Qs Ps at)) h, λ some. absurd (some refl), tt)
run-more Rs n S (Qs ∷ rounds) (p ∷ os) Ps o run all at h =
    (run.0, λ some. all.0, run-more Rs n p.state rounds os Ps o run.2 all.1 at h)

-- Its lines follow those of the others.
lines-more : (rounds : List (List Parts)) (os : List Outcome) (Ps : List Parts) (o : Outcome) → slice_get rounds (length os) ≡ Some Ps
    → job_lines_of_rounds rounds (os ++ o ∷ []) ≡ job_lines_of_rounds rounds os ++ lines_of_jobs Ps o.jobs
lines-more [] [] Ps o at = cc
lines-more [] (p ∷ os) Ps o at = cc
lines-more (Qs ∷ rounds) [] Ps o at =
    append-nil (lines_of_jobs Qs o.jobs) ∙ ap (λ (Xs : List Parts). lines_of_jobs Xs o.jobs) (same_Some Qs Ps at)
lines-more (Qs ∷ rounds) (p ∷ os) Ps o at =
    ap (λ ls. lines_of_jobs Qs p.jobs ++ ls) (lines-more rounds os Ps o at)
    ∙ sym (append_assoc (lines_of_jobs Qs p.jobs) (job_lines_of_rounds rounds os) (lines_of_jobs Ps o.jobs))

-- What there is from an element on.
from-here : {X : Type 0} (xs : List X) (i : ℕ) (x : X) → slice_get xs i ≡ Some x → drop i xs ≡ x ∷ drop (suc i) xs
from-here [] i x at = cc
from-here (y ∷ xs) zero x at = ap (λ z. z ∷ xs) (same_Some y x at)
from-here (y ∷ xs) (suc i) x at = from-here xs i x at

-- So many rounds were run, and all of their jobs are finished.
pub record IsSoFar (Rs : List Rule) (n : ℕ) (S : State) (rounds : List (List Parts)) (many : ℕ) (r : RoundsRun) : Type 0 where
  pub outcomes : List Outcome
  pub many_are : length outcomes ≡ many
  pub run : AreRunFrom Rs n S rounds outcomes
  pub all : AllFinished outcomes
  pub found : r.rounds ≡ length rounds
  pub lines : string_bytes r.lines ≡ job_lines_of_rounds rounds outcomes
  pub left : r.state ≡ final_state S outcomes
  pub finished : r.finished ≡ true
  pub error : r.error ≡ None

pub begun : (Rs : List Rule) (n : ℕ) (rounds : List (List Parts)) (r : RoundsRun) → IsBegun (length rounds) r
    → IsSoFar Rs n r.state rounds 0 r
begun Rs n rounds r b = record {
  outcomes = [];
  many_are = refl;
  run = tt;
  all = tt;
  found = b.found;
  lines = b.lines;
  left = refl;
  finished = b.finished;
  error = b.error;
}

-- All rounds were run.
pub ended : (Rs : List Rule) (n : ℕ) (S : State) (rounds : List (List Parts)) (many : ℕ) (r : RoundsRun) → AreWorkers n → IsSoFar Rs n S rounds many r
    → many ≡ length rounds → HaveRun Rs n S rounds r
ended Rs n S rounds many r w s e =
    let none : not_run rounds s.outcomes ≡ [] = subst (λ k. drop k rounds ≡ []) (sym (s.many_are ∙ e)) (drop-length rounds) in
    record {
      outcomes = s.outcomes;
      run = s.run;
      ends = subst (Ends Rs n S rounds s.outcomes) (sym s.error) (w, inl none);
      found = s.found;
      lines = s.lines;
      left = s.left;
      finished = (λ t. (w, s.all, none), λ h. s.finished);
    }

-- None was run, since so many workers may not run.
few-or-many : (n : ℕ) (e : RunFault) → RefusesWorkers n e → AreWorkers n → ⊥
few-or-many n error.NoWorkers r w = let few = w.0 in omega (arith, r, few)
few-or-many n error.TooManyWorkers r w = let many = w.1 in omega (arith, r, many)
few-or-many n _ r w = r

pub none-run : (Rs : List Rule) (n : ℕ) (rounds : List (List Parts)) (r : RoundsRun) (e : RunFault) → r.rounds ≡ length rounds → string_bytes r.lines ≡ []
    → r.finished ≡ false → r.error ≡ Some e → RefusesWorkers n e → HaveRun Rs n r.state rounds r
none-run Rs n rounds r e found lines unfinished is refused = record {
  outcomes = [];
  run = tt;
  ends = subst (Ends Rs n r.state rounds []) (sym is) (inl (refl, refused));
  found = found;
  lines = lines;
  left = refl;
  finished = (λ t. absurd (true≢false (sym t ∙ unfinished)), λ h. absurd (few-or-many n e refused h.0));
}

module _ (Rs : List Rule) (n : ℕ) (S : State) (rounds : List (List Parts)) (many : ℕ) (Ps : List Parts) (old new : RoundsRun)
    (w : AreWorkers n) (s : IsSoFar Rs n S rounds many old) (at : slice_get rounds many ≡ Some Ps) where
  here : slice_get rounds (length s.outcomes) ≡ Some Ps
  here = subst (λ k. slice_get rounds k ≡ Some Ps) (sym s.many_are) at

  -- The round was run on the state that those before it left.
  round-run : (o : Outcome) → IsSafeSet (round_set Rs Ps) → MayRun old.state Ps n → IsRunOn (round_set Rs Ps) old.state o
      → AreRunFrom Rs n S rounds (s.outcomes ++ o ∷ [])
  round-run o safe may run = run-more Rs n S rounds s.outcomes Ps o s.run s.all here (record {
    safe = safe;
    may = subst (λ T. MayRun T Ps n) s.left may;
    run = subst (λ T. IsRunOn (round_set Rs Ps) T o) s.left run;
  })

  round-lines : (o : Outcome) (ls : List ℕ) → string_bytes new.lines ≡ string_bytes old.lines ++ ls → ls ≡ lines_of_jobs Ps o.jobs
      → string_bytes new.lines ≡ job_lines_of_rounds rounds (s.outcomes ++ o ∷ [])
  round-lines o ls added own = added ∙ (ap₂ (λ xs ys. xs ++ ys) s.lines own ∙ sym (lines-more rounds s.outcomes Ps o here))

  -- All its jobs are finished: so it goes on.
  pub went-on : AddsRound Rs Ps n old new → new.finished ≡ true → IsSoFar Rs n S rounds (many + 1) new
  went-on step t = go step.round step.safe step.came step.added
    where
      go : (a : Result Run RunFault) → IsSafeSet (round_set Rs Ps) → ComesOf (round_set Rs Ps) old.state n a → IsAdded a old new
          → IsSoFar Rs n S rounds (many + 1) new
      go (Err e) safe came added = absurd (true≢false (sym t ∙ added.3))
      go (Ok r) safe came added = record {
        outcomes = s.outcomes ++ came.1.outcome ∷ [];
        many_are = length_push s.outcomes came.1.outcome ∙ ap (λ k. k + 1) s.many_are;
        run = round-run came.1.outcome safe came.0 came.1.run;
        all = all-more s.outcomes came.1.outcome s.all (came.1.finished.0 (sym added.2 ∙ t));
        found = added.4 ∙ s.found;
        lines = round-lines came.1.outcome (string_bytes r.lines) added.0 came.1.lines;
        left = added.1 ∙ (came.1.left ∙ sym (state-more S s.outcomes came.1.outcome));
        finished = t;
        error = added.3 ∙ s.error;
      }

  -- One isn't, or the round wasn't run: so it stops.
  pub stopped : AddsRound Rs Ps n old new → new.finished ≡ false → HaveRun Rs n S rounds new
  stopped step f = go step.round step.safe step.came step.added
    where
      go : (a : Result Run RunFault) → IsSafeSet (round_set Rs Ps) → ComesOf (round_set Rs Ps) old.state n a → IsAdded a old new
          → HaveRun Rs n S rounds new
      go (Err e) safe came added =
          let next : not_run rounds s.outcomes ≡ Ps ∷ drop (suc (length s.outcomes)) rounds = from-here rounds (length s.outcomes) Ps here in
          record {
            outcomes = s.outcomes;
            run = s.run;
            ends = subst (Ends Rs n S rounds s.outcomes) (sym added.4) (inr (record {
              finished = s.all;
              next = Ps;
              later = drop (suc (length s.outcomes)) rounds;
              not_run_are = next;
              safe = safe;
              reason = subst (λ T. PreventsRun T Ps n e) s.left (prevents old.state Ps n e added.0 came);
            }));
            found = added.5 ∙ s.found;
            lines = added.1 ∙ s.lines;
            left = added.2 ∙ s.left;
            finished = (λ t. absurd (true≢false (sym t ∙ f)), λ h. cc);
          }
      go (Ok r) safe came added =
          let unfinished : AllFinished (s.outcomes ++ came.1.outcome ∷ []) → ⊥ =
          λ all. true≢false (sym (came.1.finished.1 (last-finished s.outcomes came.1.outcome all)) ∙ (sym added.2 ∙ f)) in
          record {
            outcomes = s.outcomes ++ came.1.outcome ∷ [];
            run = round-run came.1.outcome safe came.0 came.1.run;
            ends = subst (Ends Rs n S rounds (s.outcomes ++ came.1.outcome ∷ [])) (sym (added.3 ∙ s.error)) (w, inr unfinished);
            found = added.4 ∙ s.found;
            lines = round-lines came.1.outcome (string_bytes r.lines) added.0 came.1.lines;
            left = added.1 ∙ (came.1.left ∙ sym (state-more S s.outcomes came.1.outcome));
            finished = (λ t. absurd (true≢false (sym t ∙ f)), λ h. absurd (unfinished h.1));
          }

-- Nobody is left out of the rounds, if no line says so: a line that does is found.
unfound : {X : Type 0} (p : X → Bool) (xs : List X) (x : X) (k : ℕ) → k < length xs → get_or xs k x ≡ x → p x ≡ true → find p xs ≡ None → ⊥
unfound p [] x k l e t f = omega (arith, l)
unfound p (y ∷ ys) x zero l e t f =
    none-some y (sym (subst (λ b. cond b (Some y) (find p ys) ≡ None) (subst (λ z. p z ≡ true) (sym e) t) f))
unfound p (y ∷ ys) x (suc k) l e t f = unfound p ys x k (omega (arith, l)) e t (go (p y) f)
  where
    go : (b : Bool) → cond b (Some y) (find p ys) ≡ None → find p ys ≡ None
    go true f = absurd (none-some y (sym f))
    go false f = f

-- What is in none of them is filtered out.
filtered-out : {X : Type 0} (p : X → Bool) (xs : List X) → ((i : ℕ) (x : X) → slice_get xs i ≡ Some x → p x ≡ false) → filter p xs ≡ []
filtered-out p [] h = refl
filtered-out p (y ∷ ys) h =
    ap (λ b. cond b (y ∷ filter p ys) (filter p ys)) (h 0 y refl) ∙ filtered-out p ys (λ i x at. h (suc i) x at)

in-a-round : (es : List CheckFault) (count i : ℕ) (where_it_is : Placing) → IsPlaced es count i where_it_is → find leaves_out es ≡ None
    → not (is_in_some where_it_is) ≡ false
in-a-round es count i (Round k) h f = refl
in-a-round es count i (Unplaced why) h f =
    let line = h.0 in
    absurd (unfound leaves_out es line.0 line.1.0 line.1.1 line.1.2 (ap is_alone line.2) f)

none-left : (M : Members) (es : List CheckFault) (r : Rounds) → AreRounds M es r → find leaves_out es ≡ None → r.left ≡ []
none-left M es r a f =
    a.left ∙ filtered-out (λ p. not (is_in_some p.placing)) a.placed (λ i p at. in-a-round es (length r.rounds) i p.placing (a.told i p at) f)

-- The rounds of a set were run.
pub set-run : (M : Members) (es : List CheckFault) (rounds : Rounds) (n : ℕ) (S : State) (r : RoundsRun) → AreFaults M es → AreRounds M es rounds
    → find leaves_out es ≡ None → HaveRun rounds.rules n S rounds.rounds r → HasRunByRounds M n S r
set-run M es rounds n S r all cut f h = record {
  faults = es;
  all = all;
  rounds = rounds;
  cut = cut;
  none_left = none-left M es rounds cut f;
  run = subst (λ (Rs : List Rule). HaveRun Rs n S rounds.rounds r) cut.rules h;
}

-- The first line that says why a profile is in no round.
pub first-alone : (M : Members) (es : List CheckFault) (e : CheckFault) → AreFaults M es → ((x : CheckFault) → Contains es x → Disproves M x)
    → find leaves_out es ≡ Some e → IsFirstAlone M e
first-alone M es e all disproved f =
    let n = position_or_len leaves_out es in
    let at : slice_get es n ≡ Some e = sym (find_at leaves_out es) ∙ f in
    record { faults = es; all = all; first = f; disproved = disproved e (n, slice_get_within es n e at, get_or_from_slice_get es n e e at) }

-- Read plainly, no profiles share an archive of Unison.
pub plain-lines : (M : Members) (es : List CheckFault) → AreLines M es → AreLinesAs Plain M es
plain-lines M es h = record { found = es; all = h; with_archives = sym (append-nil es) }

-- A round is refused, and not for want of memory.
pub unverified-run : (M : Members) (es : List CheckFault) (rounds : Rounds) (e : CheckFault) → AreFaults M es → AreRounds M es rounds
    → RefusesOneOf rounds.rules rounds.rounds e → is_memory e ≡ false → HasUnverifiedRound Plain M
unverified-run M es rounds e all cut h kept =
    let w = at-place rounds.rounds h.0 h.1 in
    let refused = subst (λ (Rs : List Rule). RefusesRound (round_set Rs h.0) e) cut.rules h.2 in
    record { lines = es; all = plain-lines M es (inl all); round = w.0; refused = refused-round M es rounds w.0 h.0 cut w.2 (e, refused, kept) }

-- And so where a set isn't cut into rounds.
pub uncut : (reading : Reading) (M : Members) (es : List CheckFault) (e : RoundsFault) → AreLinesAs reading M es → IsRoundsFault M es e → IsUncut reading M e
uncut reading M es (rounds_fault.NotVerified k) all h = record { lines = es; all = all; round = k; refused = h }
uncut reading M es rounds_fault.OutOfMemory all h = tt

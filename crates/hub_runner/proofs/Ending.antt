-- Jobs that are over, and how they end.
use Rattle.std.proofs.Common.{◌≡◌, ◌≢◌, ⊎_elim, Bool, true, false, cond, ◌||◌, List, [], ◌∷◌, ◌++◌, length, Some, refl, ap, sym, ◌∙◌, subst, arith}
use Rattle.std.specs.Prelude.{◌==◌, ℕ, slice_get, count_by, Result, Ok, Err, IfOk}
use Rattle.std.proofs.lemmas.Bool.{false≢true}
use Rattle.std.proofs.lemmas.Bool.Decides.{nat_tests}
use Rattle.std.proofs.lemmas.List.Sums.{length-filter}
use Rattle.std.proofs.lemmas.Option.{same_Some, slice_get_within}
use Rattle.hub_text.specs.laws.List.{snoc-cases}
use Rattle.hub_path.specs.Path.{Path}
use Rattle.hub_path.specs.declared.side.Side.{Side}
use Rattle.hub_profile.specs.Parts.{Parts}
use Rattle.hub_state.specs.State.{State}
use Rattle.hub_job.specs.declared.job_end.End.TheVariants as end
use Rattle.hub_job.specs.declared.job_end.JobEnd.{JobEnd}
use Rattle.hub_job.specs.declared.log.Entry.{Entry}
use Rattle.hub_job.specs.declared.op.Op.{Op}
use Rattle.hub_job.specs.declared.op.Next.{Next}
use Rattle.hub_job.specs.declared.op.Next.TheVariants.{Ask, Finished, Stopped}
use Rattle.hub_job.specs.declared.outcome.Outcome.{Outcome}
use Rattle.hub_job.specs.declared.run_fault.RunFault.{RunFault}
use Rattle.hub_job.specs.Ends.{end_by, end_of}
use Rattle.hub_job.specs.Job.{next}
use Rattle.hub_job.specs.JobValue.{JobValue, after_turn}
use Rattle.hub_history.specs.Book.{BookValue}
use Rattle.hub_schedule.specs.Promise.{Settles}
use Rattle.hub_schedule.specs.Simulated.{HaveEnded}
use Rattle.hub_runner.specs.Settling.{AreCompared, AreConsistent, EndAsTheyAre}
use Rattle.hub_runner.specs.Working.{AreEnded, AsksFor, asks_nothing, is_ended}
use Rattle.hub_runner.proofs.Lists.{only, passed}
use Rattle.hub_schedule.specs.Ended.{ended_value}

-- A job that asks for an operation in its turn has asked for it.
pub asks_after : (J K : JobValue) (side : Side) (op : Op) → K ≡ after_turn J K.stopped (Ask side op) → AsksFor K op
asks_after J K side op after = (record { side = side; op = op }, ap (λ (L : JobValue). L.asked) after, refl)

-- One job more.
pub over_push : (jobs : List JobValue) (J : JobValue) → AreEnded jobs → is_ended J ≡ true → (k : ℕ) (K : JobValue) → slice_get (jobs ++ J ∷ []) k ≡ Some K → is_ended K ≡ true
over_push jobs J all over k K at = ⊎_elim (λ old. all k K old) (λ new. ap is_ended (sym new.1) ∙ over) (snoc-cases jobs J K k at)

-- How a job ends that is over.
ends_by : (n : Next) → asks_nothing n ≡ true → end_by n ≢ end.Unfinished
ends_by (Ask side op) none = absurd (false≢true none)
ends_by Finished none = λ e. cc
ends_by Stopped none = λ e. cc

ends_with : (s : Bool) (n : Next) → (s || asks_nothing n) ≡ true → cond s end.Stopped (end_by n) ≢ end.Unfinished
ends_with true n over = λ e. cc
ends_with false n over = ends_by n over

has_ended : (J : JobValue) → is_ended J ≡ true → end_of J ≢ end.Unfinished
has_ended J over = ends_with J.stopped (next J.profile J.archive J.log) over

-- The job of a number.
due_job : (jobs : List JobValue) (j : ℕ) → count_by (λ J. J.number == j) jobs ≡ 1 → (k : ℕ) × (J : JobValue) × (slice_get jobs k ≡ Some J) × (J.number ≡ j)
due_job jobs j one =
    let p : JobValue → Bool = λ J. J.number == j in
    let first = only p jobs (length-filter p jobs ∙ one) in
    let w = passed p jobs 0 first.0 (ap (λ Js. slice_get Js 0) first.1) in
    let test : (first.0.number == j) ≡ true = w.1 in (
      w.0.0,
      first.0,
      w.0.1,
      grind (arith, nat_tests, test),
    )

-- Where exactly one job has each number, all have ended if all are over.
have_ended : (S : State) (Ps : List Parts) (jobs : List JobValue) (o : Outcome) → length o.jobs ≡ length Ps → AreConsistent S Ps jobs → EndAsTheyAre jobs o → AreEnded jobs
    → HaveEnded o.jobs
have_ended S Ps jobs o long due ends over = λ j e at.
    let inside = slice_get_within o.jobs j e at in
    let w = due_job jobs j (due.1 j (omega (arith, inside, long))) in
    let J = w.1 in
    let there : slice_get o.jobs j ≡ Some (ended_value J) = subst (λ i. slice_get o.jobs i ≡ Some (ended_value J)) w.3 (ends w.0 J w.2) in
    let same : ended_value J ≡ e = same_Some (ended_value J) e (sym there ∙ at) in
    subst (λ (d : JobEnd). d.end ≢ end.Unfinished) same (has_ended J (over w.0 J w.2))

-- What is settled of jobs that are over has ended.
pub ended_by : (S : State) (Ps : List Parts) (histories : Path → List Entry) (books : List BookValue) (jobs : List JobValue) (r : Result Outcome RunFault)
    → IfOk r (Settles S Ps histories) → IfOk r (λ o. AreCompared S Ps books jobs) → IfOk r (EndAsTheyAre jobs) → AreEnded jobs → IfOk r (λ o. HaveEnded o.jobs)
ended_by S Ps histories books jobs (Ok o) settles compared ends over = have_ended S Ps jobs o settles.outcome.all compared.due ends over
ended_by S Ps histories books jobs (Err f) settles compared ends over = tt

-- Jobs that have had no turn, among others.
use Rattle.std.proofs.Common.{◌≡◌, ⊎_elim, Bool, true, false, ◌+◌, List, [], ◌∷◌, ◌++◌, length, Some, refl, ap, sym, ◌∙◌, subst, arith}
use Rattle.std.specs.Prelude.{ℕ, zero, suc, slice_get, Result, Ok, Err, IfOk}
use Rattle.std.proofs.lemmas.Bool.{false≢true, or_left}
use Rattle.std.proofs.lemmas.Option.{same_Some, slice_get_within}
use Rattle.hub_text.specs.laws.List.{less-or-same, snoc-cases, snoc-new, snoc-old}
use Rattle.hub_path.specs.Path.{Path}
use Rattle.hub_profile.specs.Parts.{Parts}
use Rattle.hub_state.specs.State.{State}
use Rattle.hub_job.specs.declared.job_end.End.TheVariants as end
use Rattle.hub_job.specs.declared.log.Entry.{Entry}
use Rattle.hub_job.specs.declared.log.Logged.{Logged}
use Rattle.hub_job.specs.declared.outcome.Outcome.{Outcome}
use Rattle.hub_job.specs.declared.run_fault.RunFault.{RunFault}
use Rattle.hub_job.specs.Ends.{end_with, items_with}
use Rattle.hub_job.specs.Job.{next}
use Rattle.hub_job.specs.JobValue.{JobValue}
use Rattle.hub_schedule.specs.Ended.{ended_value}
use Rattle.hub_schedule.specs.Promise.{Settles}
use Rattle.hub_runner.specs.Part.{AreOthers, IsWaiting, OneWaits, OthersWait, is_in, without_turns}
use Rattle.hub_runner.specs.Settling.{EndAsTheyAre}
use Rattle.hub_runner.specs.Working.{AreEnded, asks_nothing, is_ended}

-- One number more.
waits_still : (jobs : List JobValue) (J : JobValue) (j : ℕ) → OneWaits jobs j
    → OneWaits (jobs ++ J ∷ []) j
waits_still jobs J j w = (w.0, w.1, snoc-old jobs J w.1 w.0 w.2, w.3, w.4)

pub others_in : (part : List Bool) (n : ℕ) (jobs : List JobValue) → AreOthers part n jobs
    → is_in part n ≡ true → AreOthers part (n + 1) jobs
others_in part n jobs are own = record {
  made = λ j l off. ⊎_elim (λ less. are.made j less off)
      (λ same. absurd (false≢true (sym off ∙ (ap (is_in part) same ∙ own)))) (less-or-same j n l);
  wait = are.wait;
}

pub others_out : (part : List Bool) (n : ℕ) (jobs : List JobValue) (J : JobValue)
    → AreOthers part n jobs → J.number ≡ n → IsWaiting J → AreOthers part (n + 1) (jobs ++ J ∷ [])
others_out part n jobs J are number waits = record {
  made = λ j l off. ⊎_elim (λ less. waits_still jobs J j (are.made j less off))
      (λ same. (length jobs, J, snoc-new jobs J, number ∙ sym same, waits)) (less-or-same j n l);
  wait = λ k K at. ⊎_elim (λ old. are.wait k K old)
      (λ new. subst (λ (X : JobValue). X.stopped ≡ true) new.1 waits.1) (snoc-cases jobs J K k at);
}

-- Those that wait and those that have ended.
first_there : (xs ys : List JobValue) (k : ℕ) (J : JobValue) → slice_get xs k ≡ Some J
    → slice_get (xs ++ ys) k ≡ Some J
first_there [] ys k J e = cc
first_there (x ∷ xs) ys zero J e = e
first_there (x ∷ xs) ys (suc k) J e = first_there xs ys k J e

stopped_ended : (J : JobValue) → J.stopped ≡ true → is_ended J ≡ true
stopped_ended J e = or_left J.stopped (asks_nothing (next J.profile J.archive J.log)) e

pub all_ended : (others jobs : List JobValue)
    → ((k : ℕ) (J : JobValue) → slice_get others k ≡ Some J → J.stopped ≡ true)
    → AreEnded jobs → AreEnded (others ++ jobs)
all_ended [] jobs wait ended k K e = ended k K e
all_ended (x ∷ others) jobs wait ended zero K e =
    subst (λ (X : JobValue). is_ended X ≡ true) (same_Some x K e) (stopped_ended x (wait 0 x refl))
all_ended (x ∷ others) jobs wait ended (suc k) K e =
    all_ended others jobs (λ i L at. wait (suc i) L at) ended k K e

waits_end : (J : JobValue) (s : Bool) (log : List Logged) → s ≡ true → log ≡ []
    → record { end = end_with s J.profile J.archive log; log = log; items = items_with s J.profile J.archive log }
    ≡ without_turns
waits_end J false log e f = absurd (false≢true e)
waits_end J true log e f = ap (λ l. record { end = end.Stopped; log = l; items = [] }) f

pub ends_waiting : (J : JobValue) → IsWaiting J → ended_value J ≡ without_turns
ends_waiting J w = waits_end J J.stopped J.log w.1 w.0

others_wait : (part : List Bool) (n : ℕ) (others jobs : List JobValue) (o : Outcome)
    → AreOthers part n others → EndAsTheyAre (others ++ jobs) o → length o.jobs ≡ n
    → OthersWait part o
others_wait part n others jobs o are ends all j e off at =
    let l = slice_get_within o.jobs j e at in
    let w = are.made j (omega (arith, l, all)) off in
    let there = ends w.0 w.1 (first_there others jobs w.0 w.1 w.2) in
    same_Some e without_turns
    (sym at ∙ (ap (slice_get o.jobs) (sym w.3) ∙ (there ∙ ap (λ x. Some x) (ends_waiting w.1 w.4))))

pub if_others_wait : (S : State) (Ps : List Parts) (histories : Path → List Entry)
    (part : List Bool) (others jobs : List JobValue) (r : Result Outcome RunFault)
    → AreOthers part (length Ps) others → IfOk r (Settles S Ps histories)
    → IfOk r (EndAsTheyAre (others ++ jobs)) → IfOk r (OthersWait part)
if_others_wait S Ps histories part others jobs (Ok o) are settles ends =
    others_wait part (length Ps) others jobs o are ends settles.outcome.all
if_others_wait S Ps histories part others jobs (Err f) are settles ends = tt

-- Runs of no wave, of one, and of all.
use Rattle.std.proofs.Common.{◌≡◌, ◌∙◌, Bool, true, false, List, [], ◌∷◌, ◌+◌, length, None, ap, refl, sym, subst, arith, add-one}
use Rattle.std.specs.Prelude.{◌==◌, ◌<◌, ℕ, Result, Ok, Err, IfOk, IfErr}
use Rattle.std.proofs.lemmas.Bool.Decides.{nat_tests}
use borrow.Author.Tests.{eqb-true}
use Rattle.hub_cert.specs.Set.{HasValidProfiles, Members}
use Rattle.hub_job.specs.declared.job_end.JobEnd.{JobEnd}
use Rattle.hub_job.specs.declared.outcome.Outcome.{Outcome}
use Rattle.hub_job.specs.declared.run_fault.RunFault.{RunFault}
use Rattle.hub_job.specs.declared.run_fault.RunFault.TheVariants as fault
use Rattle.hub_profile.specs.Parts.{Parts}
use Rattle.hub_runner.specs.Order.{IsSettledBy}
use Rattle.hub_runner.specs.Part.{OthersWait}
use Rattle.hub_runner.specs.Working.{AreWorkers, IsNotRun, MayRun}
use Rattle.hub_schedule.specs.Refusals.{first_missing}
use Rattle.hub_schedule.specs.Simulated.{HaveEnded}
use Rattle.hub_state.specs.State.{IsState, State}
use Rattle.hub_starter.specs.InOrder.{IsSerial}
use Rattle.hub_starter.specs.Waved.{AllWaves, AreMergedEnds, FirstWave, IsAfterWaves, IsNoJob, IsWaveOf, OfWaves, OneMoreWave, WaveIsSerial, part_for}
use Rattle.hub_starter.specs.Waves.{AreWaves, WavesValue}

-- No job.
abbrev pub NoneIsSerial : Type 0
NoneIsSerial = (S : State) → IsSerial S [] (record { state = S; jobs = [] })

no_job : (S : State) (o : Outcome) → IsNoJob S o
    → let none : Outcome = record { state = S; jobs = [] } in none ≡ o
no_job S o none i = record { state = sym none.state i; jobs = sym none.jobs i }

pub none_serial : NoneIsSerial → (S : State) (Ps : List Parts) (r : Result Outcome RunFault)
    → length Ps ≡ 0 → IfOk r (IsNoJob S) → IfOk r (IsSerial S Ps)
none_serial law S [] (Ok o) e none = subst (IsSerial S []) (no_job S o none) (law S)
none_serial law S [] (Err f) e none = tt
none_serial law S (P ∷ Ps) r e none = absurd (omega (arith, e))

none_left : (jobs : List JobEnd) → jobs ≡ [] → HaveEnded jobs
none_left [] e j d at = cc
none_left (x ∷ jobs) e j d at = cc

pub none_ended : (S : State) (r : Result Outcome RunFault) → IfOk r (IsNoJob S)
    → IfOk r (λ o. HaveEnded o.jobs)
none_ended S (Ok o) none = none_left o.jobs none.jobs
none_ended S (Err f) none = tt

none_missing : (S : State) (Ps : List Parts) → length Ps ≡ 0 → first_missing S Ps ≡ None
none_missing S [] e = refl
none_missing S (P ∷ Ps) e = absurd (omega (arith, e))

pub none_run : (S : State) (Ps : List Parts) (n : ℕ) (r : Result Outcome RunFault)
    → length Ps ≡ 0 → AreWorkers n → IfOk r (λ o. MayRun S Ps n)
none_run S Ps n (Ok o) e some = (some, none_missing S Ps e)
none_run S Ps n (Err f) e some = tt

out_of_memory : (S : State) (Ps : List Parts) (n : ℕ) (f : RunFault) → AreWorkers n
    → f ≡ fault.OutOfMemory → IsNotRun S Ps n f
out_of_memory S Ps n f some e = subst (IsNotRun S Ps n) (sym e) some

pub none_refused : (S : State) (Ps : List Parts) (n : ℕ) (r : Result Outcome RunFault)
    → AreWorkers n → IfErr r (λ f. f ≡ fault.OutOfMemory) → IfErr r (IsNotRun S Ps n)
none_refused S Ps n (Ok o) some e = tt
none_refused S Ps n (Err f) some e = out_of_memory S Ps n f some e

-- Profiles of a set, as they are borrowed.
pub some_profiles : (M N : Members) (Ps : List Parts) → N ≡ M → Ps ≡ N.profiles
    → 0 < length M.profiles → 0 < length Ps
some_profiles M N Ps e f l =
    let same : Ps ≡ M.profiles = f ∙ ap (λ (m : Members). m.profiles) e in
    subst (λ (Qs : List Parts). 0 < length Qs) (sym same) l

pub no_profiles : (M N : Members) (Ps : List Parts) (b : Bool) → N ≡ M → Ps ≡ N.profiles
    → b ≡ (length Ps == 0) → b ≡ true → length M.profiles ≡ 0
no_profiles M N Ps b e f is none =
    let same : Ps ≡ M.profiles = f ∙ ap (λ (m : Members). m.profiles) e in
    ap length (sym same) ∙ eqb-true (length Ps) 0 (sym is ∙ none)

pub has_profiles : (M N : Members) (Ps : List Parts) (b : Bool) → N ≡ M → Ps ≡ N.profiles
    → b ≡ (length Ps == 0) → b ≡ false → 0 < length M.profiles
has_profiles M N Ps b e f is off =
    let same : Ps ≡ M.profiles = f ∙ ap (λ (m : Members). m.profiles) e in
    let none : (length M.profiles == 0) ≡ false =
    ap (λ (Qs : List Parts). length Qs == 0) (sym same) ∙ (sym is ∙ off) in
    grind (arith, nat_tests, none)

module _ (S : State) (w : WavesValue) (are : AreWaves w)
    (valid : HasValidProfiles w.set) (state : IsState S) (n : ℕ) where
  -- One wave.
  pub one_wave : OfWaves WaveIsSerial → (k : ℕ) (part : List Bool) (o : Outcome)
      → part ≡ part_for w.numbers k → IsSettledBy S w.set.profiles w.pairs o → OthersWait part o
      → HaveEnded o.jobs → MayRun S w.set.profiles n → IsState o.state → IsWaveOf S w k o
  one_wave law k part o is settled wait ended may left =
      law S w are valid state may.1 k o settled
      (subst (λ (xs : List Bool). OthersWait xs o) is wait) ended left

  -- One wave after others.
  pub first_is_after : OfWaves FirstWave → (o : Outcome) → MayRun S w.set.profiles n
      → IsWaveOf S w 0 o → IsAfterWaves S w 1 o
  first_is_after law o may one = law S w are valid state may.1 o one

  pub one_more : OfWaves OneMoreWave → (k : ℕ) (o later m : Outcome)
      → MayRun S w.set.profiles n → IsAfterWaves S w k o → IsWaveOf o.state w k later
      → m.state ≡ later.state → AreMergedEnds w.numbers k o.jobs later.jobs m.jobs
      → IsAfterWaves S w (k + 1) m
  one_more law k o later m may before wave same merged =
      rw add-one (law S w are valid state may.1 k o later m before wave same merged)

  -- All waves.
  pub all_serial : OfWaves AllWaves → (r : Result Outcome RunFault)
      → IfOk r (IsAfterWaves S w w.count) → IfOk r (λ o. MayRun S w.set.profiles n)
      → IfOk r (IsSerial S w.set.profiles)
  all_serial law (Ok o) after may = law S w are valid state may.1 o after
  all_serial law (Err f) after may = tt

pub all_ended : (S : State) (w : WavesValue) (k : ℕ) (r : Result Outcome RunFault)
    → IfOk r (IsAfterWaves S w k) → IfOk r (λ o. HaveEnded o.jobs)
all_ended S w k (Ok o) after = after.some.ended
all_ended S w k (Err f) after = tt

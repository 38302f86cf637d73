-- What the laws on schedules say of a schedule that was run.
use Rattle.std.proofs.Common.{◌≡◌, ◌<◌, List, [], ◌∷◌, length, Some, Result, Ok, Err, IfOk, IfErr, arith}
use Rattle.std.specs.Prelude.{ℕ, slice_get}
use Rattle.std.proofs.lemmas.Option.{slice_get_within}
use Rattle.hub_profile.specs.Parts.{Parts}
use Rattle.hub_reach.specs.Safe.{Rule, IsSafe}
use Rattle.hub_state.specs.State.{State, IsState}
use Rattle.hub_job.specs.declared.outcome.Outcome.{Outcome}
use Rattle.hub_job.specs.declared.run_fault.RunFault.{RunFault}
use Rattle.hub_job.specs.Outcome.{IsOutcomeOf, IsSimulated, world_after}
use Rattle.hub_schedule.specs.Promise.{HasReplicas, IsAsIfAlone, IsAsPromised, Settles}
use Rattle.hub_schedule.specs.Refusals.{IsRunnable, IsUnrun}
use Rattle.hub_schedule.specs.Settled.{AreProfiles}
use Rattle.hub_schedule.specs.Simulated.{EnoughTurnsEnd, IsPromised, LogsAreOfTurns, LoneIsSynchronized, StoppedLostTurns, TurnsSuffice}
use Rattle.hub_job.specs.World.{first_turns}
use Rattle.hub_schedule.specs.laws.Unchanged.{IsStateFor, promise_none, alone_none}
use Rattle.hub_schedule.specs.laws.Missing.{have_replicas}
use Rattle.hub_schedule.specs.Safely.{OfKeptTurns, OfLostTurns, OfSafeRuns, OfSafeTurns}

some_profile : (Ps : List Parts) (j : ℕ) (P : Parts) → slice_get Ps j ≡ Some P → 0 < length Ps
some_profile Ps j P at = let h = slice_get_within Ps j P at in omega (arith, h)

abbrev pub SettlesLaw : Type 0
SettlesLaw = (S : State) (Ps : List Parts) (turns : List ℕ) (o : Outcome) → IsOutcomeOf S Ps turns o → Settles S Ps (world_after S Ps turns).history o

abbrev pub PromiseLaw : Type 0
PromiseLaw = OfSafeTurns (λ S Ps Rs turns o. IsAsPromised S Ps Rs (world_after S Ps turns).history o)

abbrev pub AloneLaw : Type 0
AloneLaw = OfSafeTurns (λ S Ps Rs turns o. IsAsIfAlone S Ps o)

as_promised : PromiseLaw → (S : State) (Ps : List Parts) (Rs : List Rule) (turns : List ℕ) (o : Outcome) → IsStateFor S Ps → HasReplicas S Ps → AreProfiles Ps → IsSafe Ps Rs → IsOutcomeOf S Ps turns o
    → Settles S Ps (world_after S Ps turns).history o → IsAsPromised S Ps Rs (world_after S Ps turns).history o
as_promised law S [] Rs turns o valid there facts safe is settles = promise_none S Rs (world_after S [] turns).history o settles
as_promised law S (P ∷ Ps) Rs turns o valid there facts safe is settles = law S (P ∷ Ps) Rs turns o (valid (omega arith)) there facts safe is

as_alone : AloneLaw → (S : State) (Ps : List Parts) (Rs : List Rule) (turns : List ℕ) (o : Outcome) → IsStateFor S Ps → HasReplicas S Ps → AreProfiles Ps → IsSafe Ps Rs → IsOutcomeOf S Ps turns o
    → IsAsIfAlone S Ps o
as_alone law S [] Rs turns o valid there facts safe is = alone_none S o
as_alone law S (P ∷ Ps) Rs turns o valid there facts safe is = law S (P ∷ Ps) Rs turns o (valid (omega arith)) there facts safe is

pub is_promised : SettlesLaw → PromiseLaw → AloneLaw → (S : State) (Ps : List Parts) (Rs : List Rule) (schedule : List ℕ) (o : Outcome) → IsStateFor S Ps → HasReplicas S Ps → AreProfiles Ps → IsSafe Ps Rs
    → IsSimulated S Ps schedule o → IsPromised S Ps Rs o
is_promised settle law alone S Ps Rs schedule o valid there facts safe is =
    let turns = first_turns is.0 schedule in
    let settles = settle S Ps turns o is.1 in
    ((world_after S Ps turns).history, settles, as_promised law S Ps Rs turns o valid there facts safe is.1 settles, as_alone alone S Ps Rs turns o valid there facts safe is.1)

pub lone_synchronized : OfSafeRuns LoneIsSynchronized → (S : State) (Ps : List Parts) (Rs : List Rule) (schedule : List ℕ) (o : Outcome) → IsStateFor S Ps → HasReplicas S Ps → AreProfiles Ps → IsSafe Ps Rs
    → IsSimulated S Ps schedule o → LoneIsSynchronized S Ps schedule o
lone_synchronized law S Ps Rs schedule o valid there facts safe is = λ j n P e one at ended going h.
    law S Ps Rs is.0 schedule o (valid (some_profile Ps j P at)) there facts safe is.1 is.2 j n P e one at ended going h

pub turns_suffice_for : ((S : State) (Ps : List Parts) → IsState S → AreProfiles Ps → TurnsSuffice S Ps) → (S : State) (Ps : List Parts) → IsStateFor S Ps → AreProfiles Ps → TurnsSuffice S Ps
turns_suffice_for law S Ps valid facts = λ j n P at h. law S Ps (valid (some_profile Ps j P at)) facts j n P at h

lost_turns : OfLostTurns StoppedLostTurns → (S : State) (Ps : List Parts) (Rs : List Rule) (schedule : List ℕ) (o : Outcome) → IsStateFor S Ps → AreProfiles Ps → IsSafe Ps Rs → IsSimulated S Ps schedule o → StoppedLostTurns S Ps schedule o
lost_turns law S Ps Rs schedule o valid facts safe is = λ j P e there at ended.
    law S Ps Rs is.0 schedule o (valid (some_profile Ps j P there)) facts safe is.1 is.3 j P e there at ended

-- What two facts of a result say together.
pub if_both : {X E : Type 0} (A B C : X → Type 0) (r : Result X E) → ((x : X) → A x → B x → C x) → IfOk r A → IfOk r B → IfOk r C
if_both A B C (Ok x) f a b = f x a b
if_both A B C (Err e) f a b = a

-- What is known of jobs that were run.
pub record HaveRun (S : State) (Ps : List Parts) (schedule : List ℕ) (r : Result Outcome RunFault) : Type 0 where
  pub world : IfOk r (IsSimulated S Ps schedule)
  pub run : IfOk r (λ o. IsRunnable S Ps schedule)
  pub refused : IfErr r (IsUnrun S Ps schedule)
  pub valid : IsStateFor S Ps

-- The laws, for the jobs of a safe set.
module _ (S : State) (Ps : List Parts) (Rs : List Rule) (schedule : List ℕ) (r : Result Outcome RunFault) (ran : HaveRun S Ps schedule r) (facts : AreProfiles Ps) (safe : IsSafe Ps Rs) where
  pub promise_of : SettlesLaw → PromiseLaw → AloneLaw → IfOk r (IsPromised S Ps Rs)
  promise_of settle law alone =
      if_both (IsSimulated S Ps schedule) (λ o. IsRunnable S Ps schedule) (IsPromised S Ps Rs) r
      (λ o is run. is_promised settle law alone S Ps Rs schedule o ran.valid (have_replicas S Ps run.0) facts safe is) ran.world ran.run

  pub lone_of : OfSafeRuns LoneIsSynchronized → IfOk r (LoneIsSynchronized S Ps schedule)
  lone_of law =
      if_both (IsSimulated S Ps schedule) (λ o. IsRunnable S Ps schedule) (LoneIsSynchronized S Ps schedule) r
      (λ o is run. lone_synchronized law S Ps Rs schedule o ran.valid (have_replicas S Ps run.0) facts safe is) ran.world ran.run

  pub logs_of : OfKeptTurns LogsAreOfTurns → IfOk r (LogsAreOfTurns S Ps schedule)
  logs_of law =
      if_both (IsSimulated S Ps schedule) (λ o. IsRunnable S Ps schedule) (LogsAreOfTurns S Ps schedule) r (λ o is run. law S Ps Rs is.0 schedule o safe is.1 is.2) ran.world ran.run

  pub lost_of : OfLostTurns StoppedLostTurns → IfOk r (StoppedLostTurns S Ps schedule)
  lost_of law =
      if_both (IsSimulated S Ps schedule) (λ o. IsRunnable S Ps schedule) (StoppedLostTurns S Ps schedule) r
      (λ o is run. lost_turns law S Ps Rs schedule o ran.valid facts safe is) ran.world ran.run

  pub enough_of : OfKeptTurns EnoughTurnsEnd → IfOk r (EnoughTurnsEnd S Ps schedule)
  enough_of law =
      if_both (IsSimulated S Ps schedule) (λ o. IsRunnable S Ps schedule) (EnoughTurnsEnd S Ps schedule) r (λ o is run. law S Ps Rs is.0 schedule o safe is.1 is.2) ran.world ran.run

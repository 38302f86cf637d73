-- What is said of the outcomes of safe sets.
use Rattle.std.specs.Prelude.{ℕ, List}
use Rattle.hub_path.specs.Path.{Path}
use Rattle.hub_profile.specs.Parts.{Parts}
use Rattle.hub_reach.specs.Safe.{Rule, IsSafe}
use Rattle.hub_state.specs.State.{State, IsState}
use Rattle.hub_job.specs.declared.log.Entry.{Entry}
use Rattle.hub_job.specs.declared.outcome.Outcome.{Outcome}
use Rattle.hub_tree.specs.Tree.{IsTree}
use Rattle.hub_job.specs.JobValue.{JobValue}
use Rattle.hub_job.specs.Outcome.{IsOutcomeOf, IsOutcomeWith, KeepsTurns, LosesTurns}
use Rattle.hub_job.specs.World.{Jobs, first_turns}
use Rattle.hub_schedule.specs.declared.slot.WorkingTree.{WorkingTree}
use Rattle.hub_schedule.specs.Ended.{AreEndedWith}
use Rattle.hub_schedule.specs.Promise.{HasReplicas, Settles, logs_in}
use Rattle.hub_schedule.specs.Settled.{AreProfiles, Histories, IsSettled, Logs, Replicas}

-- The claim holds where a set is safe, a state has its replicas, and histories settle an outcome.
abbrev pub OfSafeSets : (State → List Parts → List Rule → (Path → List Entry) → Outcome → Type 0)
    → Type 0
OfSafeSets C =
    (S : State) (Ps : List Parts) (Rs : List Rule) (histories : Path → List Entry) (o : Outcome)
    → IsState S → HasReplicas S Ps → AreProfiles Ps → IsSafe Ps Rs → Settles S Ps histories o
    → C S Ps Rs histories o

-- The claim holds where a set is safe, a state has its replicas, and an outcome is that of these
-- turns.
abbrev pub OfSafeTurns : (State → List Parts → List Rule → List ℕ → Outcome → Type 0) → Type 0
OfSafeTurns C =
    (S : State) (Ps : List Parts) (Rs : List Rule) (turns : List ℕ) (o : Outcome)
    → IsState S → HasReplicas S Ps → AreProfiles Ps → IsSafe Ps Rs → IsOutcomeOf S Ps turns o
    → C S Ps Rs turns o

-- The claim holds where a set is safe, and each job that wasn't stopped kept its turns of a
-- schedule.
abbrev pub OfKeptTurns : (State → List Parts → List ℕ → Outcome → Type 0) → Type 0
OfKeptTurns C =
    (S : State) (Ps : List Parts) (Rs : List Rule) (limit : ℕ → ℕ) (schedule : List ℕ) (o : Outcome)
    → IsSafe Ps Rs → IsOutcomeOf S Ps (first_turns limit schedule) o → KeepsTurns limit schedule o
    → C S Ps schedule o

-- The claim holds where a set is safe and its state is whole, and each job kept its turns, or lost
-- some.
abbrev pub OfSafeRuns : (State → List Parts → List ℕ → Outcome → Type 0) → Type 0
OfSafeRuns C =
    (S : State) (Ps : List Parts) (Rs : List Rule) (limit : ℕ → ℕ) (schedule : List ℕ) (o : Outcome)
    → IsState S → HasReplicas S Ps → AreProfiles Ps → IsSafe Ps Rs
    → IsOutcomeOf S Ps (first_turns limit schedule) o → KeepsTurns limit schedule o
    → C S Ps schedule o

abbrev pub OfLostTurns : (State → List Parts → List ℕ → Outcome → Type 0) → Type 0
OfLostTurns C =
    (S : State) (Ps : List Parts) (Rs : List Rule) (limit : ℕ → ℕ) (schedule : List ℕ) (o : Outcome)
    → IsState S → AreProfiles Ps → IsSafe Ps Rs → IsOutcomeOf S Ps (first_turns limit schedule) o
    → LosesTurns S Ps limit schedule o → C S Ps schedule o

-- The claim holds where histories fit the logs of the jobs of a safe set, whose replicas are trees.
abbrev pub OfSafeJobs : (Jobs → List Rule → Replicas → Histories → Type 0) → Type 0
OfSafeJobs C =
    (J : Jobs) (Rs : List Rule) (replicas : Replicas) (histories : Histories) (logs : Logs)
    → AreProfiles J.profiles → IsSafe J.profiles Rs → ((r : Path) → IsTree (replicas r))
    → IsSettled J replicas histories logs → C J Rs replicas histories

-- The claim holds of the profiles and replicas that these jobs and trees ended with.
abbrev pub OfEnded : State → List JobValue → List WorkingTree → (List Parts → Replicas → Type 0)
    → Type 0
OfEnded S jobs trees C =
    (Ps : List Parts) (replica : Replicas) → HasReplicas S Ps
    → AreEndedWith S Ps replica jobs trees → C Ps replica

-- The outcome is what these jobs and trees leave, with their own logs.
abbrev pub IsOutcomeOfJobs : State → List JobValue → List WorkingTree → Outcome → Type 0
IsOutcomeOfJobs S jobs trees o =
    OfEnded S jobs trees (λ Ps replica. IsOutcomeWith S Ps (logs_in o) replica o)

-- The claim holds where histories settle an outcome, of whatever set, and of a safe one.
abbrev pub OfSettledOutcomes : (State → List Parts → Outcome → Type 0) → Type 0
OfSettledOutcomes C =
    (S : State) (Ps : List Parts) (histories : Histories) (o : Outcome) → Settles S Ps histories o
    → C S Ps o

abbrev pub OfSafeOutcomes : (State → List Parts → Outcome → Type 0) → Type 0
OfSafeOutcomes C =
    (S : State) (Ps : List Parts) (Rs : List Rule) (histories : Histories) (o : Outcome)
    → IsState S → AreProfiles Ps → IsSafe Ps Rs → Settles S Ps histories o → C S Ps o

-- The claim holds where an outcome is that of these turns.
abbrev pub OfTurns : (State → List Parts → List ℕ → Outcome → Type 0) → Type 0
OfTurns C =
    (S : State) (Ps : List Parts) (turns : List ℕ) (o : Outcome) → IsOutcomeOf S Ps turns o
    → C S Ps turns o

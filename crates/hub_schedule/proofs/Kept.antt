-- What is promised is kept: all clauses for an outcome that histories settle.
use Rattle.std.proofs.Common.{◌≡◌, List, Some}
use Rattle.std.specs.Prelude.{ℕ, IsTrue, slice_get}
use Rattle.hub_path.specs.Path.{Path}
use Rattle.hub_profile.specs.Parts.{Parts}
use Rattle.hub_reach.specs.Reach.{has_root}
use Rattle.hub_reach.specs.Safe.{Rule, IsSafe}
use Rattle.hub_tree.specs.Tree.{Replica, IsTree}
use Rattle.hub_state.specs.State.{State, IsState}
use Rattle.hub_job.specs.declared.outcome.Outcome.{Outcome}
use Rattle.hub_job.specs.declared.log.Entry.{Entry}
use Rattle.hub_job.specs.declared.log.Logged.{Logged}
use Rattle.hub_job.specs.Same.{NoneClash}
use Rattle.hub_job.specs.World.{Jobs}
use Rattle.hub_schedule.specs.Settled.{AreProfiles, IsSettled}
use Rattle.hub_schedule.specs.Together.{left_at, LogsAreAlone, OthersAreLeftAlone, OwnPathsAreAlone, ElsewhereIsAsBefore, SetsAreAllowed}
use Rattle.hub_job.specs.Outcome.{jobs_of, replicas_of}
use Rattle.hub_schedule.specs.Promise.{logs_in, HasReplicas, Settles, FinishedAreSynchronized, EnoughTurnsFinish, IsAsIfAlone, IsAsPromised}
use Rattle.hub_schedule.proofs.Points.{safe_apart}
use Rattle.hub_schedule.specs.laws.Unchanged.{foreign, marks_stay}
use Rattle.hub_schedule.proofs.Promised.{state_trees, own, elsewhere, synchronized, enough_finish}

-- What the laws on histories and logs say, as lemmas take it.
abbrev pub LogsLaw : Type 0
LogsLaw = (J : Jobs) (replicas : Path → Replica) (histories : Path → List Entry) (logs : ℕ → List Logged)
    → NoneClash J.profiles → AreProfiles J.profiles → IsSettled J replicas histories logs → LogsAreAlone J replicas logs

abbrev pub OthersLaw : Type 0
OthersLaw = (J : Jobs) (replicas : Path → Replica) (histories : Path → List Entry) (logs : ℕ → List Logged)
    → NoneClash J.profiles → IsSettled J replicas histories logs → OthersAreLeftAlone J replicas histories

abbrev pub OwnLaw : Type 0
OwnLaw = (J : Jobs) (replicas : Path → Replica) (histories : Path → List Entry) (logs : ℕ → List Logged)
    → NoneClash J.profiles → AreProfiles J.profiles → IsSettled J replicas histories logs → OwnPathsAreAlone J replicas (left_at replicas histories) logs

abbrev pub ElsewhereLaw : Type 0
ElsewhereLaw = (J : Jobs) (replicas : Path → Replica) (histories : Path → List Entry) (logs : ℕ → List Logged) (j : ℕ) (P : Parts) (r : Path)
    → IsSettled J replicas histories logs → slice_get J.profiles j ≡ Some P → IsTrue (has_root P r)
    → ElsewhereIsAsBefore J.profiles r (replicas r) (left_at replicas histories r)

abbrev pub AllowedLaw : Type 0
AllowedLaw = (J : Jobs) (Rs : List Rule) (replicas : Path → Replica) (histories : Path → List Entry) (logs : ℕ → List Logged)
    → AreProfiles J.profiles → IsSafe J.profiles Rs → ((r : Path) → IsTree (replicas r)) → IsSettled J replicas histories logs
    → SetsAreAllowed J.profiles Rs replicas histories

own_paths : OwnLaw → (S : State) (Ps : List Parts) (Rs : List Rule) (histories : Path → List Entry) (o : Outcome) → HasReplicas S Ps → AreProfiles Ps → IsSafe Ps Rs → Settles S Ps histories o
    → OwnPathsAreAlone (jobs_of S Ps) (replicas_of S) (replicas_of o.state) (logs_in o)
own_paths law S Ps Rs histories o there facts safe settles =
    own S Ps histories o settles facts there (law (jobs_of S Ps) (replicas_of S) histories (logs_in o) (safe_apart Ps Rs safe) facts settles.settled)

pub all_finished : LogsLaw → OwnLaw → (S : State) (Ps : List Parts) (Rs : List Rule) (histories : Path → List Entry) (o : Outcome) → IsState S → HasReplicas S Ps → AreProfiles Ps → IsSafe Ps Rs → Settles S Ps histories o
    → FinishedAreSynchronized S Ps o
all_finished logs law S Ps Rs histories o valid there facts safe settles = λ j P e is at done.
    let alone = logs (jobs_of S Ps) (replicas_of S) histories (logs_in o) (safe_apart Ps Rs safe) facts settles.settled in
    synchronized S Ps histories o settles facts (state_trees S valid) alone j P e is at Rs safe (own_paths law S Ps Rs histories o there facts safe settles) done

pub all_enough : LogsLaw → (S : State) (Ps : List Parts) (Rs : List Rule) (histories : Path → List Entry) (o : Outcome) → IsState S → AreProfiles Ps → IsSafe Ps Rs → Settles S Ps histories o → EnoughTurnsFinish S Ps o
all_enough logs S Ps Rs histories o valid facts safe settles = λ j n P e is at going done h.
    let alone = logs (jobs_of S Ps) (replicas_of S) histories (logs_in o) (safe_apart Ps Rs safe) facts settles.settled in
    enough_finish S Ps histories o settles facts (state_trees S valid) alone j P e is at n going done h

pub promise_kept : LogsLaw → OthersLaw → OwnLaw → ElsewhereLaw → AllowedLaw → (S : State) (Ps : List Parts) (Rs : List Rule) (histories : Path → List Entry) (o : Outcome)
    → IsState S → HasReplicas S Ps → AreProfiles Ps → IsSafe Ps Rs → Settles S Ps histories o → IsAsPromised S Ps Rs histories o
promise_kept logs others law stays verbs S Ps Rs histories o valid there facts safe settles =
    let J = jobs_of S Ps in
    let R = replicas_of S in
    let apart = safe_apart Ps Rs safe in
    record {
      others = others J R histories (logs_in o) apart settles.settled;
      finished = all_finished logs law S Ps Rs histories o valid there facts safe settles;
      elsewhere = elsewhere S Ps histories o settles facts there (λ j P r is has. stays J R histories (logs_in o) j P r settles.settled is has);
      foreign = foreign S Ps histories o settles;
      marks = marks_stay S Ps histories o settles;
      archives = settles.outcome.pairs;
      allowed = verbs J Rs R histories (logs_in o) facts safe (state_trees S valid) settles.settled;
    }

pub alone_kept : LogsLaw → OwnLaw → (S : State) (Ps : List Parts) (Rs : List Rule) (histories : Path → List Entry) (o : Outcome)
    → IsState S → HasReplicas S Ps → AreProfiles Ps → IsSafe Ps Rs → Settles S Ps histories o → IsAsIfAlone S Ps o
alone_kept logs law S Ps Rs histories o valid there facts safe settles = record {
  logs = logs (jobs_of S Ps) (replicas_of S) histories (logs_in o) (safe_apart Ps Rs safe) facts settles.settled;
  own = own_paths law S Ps Rs histories o there facts safe settles;
  enough = all_enough logs S Ps Rs histories o valid facts safe settles;
}

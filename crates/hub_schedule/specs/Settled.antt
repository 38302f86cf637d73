-- Histories of replicas and logs of jobs that fit together. Nothing orders the entries of two
-- replicas.
use Rattle.std.specs.Prelude.{◌≡◌, ℕ, List, [], length, replicate, slice_get, Some, IsTrue}
use Rattle.hub_path.specs.Path.{Path}
use Rattle.hub_profile.specs.Parts.{Parts, IsProfile}
use Rattle.hub_reach.specs.Reach.{has_root}
use Rattle.hub_tree.specs.Tree.{Replica}
use Rattle.hub_job.specs.declared.log.Entry.{Entry}
use Rattle.hub_job.specs.declared.log.Logged.{Logged}
use Rattle.hub_job.specs.Alike.{Alike}
use Rattle.hub_job.specs.Run.{Runs}
use Rattle.hub_job.specs.World.{World, Jobs, log_of, alone, run, opening}
use Rattle.hub_job.specs.History.{replay, IsLegal, Agree}
use Rattle.hub_job.specs.Same.{NoneClash}

-- The replica and the history of each root, and the log of each job.
abbrev pub Replicas : Type 0
Replicas = Path → Replica

abbrev pub Histories : Type 0
Histories = Path → List Entry

abbrev pub Logs : Type 0
Logs = ℕ → List Logged

abbrev pub AreProfiles : List Parts → Type 0
AreProfiles Ps = (j : ℕ) (P : Parts) → slice_get Ps j ≡ Some P → IsProfile P

-- Each log is a run of its job; each root's history is legal from the opening; both agree.
pub record IsSettled (J : Jobs) (replicas : Path → Replica) (histories : Path → List Entry)
    (logs : ℕ → List Logged) : Type 0 where
  pub runs : (j : ℕ) (P : Parts) → slice_get J.profiles j ≡ Some P
      → Runs P (J.archive j) j [] (logs j)
  pub legal : (j : ℕ) (P : Parts) (r : Path) → slice_get J.profiles j ≡ Some P
      → IsTrue (has_root P r) → IsLegal J.profiles r (replicas r) (histories r)
  pub agree : Agree J.profiles histories logs

-- To a job these histories and logs are what it gets alone: its log, and all that its answers
-- depend on.
pub record IsAsAlone (J : Jobs) (replicas : Path → Replica) (histories : Path → List Entry)
    (logs : ℕ → List Logged) (j : ℕ) (P : Parts) : Type 0 where
  pub log : logs j ≡ alone J replicas j (length (logs j))
  pub alike : (r : Path) → IsTrue (has_root P r)
      → Alike P r (replay (replicas r) (histories r))
      ((run J (replicate (length (logs j)) j) (opening J replicas)).replica r)

-- The histories and the logs of a world fit together, each replica is what its history leaves of
-- the opening, and each job has a log.
pub record IsSettledWorld (J : Jobs) (replicas : Path → Replica) (w : World) : Type 0 where
  pub fits : IsSettled J replicas w.history (log_of w)
  pub replayed : (r : Path) → w.replica r ≡ replay (replicas r) (w.history r)
  pub count : length w.logs ≡ length J.profiles

-- To each job they are.
abbrev pub AreAsAlone : Jobs → Replicas → Histories → Logs → Type 0
AreAsAlone J replicas histories logs =
    (j : ℕ) (P : Parts) → slice_get J.profiles j ≡ Some P
    → IsAsAlone J replicas histories logs j P

-- The claim holds where histories and logs of jobs that don't clash fit together.
abbrev pub OfSettled : (Jobs → Replicas → Histories → Logs → Type 0) → Type 0
OfSettled C =
    (J : Jobs) (replicas : Replicas) (histories : Histories) (logs : Logs) → NoneClash J.profiles
    → AreProfiles J.profiles → IsSettled J replicas histories logs → C J replicas histories logs

-- The claim holds of a root of a job, where histories and logs fit together.
abbrev pub AtRootsOfJobs : (Jobs → Replicas → Histories → Path → Type 0) → Type 0
AtRootsOfJobs C =
    (J : Jobs) (replicas : Replicas) (histories : Histories) (logs : Logs) (j : ℕ) (P : Parts)
    (r : Path) → IsSettled J replicas histories logs → slice_get J.profiles j ≡ Some P
    → IsTrue (has_root P r) → C J replicas histories r

-- The claim holds where they fit together, and jobs don't clash.
abbrev pub OfApart : (Jobs → Replicas → Histories → Type 0) → Type 0
OfApart C =
    (J : Jobs) (replicas : Replicas) (histories : Histories) (logs : Logs) → NoneClash J.profiles
    → IsSettled J replicas histories logs → C J replicas histories

-- The claim holds of all turns of jobs, and of those of jobs that don't clash.
abbrev pub OfRuns : (Jobs → Replicas → List ℕ → Type 0) → Type 0
OfRuns C = (J : Jobs) (replicas : Replicas) (js : List ℕ) → C J replicas js

abbrev pub OfApartRuns : (Jobs → Replicas → List ℕ → Type 0) → Type 0
OfApartRuns C =
    (J : Jobs) (replicas : Replicas) (js : List ℕ) → NoneClash J.profiles → C J replicas js

-- Some jobs of a set, which run while the others wait.
use Rattle.std.specs.Prelude.{◌≡◌, ◌<◌, ℕ, Bool, true, false, List, [], slice_get, Some, unwrap_or}
use Rattle.hub_job.specs.declared.job_end.End.TheVariants as end
use Rattle.hub_job.specs.declared.job_end.JobEnd.{JobEnd}
use Rattle.hub_job.specs.declared.outcome.Outcome.{Outcome}
use Rattle.hub_job.specs.JobValue.{JobValue}

-- Whether the job of that number is in the part. One that the list doesn't reach isn't.
abbrev pub is_in : List Bool → ℕ → Bool
is_in part j = unwrap_or (slice_get part j) false

-- How a job ends that has had no turn.
abbrev pub without_turns : JobEnd
without_turns = record { end = end.Stopped; log = []; items = [] }

-- Each job that isn't in the part has had no turn.
abbrev pub OthersWait : List Bool → Outcome → Type 0
OthersWait part o =
    (j : ℕ) (e : JobEnd) → is_in part j ≡ false → slice_get o.jobs j ≡ Some e → e ≡ without_turns

-- A job that has had no turn, and is stopped.
abbrev pub IsWaiting : JobValue → Type 0
IsWaiting J = (J.log ≡ []) × (J.stopped ≡ true)

-- A job of that number waits.
abbrev pub OneWaits : List JobValue → ℕ → Type 0
OneWaits jobs j =
    (k : ℕ) × (J : JobValue) × (slice_get jobs k ≡ Some J) × (J.number ≡ j) × IsWaiting J

-- Of the first n jobs, each that isn't in the part waits.
abbrev pub OthersAreMade : List Bool → ℕ → List JobValue → Type 0
OthersAreMade part n jobs = (j : ℕ) → j < n → is_in part j ≡ false → OneWaits jobs j

-- They wait, and all of these jobs do.
pub record AreOthers (part : List Bool) (n : ℕ) (jobs : List JobValue) : Type 0 where
  pub made : OthersAreMade part n jobs
  pub wait : (k : ℕ) (J : JobValue) → slice_get jobs k ≡ Some J → J.stopped ≡ true

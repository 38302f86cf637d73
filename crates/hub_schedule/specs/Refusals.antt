-- Why a schedule isn't run.
use Rattle.std.specs.Prelude.{◌≡◌, ◌<◌, ◌≤◌, ℕ, not, List, find, Option, Some, None, is_some, slice_get, length}
use Rattle.std.specs.List.{flat_map}
use Rattle.hub_path.specs.Path.{Path}
use Rattle.hub_profile.specs.Parts.{Parts}
use Rattle.hub_state.specs.State.{State, replica_at}
use Rattle.hub_job.specs.declared.run_fault.RunFault.{RunFault}
use Rattle.hub_job.specs.declared.run_fault.RunFault.TheVariants as fault

-- The first of these roots that has no replica.
abbrev pub missing_of : State → List Path → Option Path
missing_of S rs = find (λ r. not (is_some (replica_at S r))) rs

-- The first root of profiles that has no replica, the left one first.
abbrev pub first_missing : State → List Parts → Option Path
first_missing S Ps = missing_of S (flat_map (λ P. P.roots) Ps)

-- The turn of that number names no job.
abbrev pub IsBad : List ℕ → ℕ → ℕ → Type 0
IsBad js jobs t = (j : ℕ) × (slice_get js t ≡ Some j) × (jobs ≤ j)

-- The first turn of a schedule that names no job.
abbrev pub IsFirstBad : List ℕ → ℕ → Option ℕ → Type 0
IsFirstBad js jobs None = (i j : ℕ) → slice_get js i ≡ Some j → j < jobs
IsFirstBad js jobs (Some t) =
    IsBad js jobs t × ((i j : ℕ) → i < t → slice_get js i ≡ Some j → j < jobs)

-- Why a schedule isn't run: a replica is missing, or none is and a turn names no job. Or there is
-- no memory.
abbrev pub IsUnrun : State → List Parts → List ℕ → RunFault → Type 0
IsUnrun S Ps js fault.NoWorkers = ⊥
IsUnrun S Ps js fault.TooManyWorkers = ⊥
IsUnrun S Ps js (fault.MissingReplica r) = first_missing S Ps ≡ Some r
IsUnrun S Ps js (fault.Mismatch r j history log) = ⊥
IsUnrun S Ps js (fault.BadTurn t) = (first_missing S Ps ≡ None) × IsFirstBad js (length Ps) (Some t)
IsUnrun S Ps js fault.ThreadRefused = ⊥
IsUnrun S Ps js (fault.Stranger j) = ⊥
IsUnrun S Ps js fault.OutOfMemory = Unit {0}

-- Nothing is missing, and each turn names a job.
abbrev pub IsRunnable : State → List Parts → List ℕ → Type 0
IsRunnable S Ps js = (first_missing S Ps ≡ None) × IsFirstBad js (length Ps) None

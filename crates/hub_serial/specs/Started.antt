-- What a starter does in a run: it starts jobs, gives each its archive, and puts in the marks of those
-- that are done.
use Rattle.std.specs.Prelude.{◌≡◌, ◌≢◌, ℕ, List, [], ◌∷◌, slice_get, Some}
use Rattle.hub_path.specs.Path.{Path}
use Rattle.hub_profile.specs.Parts.{Parts}
use Rattle.hub_tree.specs.Tree.{Replica, Archive}
use Rattle.hub_serial.specs.Clash.{JobsClash}
use Rattle.hub_serial.specs.RunRecord.{IsAsRecorded, RunRecord, WorkAsRecorded, archives_after_end, serial_world}
use Rattle.hub_serial.specs.Starter.{JobEvent, JobStatus, KeepsApart, all_wait, with_status}
use Rattle.hub_serial.specs.Starter.JobEvent.{Start, Turn, End}
use Rattle.hub_serial.specs.Starter.JobStatus.{Running, Ended}
use Rattle.hub_serial.specs.World.{RootPair, pair_of}

-- The jobs that these events start, in order.
abbrev pub starts_of : List JobEvent → List ℕ
starts_of [] = []
starts_of (Start j ∷ es) = j ∷ starts_of es
starts_of (Turn j ∷ es) = starts_of es
starts_of (End j ∷ es) = starts_of es

-- The archives after these events: at its end a job that is done puts its marks in.
abbrev pub archives_after_events : List Parts → RunRecord → List JobEvent → (RootPair → Archive)
    → RootPair → Archive
archives_after_events Ps R [] archives = archives
archives_after_events Ps R (Start j ∷ es) archives = archives_after_events Ps R es archives
archives_after_events Ps R (Turn j ∷ es) archives = archives_after_events Ps R es archives
archives_after_events Ps R (End j ∷ es) archives =
    archives_after_events Ps R es (archives_after_end Ps R j archives)

-- At its start each job is given the archive of its pair as it stands.
abbrev pub GivesAsItStands : List Parts → RunRecord → List JobEvent → (RootPair → Archive) → Type 0
GivesAsItStands Ps R [] archives = Unit {0}
GivesAsItStands Ps R (Start j ∷ es) archives =
    ((P : Parts) → slice_get Ps j ≡ Some P → R.given j ≡ archives (pair_of P))
    × GivesAsItStands Ps R es archives
GivesAsItStands Ps R (Turn j ∷ es) archives = GivesAsItStands Ps R es archives
GivesAsItStands Ps R (End j ∷ es) archives =
    GivesAsItStands Ps R es (archives_after_end Ps R j archives)

-- Only a job that runs ends.
abbrev pub OnlyRunningEnd : (ℕ → JobStatus) → List JobEvent → Type 0
OnlyRunningEnd statuses [] = Unit {0}
OnlyRunningEnd statuses (Start i ∷ es) = OnlyRunningEnd (with_status statuses i Running) es
OnlyRunningEnd statuses (Turn i ∷ es) = OnlyRunningEnd statuses es
OnlyRunningEnd statuses (End i ∷ es) =
    (statuses i ≡ Running) × OnlyRunningEnd (with_status statuses i Ended) es

-- After these events the job doesn't run.
abbrev pub NoLongerRuns : (ℕ → JobStatus) → List JobEvent → ℕ → Type 0
NoLongerRuns statuses [] j = statuses j ≢ Running
NoLongerRuns statuses (Start i ∷ es) j = NoLongerRuns (with_status statuses i Running) es j
NoLongerRuns statuses (Turn i ∷ es) j = NoLongerRuns statuses es j
NoLongerRuns statuses (End i ∷ es) j = NoLongerRuns (with_status statuses i Ended) es j

-- The events of a starter: it keeps jobs that clash apart, a job ends only if it runs, and in the end
-- no job runs. Each archive was given as it stood, and the jobs are recorded in the order of their
-- starts.
pub record AreStarterEvents (Ps : List Parts) (R : RunRecord) (archives : RootPair → Archive)
    (es : List JobEvent) : Type 0 where
  pub apart : KeepsApart (JobsClash Ps) all_wait es
  pub ends : OnlyRunningEnd all_wait es
  pub over : (j : ℕ) → NoLongerRuns all_wait es j
  pub given : GivesAsItStands Ps R es archives
  pub started : R.started ≡ starts_of es

-- The serial run, of the jobs in the order in which they started, has what is recorded, and leaves
-- the replicas that the histories leave and the archives that the starter left; and in it each job
-- works on what the ones before it left.
pub record HasSerialRun (Ps : List Parts) (replicas : Path → Replica)
    (archives : RootPair → Archive) (R : RunRecord) (es : List JobEvent) : Type 0 where
  pub recorded : IsAsRecorded Ps replicas archives R (serial_world Ps replicas archives R)
  pub left : (serial_world Ps replicas archives R).archive
      ≡ archives_after_events Ps R es archives
  pub work : WorkAsRecorded Ps replicas archives R

-- What a schedule's outcome is, turn by turn.
use Rattle.std.specs.Prelude.{◌≡◌, ◌≢◌, ◌<◌, ◌≤◌, ◌==◌, ℕ, List, length, replicate, slice_get, Some, count_by}
use Rattle.hub_path.specs.Path.{Path}
use Rattle.hub_path.specs.declared.side.Side.{Side}
use Rattle.hub_path.specs.declared.side.Side.TheVariants.{Left, Right}
use Rattle.hub_profile.specs.Parts.{Parts}
use Rattle.hub_tree.specs.Tree.{contents_at, old_mark_at}
use Rattle.hub_reconcile.specs.Sync.{synced_mark}
use Rattle.hub_state.specs.State.{State}
use Rattle.hub_job.specs.declared.job_end.End.TheVariants as end
use Rattle.hub_job.specs.declared.job_end.JobEnd.{JobEnd}
use Rattle.hub_job.specs.declared.outcome.Outcome.{Outcome}
use Rattle.hub_job.specs.declared.op.Next.TheVariants.{Finished}
use Rattle.hub_job.specs.Job.{next, steps_made}
use Rattle.hub_job.specs.Run.{root_at, turns_bound}
use Rattle.hub_job.specs.World.{alone}
use Rattle.hub_job.specs.Outcome.{archive_of, jobs_of, replicas_of}
use Rattle.hub_reach.specs.Safe.{Rule}
use Rattle.hub_job.specs.declared.log.Entry.{Entry}
use Rattle.hub_schedule.specs.Promise.{IsAsIfAlone, IsAsPromised, IsSynchronized, Settles, synced_at, view_at}

-- How many turns a job has in a schedule.
abbrev pub turns_of : ℕ → List ℕ → ℕ
turns_of j schedule = count_by (λ i. i == j) schedule

-- As many turns as any synchronization of a profile's two replicas takes.
abbrev pub turns_enough : State → Parts → ℕ
turns_enough S P =
    turns_bound P (replicas_of S (root_at P Left)) (replicas_of S (root_at P Right))

-- Each job of the profiles has so many turns in a schedule.
abbrev pub AllHaveEnough : State → List Parts → List ℕ → Type 0
AllHaveEnough S Ps schedule =
    (j : ℕ) (P : Parts) → slice_get Ps j ≡ Some P → turns_enough S P ≤ turns_of j schedule

-- So many turns are enough for each job of the profiles.
abbrev pub AreEnoughForAll : State → List Parts → ℕ → Type 0
AreEnoughForAll S Ps n = (j : ℕ) (P : Parts) → slice_get Ps j ≡ Some P → turns_enough S P ≤ n

-- Each job has ended.
abbrev pub HaveEnded : List JobEnd → Type 0
HaveEnded jobs = (j : ℕ) (e : JobEnd) → slice_get jobs j ≡ Some e → e.end ≢ end.Unfinished

-- Each job is finished.
abbrev pub AreFinished : List JobEnd → Type 0
AreFinished jobs = (j : ℕ) (e : JobEnd) → slice_get jobs j ≡ Some e → e.end ≡ end.Finished

-- Each job's log is the one that the job gets alone in as many turns as the schedule gives it; if
-- it was stopped, perhaps in fewer.
abbrev pub LogsAreOfTurns : State → List Parts → List ℕ → Outcome → Type 0
LogsAreOfTurns S Ps schedule o =
    (j : ℕ) (P : Parts) (e : JobEnd) → slice_get Ps j ≡ Some P → slice_get o.jobs j ≡ Some e
    → (n : ℕ) × (n ≤ turns_of j schedule) × (e.log ≡ alone (jobs_of S Ps) (replicas_of S) j n)
    × (e.end ≢ end.Stopped → n ≡ turns_of j schedule)

-- A stopped job lost a turn: its log has fewer entries than the schedule has turns of it. If it has
-- made a step of its plan, it isn't finished.
abbrev pub StoppedLostTurns : State → List Parts → List ℕ → Outcome → Type 0
StoppedLostTurns S Ps schedule o =
    (j : ℕ) (P : Parts) (e : JobEnd) → slice_get Ps j ≡ Some P → slice_get o.jobs j ≡ Some e
    → e.end ≡ end.Stopped
    → (length e.log < turns_of j schedule)
    × (0 < steps_made e.log → next P (archive_of S (Some P)) e.log ≢ Finished)

-- A job that wasn't stopped, and that had as many turns as it takes alone until it is finished, is
-- finished.
abbrev pub EnoughTurnsEnd : State → List Parts → List ℕ → Outcome → Type 0
EnoughTurnsEnd S Ps schedule o =
    (j n : ℕ) (P : Parts) (e : JobEnd) → slice_get Ps j ≡ Some P → slice_get o.jobs j ≡ Some e
    → e.end ≢ end.Stopped
    → next P (archive_of S (Some P)) (alone (jobs_of S Ps) (replicas_of S) j n) ≡ Finished
    → n ≤ turns_of j schedule → e.end ≡ end.Finished

-- So many turns are always enough.
abbrev pub TurnsSuffice : State → List Parts → Type 0
TurnsSuffice S Ps =
    (j n : ℕ) (P : Parts) → slice_get Ps j ≡ Some P → turns_enough S P ≤ n
    → next P (archive_of S (Some P)) (alone (jobs_of S Ps) (replicas_of S) j n) ≡ Finished

-- A job that ran alone, as its end and the state after it show: it is finished, and the whole of
-- its two replicas and of their archive, and its items, are those of one synchronization.
pub record IsLoneSynchronization (S : State) (P : Parts) (e : JobEnd) (after : State) : Type 0 where
  pub finished : e.end ≡ end.Finished
  pub synchronized : IsSynchronized S P e after
  pub contents : (k : Side) (q : Path)
      → contents_at (replicas_of after (root_at P k)) q ≡ synced_at S P k q
  pub marks : (q : Path) → old_mark_at (archive_of after (Some P)) q ≡ synced_mark (view_at S P) q

-- If one job alone has turns, at least so many, and wasn't stopped, it has synchronized.
abbrev pub LoneIsSynchronized : State → List Parts → List ℕ → Outcome → Type 0
LoneIsSynchronized S Ps schedule o =
    (j n : ℕ) (P : Parts) (e : JobEnd) → schedule ≡ replicate n j → slice_get Ps j ≡ Some P
    → slice_get o.jobs j ≡ Some e → e.end ≢ end.Stopped → turns_enough S P ≤ n
    → IsLoneSynchronization S P e o.state

-- There are histories that settle the outcome, and it is as promised, and as if each job had been
-- alone.
abbrev pub IsPromised : State → List Parts → List Rule → Outcome → Type 0
IsPromised S Ps Rs o =
    (histories : Path → List Entry) × Settles S Ps histories o × IsAsPromised S Ps Rs histories o
    × IsAsIfAlone S Ps o

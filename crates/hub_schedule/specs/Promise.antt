-- The promise of a safe set: what its jobs leave of a state, whatever the order of their turns.
use Rattle.std.specs.Prelude.{◌≡◌, ◌≢◌, ◌≤◌, ℕ, false, List, [], length, slice_get, Option, Some, None, IsTrue, unwrap_or}
use Rattle.std.specs.List.{list_any}
use Rattle.std.specs.FinMap as fin
use Rattle.hub_path.specs.Path.{Path, is_place}
use Rattle.hub_path.specs.declared.side.Side.{Side}
use Rattle.hub_path.specs.declared.side.Side.TheVariants.{Left, Right}
use Rattle.hub_profile.specs.Parts.{Parts}
use Rattle.hub_reach.specs.Reach.{reach, has_root}
use Rattle.hub_reach.specs.Safe.{Rule}
use Rattle.hub_tree.specs.Tree.{Replica, contents_at, old_mark_at}
use Rattle.hub_tree.specs.declared.contents.Contents.{Contents}
use Rattle.hub_reconcile.specs.View.{View}
use Rattle.hub_reconcile.specs.Items.{items}
use Rattle.hub_reconcile.specs.Sync.{view_of, synced_contents, synced_mark}
use Rattle.hub_state.specs.State.{State, replica_at, archive_at}
use Rattle.hub_job.specs.declared.job_end.End.TheVariants as end
use Rattle.hub_job.specs.declared.job_end.JobEnd.{JobEnd}
use Rattle.hub_job.specs.declared.outcome.Outcome.{Outcome}
use Rattle.hub_job.specs.declared.log.Entry.{Entry}
use Rattle.hub_job.specs.declared.log.Logged.{Logged}
use Rattle.hub_job.specs.declared.op.Next.TheVariants.{Finished}
use Rattle.hub_job.specs.Job.{next, is_refused}
use Rattle.hub_job.specs.World.{alone}
use Rattle.hub_job.specs.Run.{root_at}
use Rattle.hub_job.specs.History.{replay}
use Rattle.hub_schedule.specs.Settled.{IsSettled}
use Rattle.hub_schedule.specs.Together.{LogsAreAlone, OthersAreLeftAlone, OwnPathsAreAlone, ElsewhereIsAsBefore, SetsAreAllowed}
use Rattle.hub_job.specs.Outcome.{archive_of, jobs_of, replicas_of, ArchivesAreThere, IsOutcomeWith}

abbrev pub log_or_none : Option JobEnd → List Logged
log_or_none None = []
log_or_none (Some e) = e.log

-- The log of each job of an outcome.
abbrev pub logs_in : Outcome → ℕ → List Logged
logs_in o j = log_or_none (slice_get o.jobs j)

-- The state has a replica for each root of the profiles.
abbrev pub HasReplicas : State → List Parts → Type 0
HasReplicas S Ps =
    (j : ℕ) (P : Parts) (r : Path) → slice_get Ps j ≡ Some P → IsTrue (has_root P r)
    → (m : Replica) × (replica_at S r ≡ Some m)

-- These histories settle the outcome: they are legal from the state's replicas and agree with its
-- logs, which are runs of the jobs; and its replicas are those that the histories leave.
pub record Settles (S : State) (Ps : List Parts) (histories : Path → List Entry) (o : Outcome) :
    Type 0 where
  pub settled : IsSettled (jobs_of S Ps) (replicas_of S) histories (logs_in o)
  pub outcome : IsOutcomeWith S Ps (logs_in o) (λ r. replay (replicas_of S r) (histories r)) o

-- The view of a profile's two replicas and of their archive in a state.
abbrev pub view_at : State → Parts → View
view_at S P =
    view_of P (replicas_of S (root_at P Left)) (replicas_of S (root_at P Right))
    (archive_of S (Some P))

-- What one synchronization of them leaves at a path of a side.
abbrev pub synced_at : State → Parts → Side → Path → Contents
synced_at S P k q =
    synced_contents P (replicas_of S (root_at P Left)) (replicas_of S (root_at P Right))
    (archive_of S (Some P)) k q

-- What one synchronization of a profile's two replicas leaves of a state on the paths that the
-- profile reaches: contents, marks of the archive, and the job's items. Nothing was refused to the
-- job.
pub record IsSynchronized (S : State) (P : Parts) (e : JobEnd) (after : State) : Type 0 where
  pub ok : list_any (λ e. is_refused e.step.answer) e.log ≡ false
  pub contents : (k : Side) (q : Path) → IsTrue (reach P q)
      → contents_at (replicas_of after (root_at P k)) q ≡ synced_at S P k q
  pub marks : (q : Path) → IsTrue (reach P q)
      → old_mark_at (archive_of after (Some P)) q ≡ synced_mark (view_at S P) q
  pub items : e.items ≡ items (view_at S P)

-- Each finished job has synchronized its replicas and their archive.
abbrev pub FinishedAreSynchronized : State → List Parts → Outcome → Type 0
FinishedAreSynchronized S Ps o =
    (j : ℕ) (P : Parts) (e : JobEnd) → slice_get Ps j ≡ Some P → slice_get o.jobs j ≡ Some e
    → e.end ≡ end.Finished → IsSynchronized S P e o.state

-- A replica of no profile is the same as before.
abbrev pub ForeignAreAsBefore : State → List Parts → State → Type 0
ForeignAreAsBefore S Ps after =
    (r : Path) → IsTrue (is_place r) → list_any (λ P. has_root P r) Ps ≡ false
    → replica_at after r ≡ replica_at S r

-- No finished job of the pair reaches the path.
abbrev pub NoneFinishedReaches : List Parts → Outcome → Path → Path → Path → Type 0
NoneFinishedReaches Ps o r s p =
    (j : ℕ) (P : Parts) (e : JobEnd) → slice_get Ps j ≡ Some P → slice_get o.jobs j ≡ Some e
    → e.end ≡ end.Finished → IsTrue (has_root P r) → IsTrue (has_root P s) → reach P p ≡ false

-- The archive of a pair of roots has its old mark at each path that no finished job of the pair
-- reaches.
abbrev pub OldMarksStay : State → List Parts → Outcome → Type 0
OldMarksStay S Ps o =
    (r s p : Path) → IsTrue (is_place r) → IsTrue (is_place s) → r ≢ s
    → NoneFinishedReaches Ps o r s p
    → old_mark_at (unwrap_or (archive_at o.state r s) fin.empty) p
    ≡ old_mark_at (unwrap_or (archive_at S r s) fin.empty) p

-- A job that wasn't stopped, and whose log has as many entries as turns after which the job alone
-- is finished, is finished.
abbrev pub EnoughTurnsFinish : State → List Parts → Outcome → Type 0
EnoughTurnsFinish S Ps o =
    (j n : ℕ) (P : Parts) (e : JobEnd) → slice_get Ps j ≡ Some P → slice_get o.jobs j ≡ Some e
    → e.end ≢ end.Stopped
    → next P (archive_of S (Some P)) (alone (jobs_of S Ps) (replicas_of S) j n) ≡ Finished
    → n ≤ length e.log → e.end ≡ end.Finished

-- What becomes of the paths: the jobs of a safe set, in whatever order they take turns, are in
-- nobody's way.
pub record IsAsPromised (S : State) (Ps : List Parts) (Rs : List Rule)
    (histories : Path → List Entry) (o : Outcome) : Type 0 where
  -- No job changed what another one reaches or passes through.
  pub others : OthersAreLeftAlone (jobs_of S Ps) (replicas_of S) histories
  -- What a finished job left is one synchronization.
  pub finished : FinishedAreSynchronized S Ps o
  -- All else is as before.
  pub elsewhere : (r : Path) → IsTrue (is_place r)
      → ElsewhereIsAsBefore Ps r (replicas_of S r) (replicas_of o.state r)
  pub foreign : ForeignAreAsBefore S Ps o.state
  pub marks : OldMarksStay S Ps o
  -- Each archive that was there is there, and that of each pair with a finished job; and no other
  -- one.
  pub archives : ArchivesAreThere S Ps o
  -- Each Set was allowed.
  pub allowed : SetsAreAllowed Ps Rs (replicas_of S) histories

-- What becomes of the jobs: to each one of a safe set it is as if it had been alone.
pub record IsAsIfAlone (S : State) (Ps : List Parts) (o : Outcome) : Type 0 where
  -- Each job got the answers that it gets alone.
  pub logs : LogsAreAlone (jobs_of S Ps) (replicas_of S) (logs_in o)
  -- On its own paths each job left what it leaves alone.
  pub own : OwnPathsAreAlone (jobs_of S Ps) (replicas_of S) (replicas_of o.state) (logs_in o)
  -- A job with enough turns is finished.
  pub enough : EnoughTurnsFinish S Ps o

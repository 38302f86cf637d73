-- Jobs that have ended, with the replicas that they leave.
use Rattle.std.specs.Prelude.{◌≡◌, ℕ, true, List, length, slice_get, Some}
use Rattle.std.specs.List.{list_any}
use Rattle.hub_path.specs.Path.{Path}
use Rattle.hub_path.specs.declared.side.Side.{Side}
use Rattle.hub_profile.specs.Parts.{Parts, IsProfile}
use Rattle.hub_reach.specs.Reach.{has_root}
use Rattle.hub_tree.specs.Tree.{Replica}
use Rattle.hub_state.specs.State.{State}
use Rattle.hub_job.specs.declared.job_end.JobEnd.{JobEnd}
use Rattle.hub_job.specs.Ends.{end_of, items_of}
use Rattle.hub_job.specs.Outcome.{archive_of}
use Rattle.hub_job.specs.Run.{root_at}
use Rattle.hub_job.specs.JobValue.{JobValue}
use Rattle.hub_schedule.specs.declared.slot.Slot.{Slot}
use Rattle.hub_schedule.specs.declared.slot.WorkingTree.{WorkingTree}
use Rattle.hub_schedule.specs.Table.{place_on, AreTrees, IsTreeNumber}

-- How the job ends.
abbrev pub ended_value : JobValue → JobEnd
ended_value J = record { end = end_of J; log = J.log; items = items_of J }

-- The job of this number: it was made for the number's profile, and for the archive of that
-- profile's roots in the state.
pub record IsEnded (S : State) (Ps : List Parts) (j : ℕ) (J : JobValue) : Type 0 where
  pub is : slice_get Ps j ≡ Some J.profile
  pub archive : J.archive ≡ archive_of S (Some J.profile)
  pub number : J.number ≡ j

-- Both replicas of a profile are there.
abbrev pub HasPlaces : List WorkingTree → Parts → Type 0
HasPlaces trees P = (k : Side) → (n : ℕ) × IsTreeNumber trees (root_at P k) n

-- The jobs of profiles, by number, and the replicas of all their roots, each once.
pub record AreEndedWith (S : State) (Ps : List Parts) (replica : Path → Replica)
    (jobs : List JobValue) (trees : List WorkingTree) : Type 0 where
  pub each : (j : ℕ) (K : JobValue) → slice_get jobs j ≡ Some K → IsEnded S Ps j K
  pub count : length jobs ≡ length Ps
  pub replicas : AreTrees replica trees
  pub places : (j : ℕ) (P : Parts) → slice_get Ps j ≡ Some P → HasPlaces trees P
  pub roots : (k : ℕ) (t : WorkingTree) → slice_get trees k ≡ Some t
      → list_any (λ P. has_root P t.root.now) Ps ≡ true

-- These are ended jobs of some profiles, with the replicas that they leave.
abbrev pub AreEndedJobs : State → List JobValue → List WorkingTree → Type 0
AreEndedJobs S jobs trees =
    (Ps : List Parts) × (replica : Path → Replica) × AreEndedWith S Ps replica jobs trees

-- A job with the numbers of its replicas.
pub record IsSlotOf (trees : List WorkingTree) (J : JobValue) (s : Slot) : Type 0 where
  pub valid : IsProfile s.job.profile
  pub job : s.job ≡ J
  pub places : (k : Side) → IsTreeNumber trees (root_at s.job.profile k) (place_on s k)

-- The jobs, in their order, with the numbers of their replicas.
pub record AreSlotsOf (trees : List WorkingTree) (jobs : List JobValue) (slots : List Slot) :
    Type 0 where
  pub each : (j : ℕ) (s : Slot) → slice_get slots j ≡ Some s → (J : JobValue)
      × (slice_get jobs j ≡ Some J) × IsSlotOf trees J s
  pub count : length slots ≡ length jobs

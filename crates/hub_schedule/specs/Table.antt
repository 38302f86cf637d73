-- Jobs and replicas that a schedule works on, against the world that they stand for.
use Rattle.std.specs.Prelude.{◌≡◌, ◌≢◌, ◌≤◌, ◌<◌, ◌⊎◌, ◌==◌, ℕ, Bool, true, false, List, length, slice_get, count_by, Some, if◌then◌else◌}
use Rattle.std.specs.List.{list_any}
use Rattle.hub_path.specs.Path.{Path}
use Rattle.hub_path.specs.declared.side.Side.{Side}
use Rattle.hub_path.specs.declared.side.Side.TheVariants.{Left, Right}
use Rattle.hub_profile.specs.Parts.{Parts, IsProfile, some_passes}
use Rattle.hub_state.specs.State.{State}
use Rattle.hub_job.specs.declared.outcome.Outcome.{Outcome}
use Rattle.hub_job.specs.declared.job_end.End.TheVariants as end
use Rattle.hub_job.specs.declared.job_end.JobEnd.{JobEnd}
use Rattle.hub_job.specs.declared.op.Next.TheVariants.{Finished, Stopped}
use Rattle.hub_job.specs.Job.{is_ask, next, steps_made}
use Rattle.hub_job.specs.Outcome.{archive_of, jobs_of, replicas_of, IsOutcomeWith}
use Rattle.hub_schedule.specs.Promise.{HasReplicas}
use Rattle.hub_reach.specs.Reach.{has_root}
use Rattle.hub_tree.specs.Tree.{Replica, Archive}
use Rattle.hub_schedule.specs.declared.slot.Slot.{Slot}
use Rattle.hub_schedule.specs.declared.slot.WorkingTree.{WorkingTree}
use Rattle.hub_job.specs.declared.asked.Asked.{Asked}
use Rattle.hub_job.specs.JobValue.{JobValue, new_job, stopped_job, with_answer}
use Rattle.hub_job.specs.Machine.{after, answer}
use Rattle.hub_job.specs.Run.{root_at}
use Rattle.hub_job.specs.World.{World, Jobs, log_of, opening, run, first_turns, turn}

abbrev pub place_on : Slot → Side → ℕ
place_on s Left = s.left
place_on s Right = s.right

abbrev pub with_job : Slot → JobValue → Slot
with_job s job = record s { job = job }

abbrev pub with_tree_after : WorkingTree → Replica → WorkingTree
with_tree_after t m = record t { tree = m }

-- Whether there is a job of this number, and it was stopped.
abbrev pub stopped_at : List Slot → ℕ → Bool
stopped_at slots j = some_passes (λ s. s.job.stopped) (slice_get slots j)

-- The replica of a root has this number.
abbrev pub IsTreeNumber : List WorkingTree → Path → ℕ → Type 0
IsTreeNumber trees r k = (t : WorkingTree) × (slice_get trees k ≡ Some t) × (t.root.now ≡ r)

-- None of the first n replicas is that of a root.
abbrev pub IsNotIn : List WorkingTree → ℕ → Path → Type 0
IsNotIn trees n r = (k : ℕ) (t : WorkingTree) → k < n → slice_get trees k ≡ Some t → t.root.now ≢ r

-- None of the replicas is that of a root.
abbrev pub HasNoTree : List WorkingTree → Path → Type 0
HasNoTree trees r = IsNotIn trees (length trees) r

-- All replicas keep their numbers, and each new one is that of a root.
abbrev pub KeepNumbers : List WorkingTree → List WorkingTree → Type 0
KeepNumbers old new =
    (k : ℕ) (t : WorkingTree) → slice_get old k ≡ Some t → slice_get new k ≡ Some t

abbrev pub NewAreAt : Path → List WorkingTree → List WorkingTree → Type 0
NewAreAt r old new =
    (k : ℕ) (t : WorkingTree) → slice_get new k ≡ Some t
    → (slice_get old k ≡ Some t) ⊎ (t.root.now ≡ r)

-- Each replica is that of its root, and no root is there twice.
pub record AreTrees (replica : Path → Replica) (trees : List WorkingTree) : Type 0 where
  pub each : (k : ℕ) (t : WorkingTree) → slice_get trees k ≡ Some t → t.tree ≡ replica t.root.now
  pub once : (i k : ℕ) (t u : WorkingTree) → slice_get trees i ≡ Some t → slice_get trees k ≡ Some u
      → t.root.now ≡ u.root.now → i ≡ k

-- A job of this number, profile and archive, that has asked nothing.
pub record IsNew (j : ℕ) (P : Parts) (O : Archive) (s : Slot) : Type 0 where
  pub valid : IsProfile P
  pub job : s.job ≡ new_job j P O

-- All replicas keep their numbers, and each new one has a root of the profile.
pub record AddsTrees (P : Parts) (old new : List WorkingTree) : Type 0 where
  pub kept : (k : ℕ) (t : WorkingTree) → slice_get old k ≡ Some t → slice_get new k ≡ Some t
  pub rest : (k : ℕ) (t : WorkingTree) → slice_get new k ≡ Some t → (slice_get old k ≡ Some t)
      ⊎ (has_root P t.root.now ≡ true)

-- The numbers of a job's replicas are numbers of replicas.
abbrev pub AreTreeNumbers : List Slot → List WorkingTree → Type 0
AreTreeNumbers slots trees =
    (j : ℕ) (s : Slot) (k : Side) → slice_get slots j ≡ Some s → place_on s k < length trees

-- A job of a world: its profile, archive, number and log, and the numbers of its replicas.
pub record IsSlot (J : Jobs) (w : World) (trees : List WorkingTree) (j : ℕ) (s : Slot) :
    Type 0 where
  pub is : slice_get J.profiles j ≡ Some s.job.profile
  pub valid : IsProfile s.job.profile
  pub archive : s.job.archive ≡ J.archive j
  pub number : s.job.number ≡ j
  pub log : s.job.log ≡ log_of w j
  pub places : (k : Side) → IsTreeNumber trees (root_at s.job.profile k) (place_on s k)

-- These jobs and replicas are those of a world.
pub record ShowsWorld (J : Jobs) (w : World) (slots : List Slot) (trees : List WorkingTree) :
    Type 0 where
  pub each : (j : ℕ) (s : Slot) → slice_get slots j ≡ Some s → IsSlot J w trees j s
  pub count : length slots ≡ length J.profiles
  pub logs : length w.logs ≡ length J.profiles
  pub replicas : AreTrees w.replica trees
  pub roots : (k : ℕ) (t : WorkingTree) → slice_get trees k ≡ Some t
      → list_any (λ P. has_root P t.root.now) J.profiles ≡ true

-- These jobs and replicas are those of the opening of a state's world.
abbrev pub ShowsOpening : State → List Parts → List Slot → List WorkingTree → Type 0
ShowsOpening S Ps slots trees =
    ShowsWorld (jobs_of S Ps) (opening (jobs_of S Ps) (replicas_of S)) slots trees

-- The world after a turn of a job, or the same world, where the job is stopped.
abbrev pub world_then : Jobs → List Slot → ℕ → World → World
world_then J slots j w = if stopped_at slots j then w else turn J j w

-- These jobs and replicas are what a turn of a job makes of the first ones.
abbrev pub HasTurned : List Slot → List WorkingTree → ℕ → List Slot → List WorkingTree → Type 0
HasTurned slots trees j slots_now trees_now =
    (J : Jobs) (w : World) → ShowsWorld J w slots trees
    → ShowsWorld J (world_then J slots_now j w) slots_now trees_now

-- The job has the answer of the replica, and the replica is what the operation leaves of it.
abbrev pub IsAnswered : Slot → WorkingTree → Asked → Slot → WorkingTree → Type 0
IsAnswered s t a s_now t_now =
    (s_now ≡ with_job s (with_answer s.job a (answer t.tree s.job.profile t.root.now a.op)))
    × (t_now ≡ with_tree_after t (after t.tree a.op))

-- The job has no answer: it was stopped, and the replica is as before.
abbrev pub IsUnanswered : Slot → WorkingTree → Slot → WorkingTree → Type 0
IsUnanswered s t s_now t_now = (s_now ≡ with_job s (stopped_job s.job)) × (t_now ≡ t)

-- If the job is stopped and has made a step, it would have asked for another one.
abbrev pub WouldAsk : JobValue → Type 0
WouldAsk J =
    J.stopped ≡ true → 0 < steps_made J.log → is_ask (next J.profile J.archive J.log) ≡ true

abbrev pub AllWouldAsk : List Slot → Type 0
AllWouldAsk slots = (j : ℕ) (s : Slot) → slice_get slots j ≡ Some s → WouldAsk s.job

abbrev pub StayStopped : (ℕ → Bool) → (ℕ → Bool) → Type 0
StayStopped before after = (j : ℕ) → before j ≡ true → after j ≡ true

-- At most the job of this number is stopped meanwhile.
abbrev pub OnlyStops : (ℕ → Bool) → (ℕ → Bool) → ℕ → Type 0
OnlyStops before after n = (j : ℕ) → after j ≡ true → before j ≡ false → j ≡ n

-- The world v is what turns of a schedule make of w, if each job has so many of its turns: a job
-- that was stopped before has none, one that isn't stopped afterwards has all, and one that was
-- stopped meanwhile has fewer.
pub record IsThinned (J : Jobs) (w v : World) (schedule : List ℕ) (before after : ℕ → Bool) :
    Type 0 where
  pub limit : ℕ → ℕ
  pub world : v ≡ run J (first_turns limit schedule) w
  pub none : (j : ℕ) → before j ≡ true → limit j ≡ 0
  pub all : (j : ℕ) → after j ≡ false → count_by (λ i. i == j) schedule ≤ limit j
  pub lost : (j : ℕ) → before j ≡ false → after j ≡ true → limit j < count_by (λ i. i == j) schedule
  pub stays : StayStopped before after

-- These jobs and replicas are what turns of a schedule make of the first ones.
abbrev pub HaveTurned : List Slot → List WorkingTree → List ℕ → List Slot → List WorkingTree
    → Type 0
HaveTurned slots trees schedule slots_now trees_now =
    (J : Jobs) (w : World) → ShowsWorld J w slots trees
    → (v : World) × ShowsWorld J v slots_now trees_now
    × IsThinned J w v schedule (stopped_at slots) (stopped_at slots_now)

-- From these jobs and replicas, a schedule has come as far as others, and the rest of it is left.
abbrev pub Taken : List Slot → List WorkingTree → List ℕ → List Slot → List WorkingTree → List ℕ
    → Type 0
Taken slots trees schedule slots_now trees_now rest =
    (J : Jobs) (w : World) → ShowsWorld J w slots trees
    → (v : World) × ShowsWorld J v slots_now trees_now
    × ((u : World) (after : ℕ → Bool) → IsThinned J v u rest (stopped_at slots_now) after
    → IsThinned J w u schedule (stopped_at slots) after)

-- What jobs and replicas that a state began with leave.
pub record IsOutcomeAfter (S : State) (slots : List Slot) (trees : List WorkingTree) (o : Outcome) :
    Type 0 where
  -- It is the outcome of each world that they stand for.
  pub leaves : (Ps : List Parts) (w : World) → HasReplicas S Ps
      → ShowsWorld (jobs_of S Ps) w slots trees → IsOutcomeWith S Ps (log_of w) w.replica o
  -- A job ends as stopped if it was stopped,
  pub going : (j : ℕ) (e : JobEnd) → slice_get o.jobs j ≡ Some e → e.end ≢ end.Stopped
      → stopped_at slots j ≡ false
  -- or if an answer in its log stops it. A job that was stopped would have asked for another step,
  -- if that is so of all of these.
  pub stopped : (Ps : List Parts) (w : World) (j : ℕ) (P : Parts) (e : JobEnd)
      → ShowsWorld (jobs_of S Ps) w slots trees
      → slice_get Ps j ≡ Some P → slice_get o.jobs j ≡ Some e → e.end ≡ end.Stopped
      → next P (archive_of S (Some P)) e.log ≢ Stopped
      → (stopped_at slots j ≡ true)
      × (AllWouldAsk slots → 0 < steps_made e.log → next P (archive_of S (Some P)) e.log ≢ Finished)

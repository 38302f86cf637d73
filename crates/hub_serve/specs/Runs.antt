-- What is written below `safe` if jobs are to be run.
use Rattle.std.specs.Prelude.{◌≡◌, ◌≢◌, ◌⊎◌, ◌↔◌, ◌++◌, ℕ, Bool, true, false, List, [], map, string_bytes}
use Rattle.std.specs.Prelude.{Result, Ok, Err}
use Rattle.hub_profile.specs.Parts.{Parts}
use Rattle.hub_cert.specs.Set.{Members, IsSafeSet, forbidden_by}
use Rattle.hub_state.specs.State.{State}
use Rattle.hub_state.specs.Writing.{state_text}
use Rattle.hub_job.specs.declared.outcome.Outcome.{Outcome}
use Rattle.hub_job.specs.declared.run_fault.RunFault.{RunFault}
use Rattle.hub_job.specs.declared.run_fault.RunFault.TheVariants as fault
use Rattle.hub_schedule.specs.Simulated.{AreFinished, HaveEnded, IsPromised}
use Rattle.hub_runner.specs.Working.{IsNotRun, MayRun}
use Rattle.hub_report.specs.declared.run.Run.{Run}
use Rattle.hub_report.specs.Jobs.{lines_of_jobs}
use Rattle.hub_report.specs.Run.{error_line}
use Rattle.hub_serve.specs.declared.task.Task.{Task}
use Rattle.hub_serve.specs.declared.task.Task.TheVariants as task

-- The outcome of the jobs of a set on a state is as promised.
abbrev pub IsPromisedOf : Members → State → Outcome → Type 0
IsPromisedOf M S o = IsPromised S M.profiles (map forbidden_by M.rules) o

-- The jobs of a set were run on a state, this is the outcome, and each of them has ended.
pub record IsRunOn (M : Members) (S : State) (o : Outcome) : Type 0 where
  pub promised : IsPromisedOf M S o
  pub ended : HaveEnded o.jobs

-- That is what is said of the jobs of profiles with this outcome, and the state that they left.
pub record TellsOutcome (Ps : List Parts) (o : Outcome) (r : Run) : Type 0 where
  pub lines : string_bytes r.lines ≡ lines_of_jobs Ps o.jobs
  pub left : r.state ≡ o.state
  pub finished : r.finished ≡ true ↔ AreFinished o.jobs

-- They were run on this state: that is what is said of them, and the state that they left.
pub record HasRun (M : Members) (S : State) (r : Run) : Type 0 where
  pub outcome : Outcome
  pub run : IsRunOn M S outcome
  pub lines : string_bytes r.lines ≡ lines_of_jobs M.profiles outcome.jobs
  pub left : r.state ≡ outcome.state
  pub finished : r.finished ≡ true ↔ AreFinished outcome.jobs

-- Why the jobs of profiles aren't run on a state by n workers, where that is told: for lack of memory
-- it isn't.
abbrev pub PreventsRun : State → List Parts → ℕ → RunFault → Type 0
PreventsRun S Ps n fault.OutOfMemory = ⊥
PreventsRun S Ps n f = IsNotRun S Ps n f

abbrev pub is_out_of_memory : RunFault → Bool
is_out_of_memory fault.OutOfMemory = true
is_out_of_memory f = false

-- The claim holds of what was to be run of a safe set, where this is why it wasn't.
abbrev pub OfUnrun : RunFault → (Members → State → ℕ → Type 0) → Type 0
OfUnrun f C =
    (M : Members) (S : State) (n : ℕ) → IsSafeSet M → IsNotRun S M.profiles n f → C M S n

-- What comes of the jobs of a set that are to be run on a state by n workers.
abbrev pub ComesOf : Members → State → ℕ → Result Run RunFault → Type 0
ComesOf M S n (Ok r) = MayRun S M.profiles n × HasRun M S r
ComesOf M S n (Err f) = IsNotRun S M.profiles n f

-- The jobs of a safe set were to be run, and were run: they left this,
pub record HasRunAs (t : Task) (M : Members) (r : Run) : Type 0 where
  pub workers : ℕ
  pub state : State
  pub task_is : t ≡ task.RunJobs workers state
  pub safe : IsSafeSet M
  pub may : MayRun state M.profiles workers
  pub run : HasRun M state r

-- or weren't, for this reason.
pub record IsPrevented (t : Task) (M : Members) (e : RunFault) : Type 0 where
  pub workers : ℕ
  pub state : State
  pub task_is : t ≡ task.RunJobs workers state
  pub safe : IsSafeSet M
  pub reason : PreventsRun state M.profiles workers e

-- These are the lines of the jobs, and below them the text of the state that they left. The status
-- is 0 exactly if each of them is finished, else 3.
pub record WritesRun (M : Members) (S : State) (status : ℕ) (below : List ℕ) : Type 0 where
  pub outcome : Outcome
  pub run : IsRunOn M S outcome
  pub text : below ≡ lines_of_jobs M.profiles outcome.jobs ++ state_text outcome.state
  pub finished : status ≡ 0 ↔ AreFinished outcome.jobs
  pub others : status ≢ 0 → status ≡ 3

-- This is the line that says why n workers didn't run them. The status is 3.
pub record WritesError (M : Members) (S : State) (n status : ℕ) (below : List ℕ) : Type 0 where
  pub error : RunFault
  pub reason : PreventsRun S M.profiles n error
  pub text : below ≡ error_line error
  pub status_is : status ≡ 3

-- What is to follow `safe`, with the status if all is written: nothing and 0, unless jobs are to be
-- run.
abbrev pub IsBelow : Task → Members → ℕ → List ℕ → Type 0
IsBelow (task.Check reading) M status below = (status ≡ 0) × (below ≡ [])
IsBelow (task.RunJobs n S) M status below =
    (MayRun S M.profiles n × WritesRun M S status below) ⊎ WritesError M S n status below
IsBelow (task.RunByRounds n S) M status below = ⊥
IsBelow (task.RunInOrder n S) M status below = ⊥
IsBelow task.Certify M status below = ⊥
IsBelow task.Verify M status below = ⊥
IsBelow (task.Clashes reading) M status below = (status ≡ 0) × (below ≡ [])
IsBelow (task.Graph reading) M status below = ⊥
IsBelow (task.Rounds reading) M status below = ⊥

-- Runs of the jobs of a set on a state, whether it is safe or not, as if its profiles ran one after
-- another, in their order.
use Rattle.std.specs.Prelude.{◌≡◌, ◌≢◌, ◌⊎◌, ◌↔◌, ◌++◌, ℕ, List, None, Result, Ok, Err}
use Rattle.std.specs.List.{find}
use Rattle.hub_cert.specs.Set.{Members}
use Rattle.hub_cert.specs.declared.fault.CheckFault.{CheckFault}
use Rattle.hub_search.specs.Faults.{AreFaults}
use Rattle.hub_rounds.specs.declared.placing.Obstacle.{Obstacle}
use Rattle.hub_state.specs.State.{State}
use Rattle.hub_state.specs.Writing.{state_text}
use Rattle.hub_job.specs.declared.outcome.Outcome.{Outcome}
use Rattle.hub_job.specs.declared.run_fault.RunFault.{RunFault}
use Rattle.hub_schedule.specs.Simulated.{AreFinished, HaveEnded}
use Rattle.hub_runner.specs.Working.{IsNotRun, MayRun}
use Rattle.hub_starter.specs.InOrder.{IsSerial}
use Rattle.hub_starter.specs.Waves.{IsWavesFault, NoneBreaks}
use Rattle.hub_starter.specs.declared.fault.WavesFault.TheVariants.{MayBreak}
use Rattle.hub_report.specs.declared.run.Run.{Run}
use Rattle.hub_report.specs.Jobs.{lines_of_jobs}
use Rattle.hub_serve.specs.declared.task.Task.{Task}
use Rattle.hub_serve.specs.declared.task.Task.TheVariants as task
use Rattle.hub_serve.specs.ByRounds.{leaves_out}
use Rattle.hub_serve.specs.Runs.{PreventsRun, TellsOutcome, WritesError}

-- The jobs of a set were run on a state, and this is the outcome: that of the jobs one after another,
-- in the order of their profiles, each on what the ones before it left. Each of them has ended.
pub record IsRunInOrder (M : Members) (S : State) (o : Outcome) : Type 0 where
  pub serial : IsSerial S M.profiles o
  pub ended : HaveEnded o.jobs

-- They were run on this state: that is what is said of them, and the state that they left.
pub record HasRunInOrder (M : Members) (S : State) (r : Run) : Type 0 where
  pub outcome : Outcome
  pub run : IsRunInOrder M S outcome
  pub told : TellsOutcome M.profiles outcome r

-- What comes of the jobs of a set that are to be run in order, on a state and by n workers.
abbrev pub ComesInOrder : Members → State → ℕ → Result Run RunFault → Type 0
ComesInOrder M S n (Ok r) = MayRun S M.profiles n × HasRunInOrder M S r
ComesInOrder M S n (Err f) = IsNotRun S M.profiles n f

-- The claim holds of what was to be run in order of a set of which no profile breaks a rule, where
-- this is why it wasn't.
abbrev pub OfUnrunInOrder : RunFault → (Members → State → ℕ → Type 0) → Type 0
OfUnrunInOrder f C =
    (M : Members) (S : State) (n : ℕ) → NoneBreaks M → IsNotRun S M.profiles n f → C M S n

-- A run in order was asked for, of a set of which no profile breaks a rule, and was made: it left
-- this,
pub record HasRunInOrderAs (t : Task) (M : Members) (r : Run) : Type 0 where
  pub workers : ℕ
  pub state : State
  pub task_is : t ≡ task.RunInOrder workers state
  pub rules : NoneBreaks M
  pub may : MayRun state M.profiles workers
  pub run : HasRunInOrder M state r

-- or wasn't, for this reason.
pub record IsPreventedInOrder (t : Task) (M : Members) (e : RunFault) : Type 0 where
  pub workers : ℕ
  pub state : State
  pub task_is : t ≡ task.RunInOrder workers state
  pub rules : NoneBreaks M
  pub reason : PreventsRun state M.profiles workers e

-- A search has found that a profile may break a rule, or that whether it may is too large to decide.
abbrev pub MayBreakAlone : Members → Type 0
MayBreakAlone M = (profile : ℕ) × (reason : Obstacle) × IsWavesFault M (MayBreak profile reason)

-- A run in order was asked for. A search has found that, and another one hasn't, of any profile.
pub record IsUndecidedInOrder (t : Task) (M : Members) : Type 0 where
  pub workers : ℕ
  pub state : State
  pub task_is : t ≡ task.RunInOrder workers state
  pub refused : MayBreakAlone M
  pub faults : List CheckFault
  pub all : AreFaults M faults
  pub none : find leaves_out faults ≡ None

-- The jobs of a set were run in order on a state. These are the lines of the jobs, and below them
-- the text of the state that they left. The status is 0 exactly if each of them is finished, else 3.
pub record WritesRunInOrder (M : Members) (S : State) (status : ℕ) (below : List ℕ) : Type 0 where
  pub outcome : Outcome
  pub run : IsRunInOrder M S outcome
  pub text : below ≡ lines_of_jobs M.profiles outcome.jobs ++ state_text outcome.state
  pub finished : status ≡ 0 ↔ AreFinished outcome.jobs
  pub others : status ≢ 0 → status ≡ 3

-- What is to follow `in order`: what n workers did on a state, or the line that says why they did
-- nothing.
abbrev pub IsBelowInOrder : Members → State → ℕ → ℕ → List ℕ → Type 0
IsBelowInOrder M S n status below =
    (MayRun S M.profiles n × WritesRunInOrder M S status below)
    ⊎ WritesError M S n status below

-- Jobs that step at desks.
use Rattle.std.specs.Prelude.{◌≡◌, ◌<◌, ◌≤◌, ℕ, Bool, true, false, ◌||◌, List, slice_get, Some, None}
use Rattle.hub_profile.specs.Parts.{Parts}
use Rattle.hub_state.specs.State.{State}
use Rattle.hub_job.specs.declared.asked.Asked.{Asked}
use Rattle.hub_job.specs.declared.op.Op.{Op}
use Rattle.hub_job.specs.declared.op.Next.{Next}
use Rattle.hub_job.specs.declared.op.Next.TheVariants.{Ask, Finished, Stopped}
use Rattle.hub_job.specs.declared.run_fault.RunFault.{RunFault}
use Rattle.hub_job.specs.declared.run_fault.RunFault.TheVariants as fault
use Rattle.hub_job.specs.Job.{next}
use Rattle.hub_job.specs.JobValue.{JobValue}
use Rattle.hub_schedule.specs.Refusals.{first_missing}
use Rattle.hub_runner.specs.declared.runs.TheConstants.{WORKERS}

abbrev pub asks_nothing : Next → Bool
asks_nothing (Ask side op) = false
asks_nothing Finished = true
asks_nothing Stopped = true

-- The job is finished or stopped.
abbrev pub is_ended : JobValue → Bool
is_ended J = J.stopped || asks_nothing (next J.profile J.archive J.log)

abbrev pub AreEnded : List JobValue → Type 0
AreEnded jobs = (k : ℕ) (J : JobValue) → slice_get jobs k ≡ Some J → is_ended J ≡ true

-- The job has asked for this operation, and has no answer yet.
abbrev pub AsksFor : JobValue → Op → Type 0
AsksFor J op = (a : Asked) × (J.asked ≡ Some a) × (a.op ≡ op)

-- So many workers may run jobs.
abbrev pub AreWorkers : ℕ → Type 0
AreWorkers n = (0 < n) × (n ≤ WORKERS)

-- So many workers may run the jobs of these profiles, and no replica is missing.
abbrev pub MayRun : State → List Parts → ℕ → Type 0
MayRun S Ps n = AreWorkers n × (first_missing S Ps ≡ None)

-- Why jobs aren't run. The first of these that applies: there are no workers, or too many; a
-- replica is missing; a thread is refused. Or there is no memory. A stranger and a mismatch are
-- those of settling.
abbrev pub IsNotRun : State → List Parts → ℕ → RunFault → Type 0
IsNotRun S Ps n fault.NoWorkers = n ≡ 0
IsNotRun S Ps n fault.TooManyWorkers = WORKERS < n
IsNotRun S Ps n (fault.MissingReplica r) = AreWorkers n × (first_missing S Ps ≡ Some r)
IsNotRun S Ps n (fault.Mismatch r j history log) = MayRun S Ps n
IsNotRun S Ps n (fault.BadTurn t) = ⊥
IsNotRun S Ps n fault.ThreadRefused = MayRun S Ps n
IsNotRun S Ps n (fault.Stranger j) = MayRun S Ps n
IsNotRun S Ps n fault.OutOfMemory = AreWorkers n

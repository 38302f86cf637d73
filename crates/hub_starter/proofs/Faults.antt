-- Why a later wave isn't run.
use Rattle.std.proofs.Common.{◌≡◌, List, sym, ◌∙◌}
use Rattle.std.specs.Prelude.{ℕ, None, Some}
use Rattle.hub_profile.specs.Parts.{Parts}
use Rattle.hub_state.specs.State.{State}
use Rattle.hub_job.specs.declared.run_fault.RunFault.{RunFault}
use Rattle.hub_job.specs.declared.run_fault.RunFault.TheVariants as fault
use Rattle.hub_schedule.specs.Refusals.{first_missing}
use Rattle.hub_runner.specs.Working.{IsNotRun, MayRun}

-- No replica goes missing, so what keeps a later wave from running would have kept the first one.
pub not_run_later : (S T : State) (Ps : List Parts) (n : ℕ) (f : RunFault) → MayRun S Ps n
    → first_missing T Ps ≡ None → IsNotRun T Ps n f → IsNotRun S Ps n f
not_run_later S T Ps n fault.NoWorkers may there not = not
not_run_later S T Ps n fault.TooManyWorkers may there not = not
not_run_later S T Ps n (fault.MissingReplica r) may there not =
    let no : None ≡ Some r = sym there ∙ not.1 in cc
not_run_later S T Ps n (fault.Mismatch r j history log) may there not = may
not_run_later S T Ps n (fault.BadTurn t) may there not = not
not_run_later S T Ps n fault.ThreadRefused may there not = may
not_run_later S T Ps n (fault.Stranger j) may there not = may
not_run_later S T Ps n fault.OutOfMemory may there not = not

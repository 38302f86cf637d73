-- Why jobs aren't run, where that is told.
use Rattle.std.proofs.Common.{◌≡◌, ℕ, List, false}
use Rattle.std.proofs.lemmas.Bool.{true≢false}
use Rattle.hub_profile.specs.Parts.{Parts}
use Rattle.hub_state.specs.State.{State}
use Rattle.hub_job.specs.declared.run_fault.RunFault.{RunFault}
use Rattle.hub_job.specs.declared.run_fault.RunFault.TheVariants as fault
use Rattle.hub_runner.specs.Working.{IsNotRun}
use Rattle.hub_serve.specs.Runs.{PreventsRun, is_out_of_memory}

pub prevents : (S : State) (Ps : List Parts) (n : ℕ) (f : RunFault) → is_out_of_memory f ≡ false → IsNotRun S Ps n f → PreventsRun S Ps n f
prevents S Ps n fault.OutOfMemory e h = absurd (true≢false e)
prevents S Ps n fault.NoWorkers e h = h
prevents S Ps n fault.TooManyWorkers e h = h
prevents S Ps n (fault.MissingReplica r) e h = h
prevents S Ps n (fault.Mismatch r j history log) e h = h
prevents S Ps n (fault.BadTurn t) e h = h
prevents S Ps n fault.ThreadRefused e h = h
prevents S Ps n (fault.Stranger j) e h = h

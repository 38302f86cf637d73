-- The line that says why jobs weren't run.
use Rattle.std.specs.Prelude.{◌∷◌, ℕ, List, [], codes}
use Rattle.hub_path.specs.Path.{Path, root_bytes}
use Rattle.hub_job.specs.declared.run_fault.RunFault.{RunFault}
use Rattle.hub_job.specs.declared.run_fault.RunFault.TheVariants as fault
use Rattle.hub_report.specs.Refusal.{joined}

abbrev pub missing_line : Path → List ℕ
missing_line root = joined (codes "run fault: MissingReplica " ∷ root_bytes root ∷ codes "\n" ∷ [])

abbrev pub error_line : RunFault → List ℕ
error_line fault.NoWorkers = codes "run fault: NoWorkers\n"
error_line fault.TooManyWorkers = codes "run fault: TooManyWorkers\n"
error_line (fault.MissingReplica root) = missing_line root
error_line (fault.Mismatch root job history log) = codes "run fault: Mismatch\n"
error_line (fault.BadTurn turn) = codes "run fault: BadTurn\n"
error_line fault.ThreadRefused = codes "run fault: ThreadRefused\n"
error_line (fault.Stranger job) = codes "run fault: Stranger\n"
error_line fault.OutOfMemory = codes "run fault: OutOfMemory\n"

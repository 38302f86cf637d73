use Rattle.std.proofs.Common.{◌≡◌, ◌<◌, ℕ, Some}
use Rattle.std.specs.Prelude.{slice_get}
use Rattle.hub_job.specs.JobValue.{JobValue}
use Rattle.hub_runner.specs.forms.Inconsistent.{IsOf}
use Rattle.hub_runner.proofs.inconsistent.are_of.Given as goal

abbrev pub invariant-loop-job : goal.invariant-loop-job
invariant-loop-job l = (k : ℕ) (J : JobValue) → k < l.job-index → slice_get l.jobs k ≡ Some J → J.number ≡ l.number → IsOf l.profile l.archive J

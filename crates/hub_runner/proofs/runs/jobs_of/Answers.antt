use Rattle.std.proofs.Common.{◌∙◌, List, ap, sym}
use Rattle.std.specs.Prelude.{slice_get}
use Rattle.hub_job.specs.JobValue.{JobValue}
use Rattle.hub_runner.proofs.Ending.{over_push}
use Rattle.hub_runner.proofs.runs.jobs_of.Goals as goal

pub loop-one-preserved : goal.loop-one-preserved
loop-one-preserved c = λ k J at.
    over_push c.loop-one.jobs.items c.job_of.result c.loop-one.invariant c.job_of.ensures k J
    (ap (λ (Js : List JobValue). slice_get Js k) (sym c.in_ok-push.ensures.items) ∙ at)

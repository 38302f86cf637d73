use Rattle.std.proofs.Common.{[], ap, subst}
use Rattle.hub_job.specs.JobValue.{JobValue}
use Rattle.hub_job.specs.Run.{Runs}
use Rattle.hub_job.proofs.job.Job.number.Goals as goal

pub returns-clause-value : goal.returns-clause-value
returns-clause-value c = ap (λ (J : JobValue). J.number) c.self.view_is

pub returns-clause-run : goal.returns-clause-run
returns-clause-run c = subst (λ (J : JobValue). Runs J.profile J.archive J.number [] J.log) c.self.view_is c.self.invariant.0.job.run

use Rattle.std.proofs.Common.{subst}
use Rattle.hub_serve.specs.declared.task.Task.TheVariants as task
use Rattle.hub_serve.specs.Told.{IsToldOfSet}
use Rattle.hub_serve.proofs.verdict.report_on_jobs.Goals as goal

pub returns-clause-told : goal.returns-clause-told
returns-clause-told g c = λ cs.
    subst (λ M. IsToldOfSet (task.RunJobs c.args.workers c.args.state.now) M cs c.run_set.result) c.in_ok-verified.ensures.set (c.run_set.ensures.told cs)

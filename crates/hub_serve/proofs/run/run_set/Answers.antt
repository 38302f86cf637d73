use Rattle.std.proofs.Common.{refl, subst}
use Rattle.hub_serve.specs.Runs.{ComesOf}
use Rattle.hub_serve.proofs.run.run_set.Goals as goal

pub returns-in-Ok-clause-told : goal.returns-in-Ok-clause-told
returns-in-Ok-clause-told g c = λ cs.
    let came = subst (ComesOf c.args.verified.now c.args.state.now c.args.workers) c.in-Ok.is c.run_jobs.ensures.came in record {
      workers = c.args.workers;
      state = c.args.state.now;
      task_is = refl;
      safe = c.run_jobs.ensures.safe;
      may = came.0;
      run = came.1;
    }

pub returns-in-Err-clause-told : goal.returns-in-Err-clause-told
returns-in-Err-clause-told g c =
    c.report_on_unrun.ensures.told c.args.verified.now c.args.state.now c.args.workers c.run_jobs.ensures.safe
    (subst (ComesOf c.args.verified.now c.args.state.now c.args.workers) c.in-Err.is c.run_jobs.ensures.came)

use Rattle.std.proofs.Common.{refl, subst}
use Rattle.hub_serve.specs.InOrder.{ComesInOrder}
use Rattle.hub_serve.proofs.in_order.report_on_waves.Goals as goal

pub returns-in-Ok-clause-told : goal.returns-in-Ok-clause-told
returns-in-Ok-clause-told g c = λ cs.
    let came = subst (ComesInOrder c.args.waves.now.set c.args.state.now c.args.workers) c.in-Ok.is c.run_waves.ensures in record {
      workers = c.args.workers;
      state = c.args.state.now;
      task_is = refl;
      rules = c.set.ensures.are.rules;
      may = came.0;
      run = came.1;
    }

pub returns-in-Err-clause-told : goal.returns-in-Err-clause-told
returns-in-Err-clause-told g c =
    c.report_on_unrun_waves.ensures.told c.args.waves.now.set c.args.state.now c.args.workers c.set.ensures.are.rules
    (subst (ComesInOrder c.args.waves.now.set c.args.state.now c.args.workers) c.in-Err.is c.run_waves.ensures)

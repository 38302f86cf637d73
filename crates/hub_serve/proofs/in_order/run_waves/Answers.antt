use Rattle.std.proofs.Common.{IfOk, subst}
use Rattle.hub_runner.specs.Working.{MayRun}
use Rattle.hub_serve.specs.InOrder.{HasRunInOrder}
use Rattle.hub_serve.proofs.RunInOrder.{has-run-in-order}
use Rattle.hub_serve.proofs.in_order.run_waves.Goals as goal

pub returns : goal.returns
returns g c = (
  subst (MayRun c.args.state.now c.args.waves.now.set.profiles) c.from.ensures c.in_ok-outcome.ensures.run,
  subst (λ r. IfOk r (HasRunInOrder c.args.waves.now.set c.args.state.now)) c.in_ok-run_of.was
      (has-run-in-order c.args.waves.now.set c.args.state.now _ _ c.run_of.result c.run_of.ensures (cc) (record { serial = c.in_ok-outcome.ensures.serial; ended = c.in_ok-outcome.ensures.ended })),
)

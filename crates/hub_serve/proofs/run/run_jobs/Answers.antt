use Rattle.std.proofs.Common.{IfOk, subst}
use Rattle.hub_runner.specs.Working.{MayRun}
use Rattle.hub_serve.specs.Runs.{HasRun}
use Rattle.hub_serve.proofs.RunInOrder.{has-run}
use Rattle.hub_serve.proofs.run.run_jobs.Goals as goal

pub returns-clause-came : goal.returns-clause-came
returns-clause-came g c = (
  subst (MayRun c.args.state.now c.args.verified.now.profiles) c.from.ensures c.in_ok-outcome.ensures.run,
  subst (λ r. IfOk r (HasRun c.args.verified.now c.args.state.now)) c.in_ok-run_of.was
      (has-run c.args.verified.now c.args.state.now _ _ c.run_of.result c.run_of.ensures (cc) (record { promised = c.in_ok-outcome.ensures.promise; ended = c.in_ok-outcome.ensures.ended })),
)

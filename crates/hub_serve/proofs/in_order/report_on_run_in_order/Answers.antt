use Rattle.std.proofs.Common.{subst}
use Rattle.hub_cert.specs.Set.{Members}
use Rattle.hub_serve.specs.Told.{IsToldAnyway}
use Rattle.hub_serve.specs.declared.task.Task.TheVariants as task
use Rattle.hub_serve.proofs.RunInOrder.{BreaksUnlessMemory, may-break}
use Rattle.hub_serve.proofs.in_order.report_on_run_in_order.Goals as goal

pub returns-in-Ok-clause-told : goal.returns-in-Ok-clause-told
returns-in-Ok-clause-told g c =
    subst (λ (M : Members). IsToldAnyway (task.RunInOrder c.args.workers c.args.state.now) M c.report_on_waves.result) c.in-Ok.ensures.set c.report_on_waves.ensures.told

pub returns-in-Err-MayBreak-clause-told : goal.returns-in-Err-MayBreak-clause-told
returns-in-Err-MayBreak-clause-told g c =
    let refused = c.in-Err-MayBreak in
    c.report_on_breach.ensures.told c.args.workers c.args.state.now
    (subst (BreaksUnlessMemory c.args.set.now) refused.field-0-is (may-break c.args.set.now refused.field-0 refused.ensures.refused))

use Rattle.std.proofs.Common.{◌∙◌, arith}
use Rattle.hub_reconcile.proofs.Halves.{rising_step}
use Rattle.hub_reconcile.proofs.look.are_rising.Goals as goal

pub loop-rest-preserved : goal.loop-rest-preserved
loop-rest-preserved c =
    rising_step c.loop-rest.rest.now c.first-item.result (omega (arith, c.in-len1-up.len_at_least)) c.first-item.is
    c.is_before.result c.is_before.ensures c.if-not-is_before.false
    ∙ c.loop-rest.invariant

use Rattle.std.proofs.Common.{◌∙◌, inr, sym, ap, arith}
use Rattle.std.specs.Ordering.{is_lt}
use Rattle.hub_cert.specs.Nearness.{is_first_over}
use Rattle.hub_cert.proofs.NearInOrder.{merged-end, merged-first, merged-second}
use Rattle.hub_cert.proofs.set.kept_values.are_near_in_order.Goals as goal

pub loop-first-preserved-then-is_later : goal.loop-first-preserved-then-is_later
loop-first-preserved-then-is_later c =
    let one = c.index-these-first.result in
    let other = c.index-those-second.result in
    merged-second c.args.these.now c.args.those.now c.loop-first.first c.loop-first.second one other c.loop-first.invariant
    (omega (arith, c.loop-first-test.true)) c.index-these-first.is (omega (arith, c.if-second-those.true)) c.index-those-second.is
    (ap is_lt (sym c.cmp.ensures) ∙ (sym c.is_lt-is_later.ensures ∙ c.if-is_later.true))
    (sym (c.is_first_over.ensures ∙ ap (is_first_over one.now other.now) c.if-is_later.true) ∙ c.if-is_first_over.false)

pub loop-first-preserved : goal.loop-first-preserved
loop-first-preserved c =
    let one = c.index-these-first.result in
    let other = c.index-those-second.result in
    merged-first c.args.these.now c.args.those.now c.loop-first.first c.loop-first.second one other c.loop-first.invariant
    (omega (arith, c.loop-first-test.true)) c.index-these-first.is (omega (arith, c.if-second-those.true)) c.index-those-second.is
    (ap is_lt (sym c.cmp.ensures) ∙ (sym c.is_lt-is_later.ensures ∙ c.if-is_later.false))
    (sym (c.is_first_over.ensures ∙ ap (is_first_over one.now other.now) c.if-is_later.false) ∙ c.if-is_first_over.false)

pub returns-else-second-those : goal.returns-else-second-those
returns-else-second-those c =
    merged-end c.args.these.now c.args.those.now c.loop-first.first c.loop-first.second c.loop-first.invariant (inr (omega (arith, c.if-second-those.false)))

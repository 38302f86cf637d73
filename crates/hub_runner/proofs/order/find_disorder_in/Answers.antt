use Rattle.std.proofs.Common.{arith}
use Rattle.std.proofs.lemmas.Option.{slice_get_within}
use Rattle.hub_runner.proofs.Spans.{one_pair_more}
use Rattle.hub_runner.proofs.order.find_disorder_in.Goals as goal

pub loop-pair-preserved : goal.loop-pair-preserved
loop-pair-preserved c =
    one_pair_more c.args.jobs c.args.history.now c.in_ok-spans.spans.items c.in_ok-spans.ensures c.args.pairs.now
    c.loop-pair.pair-index (record { earlier = 0; later = 0 }) c.as_slice.result.now c.stand_in_order.result
    c.loop-pair-test.true c.as_slice.ensures.value c.if-not-stand_in_order.false c.stand_in_order.ensures
    c.loop-pair.invariant

pub returns : goal.returns
returns c = λ k p at.
    let l = slice_get_within c.args.pairs.now k p at in
    let past = c.loop-pair-test.false in
    c.loop-pair.invariant k p (omega (arith, l, past)) at

use Rattle.std.proofs.Common.{arith}
use Rattle.hub_cert.proofs.Cuts.{small}
use Rattle.hub_cert.proofs.certificate.row.value_of.Goals as goal

pub overflow_mul-value : goal.overflow_mul-value
overflow_mul-value c =
    let s = small c.args.digits.now c.loop-digit.digit-index c.requires.digits (omega (arith, c.requires.few, c.loop-digit-test.true)) in
    omega (arith, s, c.loop-digit.invariant)

pub overflow_add-value : goal.overflow_add-value
overflow_add-value c =
    let s = small c.args.digits.now c.loop-digit.digit-index c.requires.digits (omega (arith, c.requires.few, c.loop-digit-test.true)) in
    omega (arith, s, c.loop-digit.invariant, c.from.ensures)

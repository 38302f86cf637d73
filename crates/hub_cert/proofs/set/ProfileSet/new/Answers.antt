use Rattle.std.proofs.Common.{sym}
use Rattle.hub_text.specs.laws.Fails.{passed-up}
use Rattle.hub_cert.specs.Set.{Members}
use Rattle.hub_cert.specs.Refused.{IsRefused}
use Rattle.hub_cert.proofs.set.ProfileSet.new.Goals as goal

pub returns-in_err-alphabet-clause-err : goal.returns-in_err-alphabet-clause-err
returns-in_err-alphabet-clause-err c =
    let S : Members = record { profiles = c.args.profiles; rules = c.args.rules } in
    passed-up c.from_residual.result c.in_err-alphabet.field-0.0 (IsRefused S) c.from_residual.ensures.1 (c.in_err-alphabet.ensures.err S (sym c.as_slice.ensures) (sym c.as_slice-2.ensures.value))

pub invariant_of-result : goal.invariant_of-result
invariant_of-result c =
    let S : Members = record { profiles = c.args.profiles; rules = c.args.rules } in
    c.in_ok-alphabet.ensures.ok S (sym c.as_slice.ensures) (sym c.as_slice-2.ensures.value)

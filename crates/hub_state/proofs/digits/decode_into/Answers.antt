use Rattle.std.proofs.Common.{ℕ, ◌+◌, ◌*◌, ◌%◌, slice_set, refl, sym, ap, ◌∙◌, subst, arith}
use Rattle.std.specs.Prelude.{max, nat_lt}
use Rattle.std.proofs.lemmas.Bool.Decides.{nat_tests}
use Rattle.std.proofs.lemmas.List.{length-set}
use Rattle.hub_state.proofs.DigitLoops.{PairsRead, pairs-more, pairs-all}
use Rattle.hub_state.proofs.digits.decode_into.Goals as goal

pub loop-i-preserved : goal.loop-i-preserved
loop-i-preserved c =
    let byte : ℕ = (c.value_of-high.result * 16 % 256 + c.value_of-low.result) % 256 in
    let long = c.loop-i.invariant.0 in
    let more = pairs-more c.args.digits.now c.loop-i.bytes c.loop-i.i c.loop-i.largest c.value_of-high.result c.value_of-low.result byte (omega (arith, long)) (omega (arith, long))
    c.value_of-high.ensures c.value_of-low.ensures refl c.loop-i.invariant.1 in (
      length-set _ _ _ ∙ long,
      subst (PairsRead c.args.digits.now (slice_set c.loop-i.bytes c.loop-i.i byte) (c.loop-i.i + 1))
          (sym (c.max-largest.ensures ∙ ap (λ m. max m c.value_of-low.result) c.max.ensures)) more,
    )

pub returns : goal.returns
returns c =
    let long = c.loop-i.invariant.0 in
    pairs-all c.args.digits.now c.loop-i.bytes c.loop-i.i c.loop-i.largest (nat_lt c.loop-i.largest 16) (omega (arith, long)) (omega (arith, long))
    (λ h. grind (arith, nat_tests)) (λ h. grind (arith, nat_tests)) c.loop-i.invariant.1

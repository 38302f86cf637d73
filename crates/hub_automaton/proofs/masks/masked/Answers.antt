use Rattle.std.proofs.Common.{◌++◌, refl, ap, ◌∙◌}
use Rattle.hub_automaton.specs.Masks.{mask_all, mask_choices}
use Rattle.hub_automaton.proofs.Loops.{rest_step, rest_packed}
use Rattle.hub_automaton.proofs.masks.masked.Goals as goal

pub loop-one-preserved : goal.loop-one-preserved
loop-one-preserved c =
    let g = mask_all c.args.mask in
    let a = c.one-item.result in
    let f = mask_choices c.args.mask a.kind in
    let old = c.loop-one.bits.items in
    rest_step g g c.args.alternatives.now c.loop-one.one-index a (f a.choices) old _ _ c.loop-one-test.true c.one-item.is refl
    (c.in_ok-mask_choices.ensures ∙ ap (λ cs. old ++ f cs) c.as_slice.ensures) c.loop-one.invariant

pub returns : goal.returns
returns c =
    rest_packed (mask_all c.args.mask) c.args.alternatives.now c.loop-one.one-index c.loop-one.bits.items _ _ c.pack.result refl c.loop-one-test.false c.loop-one.invariant
    c.as_slice-2.ensures.value c.pack.ensures

use Rattle.std.proofs.Common.{◌++◌, refl, ap, ◌∙◌}
use Rattle.hub_automaton.specs.Masks.{mask_choice, mask_choices}
use Rattle.hub_automaton.proofs.Loops.{rest_step, rest_end}
use Rattle.hub_automaton.proofs.masks.mask_choices.Goals as goal

pub loop-choice-preserved : goal.loop-choice-preserved
loop-choice-preserved c =
    let f = mask_choice c.args.mask c.args.kind in
    let g = mask_choices c.args.mask c.args.kind in
    let x = c.choice-item.result in
    let old = c.loop-choice.bits.items in
    rest_step g g c.args.choices.now c.loop-choice.choice-index x (f x) old _ _ c.loop-choice-test.true c.choice-item.is refl
    (c.in_ok-mask_choice.ensures ∙ ap (λ ps. old ++ f ps) c.as_slice.ensures) c.loop-choice.invariant

pub returns : goal.returns
returns c =
    rest_end (mask_choices c.args.mask c.args.kind) c.args.choices.now c.loop-choice.choice-index c.loop-choice.bits.items _ refl c.loop-choice-test.false c.loop-choice.invariant

use Rattle.std.proofs.Common.{◌++◌, ap, ◌∙◌, refl}
use Rattle.hub_automaton.specs.Ends.{end_choice, end_choices}
use Rattle.hub_automaton.proofs.Loops.{rest_step, rest_end}
use Rattle.hub_automaton.proofs.ends.add_ends.Goals as goal

pub loop-choice-preserved : goal.loop-choice-preserved
loop-choice-preserved c =
    let on = c.args.on in
    let x = c.choice-item.result in
    let old = c.loop-choice.bits.items in
    rest_step (end_choices on) (end_choices on) c.args.choices.now c.loop-choice.choice-index x (end_choice on x) old _ _ c.loop-choice-test.true c.choice-item.is refl
    (c.in_ok-add_end.ensures ∙ ap (λ ps. old ++ end_choice on ps) c.as_slice.ensures) c.loop-choice.invariant

pub returns : goal.returns
returns c = rest_end (end_choices c.args.on) c.args.choices.now c.loop-choice.choice-index c.loop-choice.bits.items _ refl c.loop-choice-test.false c.loop-choice.invariant

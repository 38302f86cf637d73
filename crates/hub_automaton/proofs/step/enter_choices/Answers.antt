use Rattle.std.proofs.Common.{◌++◌, refl, ap, ◌∙◌}
use Rattle.hub_automaton.specs.forms.Stepping.{entered, entered_choices}
use Rattle.hub_automaton.proofs.Loops.{rest_step, rest_end}
use Rattle.hub_automaton.proofs.step.enter_choices.Goals as goal

pub loop-choice-preserved : goal.loop-choice-preserved
loop-choice-preserved c =
    let x = c.choice-item.result in
    let old = c.loop-choice.new.items in
    rest_step entered_choices entered_choices c.args.choices.now c.loop-choice.choice-index x (entered x) old _ _ c.loop-choice-test.true c.choice-item.is refl
    (c.in_ok-enter_choice.ensures ∙ ap (λ ps. old ++ entered ps) c.as_slice.ensures) c.loop-choice.invariant

pub returns : goal.returns
returns c = rest_end entered_choices c.args.choices.now c.loop-choice.choice-index c.loop-choice.new.items _ refl c.loop-choice-test.false c.loop-choice.invariant

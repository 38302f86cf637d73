use Rattle.std.proofs.Common.{◌+◌, ◌∙◌, length, ap, arith}
use Rattle.hub_text.specs.laws.List.{next-drop}
use Rattle.hub_glob.specs.declared.path_spec.Kind.TheVariants as kinds
use Rattle.hub_automaton.specs.Spots.{spot_count}
use Rattle.hub_automaton.proofs.Takings.{choices_end, choices_next}
use Rattle.hub_automaton.proofs.takers.take_choices.Goals as goal

pub take_choice-requires-clause-few : goal.take_choice-requires-clause-few
take_choice-requires-clause-few c =
    let at = next-drop c.args.choices.now c.loop-choice.choice-index c.choice-item.result c.loop-choice-test.true c.choice-item.is in
    omega (arith, ap spot_count at, ap length c.as_slice.ensures, c.loop-choice.invariant.0, c.requires.few)

pub loop-choice-preserved : goal.loop-choice-preserved
loop-choice-preserved c =
    let cs = c.args.choices.now in
    let i = c.loop-choice.choice-index in
    let here = c.loop-choice.after in
    let choice = c.choice-item.result in
    let one = c.take_choice.ensures in
    let at = next-drop cs i choice c.loop-choice-test.true c.choice-item.is in (
      omega (arith, ap spot_count at, c.len.ensures, c.loop-choice.invariant.0),
      (one kinds.Path).many ∙ c.loop-choice.invariant.1,
      λ kind new h. c.loop-choice.invariant.2 kind new
          (choices_next c.args.alphabet.now c.loop-choice.takers c.take_choice.new.takers new here (here + (c.len.result + 1)) kind cs i choice c.as_slice.result.now
          c.loop-choice-test.true c.choice-item.is c.as_slice.ensures (omega (arith, ap length c.as_slice.ensures, c.len.ensures)) (one kind) h),
    )

pub returns-clause-taken : goal.returns-clause-taken
returns-clause-taken c = λ kind.
    c.loop-choice.invariant.2 kind c.loop-choice.takers
    (choices_end c.args.alphabet.now c.loop-choice.takers c.loop-choice.after kind c.args.choices.now c.loop-choice.choice-index c.loop-choice-test.false)

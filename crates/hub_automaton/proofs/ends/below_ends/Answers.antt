use Rattle.std.proofs.Common.{◌++◌, ◌∙◌, refl}
use Rattle.hub_automaton.specs.Ends.{end_below, end_choices}
use Rattle.hub_automaton.specs.Spots.{is_below_kind}
use Rattle.hub_automaton.proofs.Loops.{rest_step, rest_packed}
use Rattle.hub_automaton.proofs.ends.below_ends.Goals as goal

pub loop-one-preserved : goal.loop-one-preserved
loop-one-preserved c =
    let a = c.one-item.result in
    let old = c.loop-one.bits.items in
    rest_step end_below end_below c.args.alternatives.now c.loop-one.one-index a (end_choices (is_below_kind a.kind) a.choices) old _ _ c.loop-one-test.true c.one-item.is refl
    (c.in_ok-add_ends.ensures ∙ (λ j. old ++ end_choices (c.is_below_kind.ensures j) (c.as_slice.ensures j))) c.loop-one.invariant

pub returns : goal.returns
returns c =
    rest_packed end_below c.args.alternatives.now c.loop-one.one-index c.loop-one.bits.items _ _ c.pack.result refl c.loop-one-test.false c.loop-one.invariant c.as_slice-2.ensures.value c.pack.ensures

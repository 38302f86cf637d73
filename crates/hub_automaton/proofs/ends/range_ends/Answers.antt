use Rattle.std.proofs.Common.{◌+◌, ◌++◌, ◌∙◌, refl}
use Rattle.hub_automaton.specs.Ends.{end_all, end_choices, in_range}
use Rattle.hub_automaton.proofs.Loops.{rest_step, rest_packed}
use Rattle.hub_automaton.proofs.ends.range_ends.Goals as goal

pub loop-i-preserved : goal.loop-i-preserved
loop-i-preserved c =
    let from = c.args.from in
    let to = c.args.to in
    let i = c.loop-i.i in
    let a = c.index-alternatives-i.result in
    let old = c.loop-i.bits.items in
    rest_step (end_all from to i) (end_all from to (i + 1)) c.args.alternatives.now i a (end_choices (in_range from to i) a.choices) old _ _ c.loop-i-test.true c.index-alternatives-i.is refl
    (c.in_ok-add_ends.ensures ∙ (λ j. old ++ end_choices (c.is_in_range.ensures j) (c.as_slice.ensures j))) c.loop-i.invariant

pub returns : goal.returns
returns c =
    rest_packed (end_all c.args.from c.args.to c.loop-i.i) c.args.alternatives.now c.loop-i.i c.loop-i.bits.items _ _ c.pack.result refl c.loop-i-test.false c.loop-i.invariant
    c.as_slice-2.ensures.value c.pack.ensures

use Rattle.std.proofs.Common.{◌∙◌, ap, arith}
use Rattle.hub_text.specs.laws.List.{next-drop}
use Rattle.hub_glob.specs.declared.path_spec.Kind.TheVariants as kinds
use Rattle.hub_automaton.specs.Spots.{spot_count, spots_count}
use Rattle.hub_automaton.proofs.Takings.{all_end, all_next}
use Rattle.hub_automaton.proofs.takers.take_all.Goals as goal

pub take_choices-place-requires-clause-few : goal.take_choices-place-requires-clause-few
take_choices-place-requires-clause-few c =
    let at = next-drop c.args.alternatives.now c.loop-one.one-index c.one-item.result c.loop-one-test.true c.one-item.is in
    omega (arith, ap spots_count at, ap spot_count c.as_slice.ensures, c.loop-one.invariant.0, c.requires.few)

pub loop-one-preserved : goal.loop-one-preserved
loop-one-preserved c =
    let ls = c.args.alternatives.now in
    let i = c.loop-one.one-index in
    let a = c.one-item.result in
    let one = c.take_choices-place.ensures in
    let at = next-drop ls i a c.loop-one-test.true c.one-item.is in (
      omega (arith, ap spots_count at, one.after, ap spot_count c.as_slice.ensures, c.loop-one.invariant.0),
      (one.taken kinds.Path).many ∙ c.loop-one.invariant.1,
      λ new h. c.loop-one.invariant.2 new
          (all_next c.args.alphabet.now c.loop-one.takers c.take_choices-place.new.takers new c.loop-one.place c.take_choices-place.result ls i a c.as_slice.result.now
          c.loop-one-test.true c.one-item.is c.as_slice.ensures (omega (arith, one.after)) (one.taken a.kind) h),
    )

pub returns : goal.returns
returns c =
    c.loop-one.invariant.2 c.loop-one.takers
    (all_end c.args.alphabet.now c.loop-one.takers c.loop-one.place c.args.alternatives.now c.loop-one.one-index c.loop-one-test.false)

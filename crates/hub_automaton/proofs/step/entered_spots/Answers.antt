use Rattle.std.proofs.Common.{◌++◌, refl, ap, ◌∙◌, Bool, List}
use Rattle.std.specs.List.{flat_map}
use Rattle.hub_automaton.specs.declared.alternatives.Alternatives.{Alternatives}
use Rattle.hub_automaton.specs.forms.Stepping.{entered_choices}
use Rattle.hub_automaton.proofs.Loops.{rest_step, rest_packed}
use Rattle.hub_automaton.proofs.step.entered_spots.Goals as goal

abbrev all_entered : List Alternatives → List Bool
all_entered ls = flat_map (λ a. entered_choices a.choices) ls

pub loop-one-preserved : goal.loop-one-preserved
loop-one-preserved c =
    let a = c.one-item.result in
    let old = c.loop-one.spots.items in
    rest_step all_entered all_entered c.args.alternatives.now c.loop-one.one-index a (entered_choices a.choices) old _ _ c.loop-one-test.true c.one-item.is refl
    (c.in_ok-enter_choices.ensures ∙ ap (λ cs. old ++ entered_choices cs) c.as_slice.ensures) c.loop-one.invariant

pub returns : goal.returns
returns c =
    rest_packed all_entered c.args.alternatives.now c.loop-one.one-index c.loop-one.spots.items _ _ c.pack.result refl c.loop-one-test.false c.loop-one.invariant c.as_slice-2.ensures.value c.pack.ensures

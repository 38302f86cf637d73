use Rattle.std.proofs.Common.{◌∙◌, ap, sym, [], ◌∷◌, ◌++◌, arith}
use Rattle.std.proofs.lemmas.List.{drop_all}
use Rattle.hub_glob.specs.Glob.{choices}
use Rattle.hub_glob.specs.forms.Choosing.{each_with_each}
use Rattle.hub_glob.proofs.Choosings.{chosen_step, none_chosen, all_chosen}
use Rattle.hub_glob.proofs.choosing.choices_of.Goals as goal

pub loop-part-init : goal.loop-part-init
loop-part-init c =
    ap (λ ls. each_with_each ls (choices c.args.parts.now)) (c.in_ok-push.ensures.items ∙ (λ i. c.new-choices.ensures.items i ++ c.new.ensures i ∷ [])) ∙ none_chosen (choices c.args.parts.now)

pub loop-part-preserved : goal.loop-part-preserved
loop-part-preserved c =
    chosen_step c.loop-part.choices.items c.in_ok-choices.choices.items c.args.parts.now c.loop-part.part-index c.part-item.result (choices c.args.parts.now) (omega arith) c.part-item.is
    c.in_ok-choices.ensures c.loop-part.invariant

pub returns : goal.returns
returns c =
    c.from_vec.ensures ∙ sym (all_chosen c.loop-part.choices.items)
    ∙ ap (λ ps. each_with_each c.loop-part.choices.items (choices ps)) (sym (drop_all c.loop-part.part-index c.args.parts.now (omega arith))) ∙ c.loop-part.invariant

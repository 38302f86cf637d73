use Rattle.std.proofs.Common.{ℕ, List, ◌++◌, ◌∷◌, [], map, refl, ap, ◌∙◌}
use Rattle.hub_automaton.specs.Masks.{mask_all}
use Rattle.hub_automaton.specs.forms.Takers.{begun}
use Rattle.hub_automaton.specs.Words.{packed}
use Rattle.hub_automaton.proofs.Loops.{rest_step}
use Rattle.hub_automaton.proofs.takers.begin_each.Goals as goal

pub loop-character-preserved : goal.loop-character-preserved
loop-character-preserved c =
    let f : ℕ → List ℕ = λ x. packed (mask_all (begun x) c.args.alternatives.now) in
    let x = c.character-item.result in
    let old = c.loop-character.takers.items in
    rest_step (map f) (map f) c.args.samples.now c.loop-character.character-index x (f x ∷ []) old _ _ c.loop-character-test.true c.character-item.is refl
    (c.in_ok-push.ensures.items ∙ ap (λ y. old ++ y ∷ []) c.in_ok-begin_taker.ensures) c.loop-character.invariant

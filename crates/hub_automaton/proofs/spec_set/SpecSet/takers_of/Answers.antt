use Rattle.std.proofs.Common.{◌∙◌, [], get_or, arith, ap}
use Rattle.std.proofs.lemmas.List.{get_or_read}
use Rattle.hub_automaton.specs.Alphabet.{sample}
use Rattle.hub_automaton.specs.Masks.{mask_all}
use Rattle.hub_automaton.specs.Spots.{Tracked}
use Rattle.hub_automaton.specs.Words.{packed}
use Rattle.hub_automaton.specs.declared.masks.Mask.TheVariants as mask
use Rattle.hub_automaton.proofs.Likes.{has-sample, takers-many, takers_of_class}
use Rattle.hub_automaton.proofs.spec_set.SpecSet.takers_of.Goals as goal

pub index-requires : goal.index-requires
index-requires c =
    let samples = c.self.inside.samples.items in
    let within = has-sample samples c.args.self.now.mentioned c.args.class c.self.invariant.0.samples (ap (λ (s : Tracked). s.mentioned) c.self.view_is) c.requires in
    omega (arith, within, takers-many samples c.self.inside.masks.takers.items c.self.inside.alternatives.items c.self.invariant.1.taken, c.number.ensures)

pub returns : goal.returns
returns c =
    let samples = c.self.inside.samples.items in
    let ls = c.self.inside.alternatives.items in
    let takers = c.self.inside.masks.takers.items in
    let k = c.args.class in
    let taken = c.self.invariant.1.taken in
    let within = has-sample samples c.args.self.now.mentioned k c.self.invariant.0.samples (ap (λ (s : Tracked). s.mentioned) c.self.view_is) c.requires in
    c.as_slice.ensures
    ∙ get_or_read takers k c.index.result.now (omega (arith, within, takers-many samples takers ls taken)) (c.index.ensures ∙ ap (λ n. get_or takers n c.index.result.now) c.number.ensures) []
    ∙ takers_of_class samples takers ls k c.self.invariant.0.samples taken within
    ∙ ap (λ (s : Tracked). packed (mask_all (mask.Takers (sample s.mentioned k)) s.alternatives)) c.self.view_is

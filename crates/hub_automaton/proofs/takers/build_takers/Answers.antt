use Rattle.std.proofs.Common.{◌≡◌, ◌∙◌, drop, length}
use Rattle.std.proofs.lemmas.List.{take_at}
use Rattle.hub_automaton.proofs.Takings.{all_made}
use Rattle.hub_automaton.proofs.takers.build_takers.Goals as goal

pub returns : goal.returns
returns c =
    let new = c.take_all.new.takers in
    let items = c.in_ok-takers.takers.items in
    let old = c.as_mut_slice.result.now in
    let long : length new ≡ c.in_ok-takers.takers.len = c.take_all.ensures.many ∙ c.as_mut_slice.ensures.len in
    take_at new (drop (length new) items) c.in_ok-takers.takers.len long
    ∙ all_made c.args.alphabet.now c.args.samples.now c.args.alternatives.now old new c.requires.samples (c.as_mut_slice.ensures.value ∙ c.in_ok-takers.ensures) c.take_all.ensures

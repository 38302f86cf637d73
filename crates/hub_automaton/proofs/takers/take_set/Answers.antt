use Rattle.std.proofs.Common.{◌+◌, ◌∙◌, drop, false, subst, sym}
use Rattle.std.proofs.lemmas.List.{drop_all}
use Rattle.hub_text.specs.laws.List.{next-drop}
use Rattle.hub_automaton.proofs.Takings.{TakenFor, set_next, set_end}
use Rattle.hub_automaton.proofs.takers.take_set.Goals as goal

pub loop-character-preserved : goal.loop-character-preserved
loop-character-preserved c =
    let ms = c.args.alphabet.now in
    let set = c.args.set.now in
    let place = c.args.place in
    let i = c.loop-character.character-index in
    let d = c.character-item.result in
    let cur = c.loop-character.takers in
    let mid = c.take_character.new.takers in
    let one = c.take_character.ensures (λ x. false) in
    let at = next-drop set i d c.loop-character-test.true c.character-item.is in (
      one.many ∙ c.loop-character.invariant.0,
      λ new h. c.loop-character.invariant.1 new
          (subst (λ ds. TakenFor ms cur new place ds) (sym at) (set_next ms cur mid new place d (drop (i + 1) set) c.take_character.ensures h)),
    )

pub returns : goal.returns
returns c =
    let ms = c.args.alphabet.now in
    let set = c.args.set.now in
    let cur = c.loop-character.takers in
    let end = drop_all c.loop-character.character-index set c.loop-character-test.false in
    c.loop-character.invariant.1 cur (subst (λ ds. TakenFor ms cur cur c.args.place ds) (sym end) (set_end ms cur c.args.place))

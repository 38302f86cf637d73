use Rattle.std.proofs.Common.{◌++◌, [], ◌∷◌, Bool, List, false, map, refl, ap, ◌∙◌, append_assoc}
use Rattle.hub_glob.specs.declared.piece.Piece.{Piece}
use Rattle.hub_automaton.proofs.Loops.{rest_step, rest_end}
use Rattle.hub_automaton.proofs.ends.add_end.Goals as goal

abbrev none : List Piece → List Bool
none ps = map (λ p. false) ps

pub loop-piece-preserved : goal.loop-piece-preserved
loop-piece-preserved c =
    rest_step none none c.args.choice.now c.loop-piece._piece-index c._piece-item.result (false ∷ []) c.loop-piece.bits.items _ _ c.loop-piece-test.true c._piece-item.is refl
    c.in_ok-push.ensures.items c.loop-piece.invariant

pub returns : goal.returns
returns c =
    let ps = c.args.choice.now in
    let old = c.args.bits.now.items in
    let last = c.args.on ∷ [] in
    let before = rest_end none ps c.loop-piece._piece-index c.loop-piece.bits.items (old ++ none ps) refl c.loop-piece-test.false c.loop-piece.invariant in
    c.in_ok-push-2.ensures.items ∙ ap (λ (bs : List Bool). bs ++ last) before ∙ append_assoc old (none ps) last

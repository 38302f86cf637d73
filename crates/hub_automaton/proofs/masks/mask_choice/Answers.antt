use Rattle.std.proofs.Common.{◌++◌, [], ◌∷◌, Bool, List, map, refl, ap, ◌∙◌, append_assoc}
use Rattle.hub_automaton.specs.Masks.{masks_piece}
use Rattle.hub_automaton.proofs.Loops.{rest_step, rest_end}
use Rattle.hub_automaton.proofs.masks.mask_choice.Goals as goal

pub loop-piece-init : goal.loop-piece-init
loop-piece-init c =
    let old = c.args.bits.now.items in
    let rest = map (masks_piece c.args.mask c.args.kind) c.args.choice.now in
    ap (λ (bs : List Bool). bs ++ rest) c.in_ok-push.ensures.items ∙ append_assoc old (c.masks_start.result ∷ []) rest ∙ ap (λ b. old ++ b ∷ rest) c.masks_start.ensures

pub loop-piece-preserved : goal.loop-piece-preserved
loop-piece-preserved c =
    let f = masks_piece c.args.mask c.args.kind in
    let p = c.piece-item.result in
    let old = c.loop-piece.bits.items in
    rest_step (map f) (map f) c.args.choice.now c.loop-piece.piece-index p (f p ∷ []) old _ _ c.loop-piece-test.true c.piece-item.is refl
    (c.in_ok-push-2.ensures.items ∙ ap (λ b. old ++ b ∷ []) c.masks_piece.ensures) c.loop-piece.invariant

pub returns : goal.returns
returns c =
    rest_end (map (masks_piece c.args.mask c.args.kind)) c.args.choice.now c.loop-piece.piece-index c.loop-piece.bits.items _ refl c.loop-piece-test.false c.loop-piece.invariant

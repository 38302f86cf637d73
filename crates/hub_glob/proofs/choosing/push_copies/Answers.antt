use Rattle.std.proofs.Common.{◌++◌, [], ◌∷◌, take, sym, ap, ◌∙◌, append_assoc, arith}
use Rattle.std.proofs.lemmas.List.{take_more, take_all}
use Rattle.hub_glob.proofs.choosing.push_copies.Goals as goal

pub loop-piece-preserved : goal.loop-piece-preserved
loop-piece-preserved c =
    let ps = c.args.pieces.now in
    let i = c.loop-piece.piece-index in
    let old = c.args.list.now in
    let p = c.piece-item.result in
    c.in_ok-push.ensures.ok ∙ (λ j. c.loop-piece.invariant j ++ (c.in_ok-copy_of.ensures ∙ c.piece-item.is) j ∷ [])
    ∙ append_assoc old (take i ps) _ ∙ ap (λ qs. old ++ qs) (sym (take_more ps i p (omega arith)))

pub returns : goal.returns
returns c = c.loop-piece.invariant ∙ ap (λ qs. c.args.list.now ++ qs) (take_all c.loop-piece.piece-index c.args.pieces.now (omega arith))

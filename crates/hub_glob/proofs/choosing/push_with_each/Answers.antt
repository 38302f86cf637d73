use Rattle.std.proofs.Common.{◌++◌, [], ◌∷◌, List, map, take, sym, ap, ◌∙◌, append_assoc, arith}
use Rattle.std.proofs.lemmas.List.{map_more, take_all}
use Rattle.hub_glob.specs.declared.piece.Piece.{Piece}
use Rattle.hub_glob.proofs.choosing.push_with_each.Goals as goal

pub loop-back-preserved : goal.loop-back-preserved
loop-back-preserved c =
    let front = c.args.front.now in
    let bs = c.args.backs.now in
    let i = c.loop-back.back-index in
    let old = c.args.all.now.items in
    let joined = λ (d : List Piece). front ++ d in
    let item = c.in_ok-push_copies-2.ensures ∙ (λ j. (c.in_ok-push_copies.ensures ∙ ap (λ qs. qs ++ front) c.new-joined.ensures) j ++ (c.as_slice.ensures ∙ c.back-item.is) j) in
    c.in_ok-push.ensures.items ∙ (λ j. c.loop-back.invariant j ++ item j ∷ [])
    ∙ append_assoc old (map joined (take i bs)) _ ∙ ap (λ ls. old ++ ls) (sym (map_more joined bs i c.back-item.result (omega arith)))

pub returns : goal.returns
returns c =
    c.loop-back.invariant ∙ ap (λ bs. c.args.all.now.items ++ map (λ d. c.args.front.now ++ d) bs) (take_all c.loop-back.back-index c.args.backs.now (omega arith))

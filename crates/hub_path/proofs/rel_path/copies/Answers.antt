use Rattle.std.proofs.Common.{◌++◌, [], ◌∷◌, sym, ◌∙◌, arith}
use Rattle.std.proofs.lemmas.List.{take_more, take_all}
use Rattle.hub_path.proofs.rel_path.copies.Goals as goal

pub loop-name-preserved : goal.loop-name-preserved
loop-name-preserved c =
    c.in_ok-push.ensures.items ∙ (λ i. c.loop-name.invariant i ++ (c.in_ok-copy.ensures ∙ c.name-item.is) i ∷ [])
    ∙ sym (take_more c.args.names.now c.loop-name.name-index c.name-item.result (omega arith))

pub returns : goal.returns
returns c = c.loop-name.invariant ∙ take_all c.loop-name.name-index c.args.names.now (omega arith)

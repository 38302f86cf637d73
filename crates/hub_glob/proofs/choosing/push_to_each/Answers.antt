use Rattle.std.proofs.Common.{◌∙◌, ap, ◌++◌, ◌∷◌, [], arith}
use Rattle.hub_glob.proofs.Choosings.{push_step}
use Rattle.hub_glob.proofs.choosing.push_to_each.Goals as goal

pub loop-i-preserved : goal.loop-i-preserved
loop-i-preserved c =
    push_step c.args.lists.now.items c.loop-i.lists.items c.loop-i.i c.index_mut.result.now c.push.new.self c.args.piece.now c.loop-i.invariant (omega arith)
    c.index_mut.ensures.value (c.in_ok-push.ensures.ok ∙ ap (λ q. c.index_mut.result.now ++ q ∷ []) c.in_ok-copy_of.ensures)

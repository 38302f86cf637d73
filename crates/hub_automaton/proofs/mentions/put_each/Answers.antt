use Rattle.std.proofs.Common.{arith}
use Rattle.std.proofs.lemmas.Result.{err_from_is_err_and}
use Rattle.hub_automaton.specs.laws.AddedInTurn.{added-more, added-all, refused-one}
use Rattle.hub_automaton.proofs.mentions.put_each.Goals as goal

pub loop-value-preserved : goal.loop-value-preserved
loop-value-preserved g c = (
  added-more g.T.Mentioning.characters c.args.mentioned.now.items c.loop-value.mentioned.items c.put_in.new.mentioned.items c.args.values.now c.loop-value.value-index c.value-item.result (omega arith)
      c.value-item.is c.in_ok-put_in.ensures.ok c.loop-value.invariant.0,
  c.in_ok-put_in.ensures.alphabet,
)

pub returns-in_err-put_in-clause-err : goal.returns-in_err-put_in-clause-err
returns-in_err-put_in-clause-err g c =
    let p = err_from_is_err_and c.from_residual.result c.from_residual.ensures.1 in
    rw (p.1, p.2)
    (refused-one g.T.Mentioning.characters c.args.mentioned.now.items c.loop-value.mentioned.items c.args.values.now c.loop-value.value-index c.value-item.result c.in_err-put_in.field-0.0 (omega arith)
    c.value-item.is c.loop-value.invariant.0 c.in_err-put_in.ensures.err)

pub returns-clause-ok : goal.returns-clause-ok
returns-clause-ok g c =
    added-all g.T.Mentioning.characters c.args.mentioned.now.items c.loop-value.mentioned.items c.args.values.now c.loop-value.value-index (omega arith) c.loop-value.invariant.0

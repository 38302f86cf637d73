use Rattle.std.proofs.Common.{arith}
use Rattle.std.proofs.lemmas.Result.{err_from_is_err_and}
use Rattle.hub_automaton.specs.laws.AddedInTurn.{added-more, added-all, refused-one}
use Rattle.hub_reach.proofs.Grows.{partly-one}
use Rattle.hub_reach.proofs.mentioning.mention_each.Goals as goal

pub loop-value-preserved : goal.loop-value-preserved
loop-value-preserved g c =
    added-more g.T.Mentioning.characters c.args.alphabet.now c.loop-value.alphabet c.add_characters.new.alphabet c.args.values.now c.loop-value.value-index c.value-item.result (omega arith) c.value-item.is
    c.in_ok-add_characters.ensures.ok c.loop-value.invariant

pub returns-in_err-add_characters-clause-err : goal.returns-in_err-add_characters-clause-err
returns-in_err-add_characters-clause-err g c =
    let p = err_from_is_err_and c.from_residual.result c.from_residual.ensures.1 in
    rw (p.1, p.2)
    (refused-one g.T.Mentioning.characters c.args.alphabet.now c.loop-value.alphabet c.args.values.now c.loop-value.value-index c.value-item.result c.in_err-add_characters.field-0.0 (omega arith) c.value-item.is
    c.loop-value.invariant c.in_err-add_characters.ensures.err)

pub returns-in_err-add_characters-clause-partly : goal.returns-in_err-add_characters-clause-partly
returns-in_err-add_characters-clause-partly g c =
    let p = err_from_is_err_and c.from_residual.result c.from_residual.ensures.1 in
    rw p.1
    (partly-one g.T.Mentioning.characters c.args.alphabet.now c.loop-value.alphabet c.add_characters.new.alphabet c.args.values.now c.loop-value.value-index c.value-item.result (omega arith) c.value-item.is
    c.loop-value.invariant c.in_err-add_characters.ensures.partly)

pub returns-clause-ok : goal.returns-clause-ok
returns-clause-ok g c =
    added-all g.T.Mentioning.characters c.args.alphabet.now c.loop-value.alphabet c.args.values.now c.loop-value.value-index (omega arith) c.loop-value.invariant

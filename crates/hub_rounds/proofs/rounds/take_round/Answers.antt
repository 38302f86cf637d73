use Rattle.std.proofs.Common.{◌≡◌, ◌∙◌, ◌++◌, [], ◌∷◌, List, false, sym, ap}
use Rattle.hub_rounds.specs.Rounds.{is_in_round}
use Rattle.hub_rounds.specs.declared.placing.Placed.{Placed}
use Rattle.hub_rounds.proofs.Cutting.{members-past, others-past}
use Rattle.hub_rounds.proofs.rounds.take_round.Goals as goal

pub loop-one-preserved : goal.loop-one-preserved
loop-one-preserved c =
    let k = c.args.round in
    let ps = c.loop-one.yielded in
    let p = c.in-Some.one in
    let out : is_in_round k p.placing ≡ false = sym c.is_round.ensures ∙ c.if-is_round.false in
    record {
      own = c.loop-one.invariant.own ∙ sym (members-past k ps p out);
      others = c.in_ok-push-2.ensures.items ∙ (ap (λ (qs : List Placed). qs ++ p ∷ []) c.loop-one.invariant.others ∙ sym (others-past k ps p out));
    }

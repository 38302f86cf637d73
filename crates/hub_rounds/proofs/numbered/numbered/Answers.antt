use Rattle.std.proofs.Common.{◌∙◌, ◌++◌, ◌∷◌, [], ℕ, List, sym, ap₂, arith}
use Rattle.std.proofs.lemmas.List.FromFn.{map-range_with_len_more}
use Rattle.hub_rounds.specs.Numbered.{numbers_in_round}
use Rattle.hub_rounds.proofs.numbered.numbered.Goals as goal

pub loop-round-preserved : goal.loop-round-preserved
loop-round-preserved c =
    let qs = c.args.placings.now in
    let k = c.loop-round.round in
    c.in_ok-push.ensures.ok
    ∙ (ap₂ (λ (xs : List (List ℕ)) (x : List ℕ). xs ++ x ∷ []) c.loop-round.invariant c.in_ok-own.ensures
    ∙ sym (map-range_with_len_more (λ n. numbers_in_round n qs) 0 k k (omega arith)))

use Rattle.std.proofs.Common.{◌≤◌, inl, inr, ⊎_elim, refl, arith}
use Rattle.std.proofs.lemmas.Option.{slice_get_read, slice_get_within}
use Rattle.std.proofs.lemmas.Result.{err_from_is_err_and}
use Rattle.hub_text.specs.laws.List.{also-here}
use Rattle.hub_automaton.specs.declared.alternatives.TheConstants.{SPOTS}
use Rattle.hub_profile.specs.declared.rule.Rule.{Rule}
use Rattle.hub_cert.specs.Set.{rule_spots}
use Rattle.hub_cert.proofs.set.refusals.check_rule_spots.Goals as goal

pub loop-rule-preserved : goal.loop-rule-preserved
loop-rule-preserved c =
    let at = slice_get_read c.args.rules.now _ c.loop-rule.rule-index c.rule-item.result refl c.loop-rule-test.true c.rule-item.is in
    also-here (λ (R : Rule). rule_spots R ≤ SPOTS) c.args.rules.now c.loop-rule.rule-index c.rule-item.result at c.in_ok-check_spec_spots.ensures.few c.loop-rule.invariant

pub returns-clause-few : goal.returns-clause-few
returns-clause-few c = λ k R at. let l = slice_get_within c.args.rules.now k R at in c.loop-rule.invariant k R (omega (arith, l, c.loop-rule-test.false)) at

pub returns-in_err-check_spec_spots-clause-err : goal.returns-in_err-check_spec_spots-clause-err
returns-in_err-check_spec_spots-clause-err c =
    let at = slice_get_read c.args.rules.now _ c.loop-rule.rule-index c.rule-item.result refl c.loop-rule-test.true c.rule-item.is in
    let p = err_from_is_err_and c.from_residual.result c.from_residual.ensures.1 in
    rw (p.1, p.2)
    (⊎_elim (λ none. inl none) (λ many. inr (many.0, (c.loop-rule.rule-index, c.rule-item.result, at, many.1)))
    c.in_err-check_spec_spots.ensures.err)

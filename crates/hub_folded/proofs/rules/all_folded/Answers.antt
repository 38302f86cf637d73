use Rattle.std.proofs.Common.{◌∙◌, ap, arith, map, sym}
use Rattle.std.specs.List.{list_all}
use Rattle.hub_profile.specs.declared.rule.Rule.{Rule}
use Rattle.hub_folded.specs.Lines.{fold_rule, knows_line}
use Rattle.hub_folded.specs.Table.{unicode}
use Rattle.hub_folded.proofs.Lists.{all-more, leaves, mapped-more, none-if, not-all, some-if}
use Rattle.hub_folded.proofs.rules.all_folded.Goals as goal

pub returns-in_default : goal.returns-in_default
returns-in_default c =
    let R = c.rule-item.result in
    let value = c.as_slice-rule-items.ensures.value in
    leaves (list_all (λ (S : Rule). knows_line unicode S.spec) c.args.rules.now) (map (fold_rule unicode) c.args.rules.now)
    (ap (list_all (λ (S : Rule). knows_line unicode S.spec)) (sym value)
    ∙ not-all (λ (S : Rule). knows_line unicode S.spec) c.as_slice-rule-items.result.now c.loop-rule.rule-index R (omega arith) c.rule-item.is
    (none-if (knows_line unicode R.spec) (fold_rule unicode R) c.in_ok-folded.field-0 c.in_default.is c.in_ok-folded.ensures))

pub loop-rule-preserved : goal.loop-rule-preserved
loop-rule-preserved c =
    let Rs = c.as_slice-rule-items.result.now in
    let i = c.loop-rule.rule-index in
    let R = c.rule-item.result in
    let two = some-if (knows_line unicode R.spec) (fold_rule unicode R) c.in-Some.folded c.in_ok-folded.field-0 c.in-Some.is c.in_ok-folded.ensures in
    record {
      all = mapped-more (fold_rule unicode) Rs i R c.in-Some.folded c.loop-rule.all c.push.new.self (omega arith) c.rule-item.is c.loop-rule.invariant.all two.1 c.in_ok-push.ensures;
      known = all-more (λ (S : Rule). knows_line unicode S.spec) Rs i R (omega arith) c.rule-item.is c.loop-rule.invariant.known two.0;
    }

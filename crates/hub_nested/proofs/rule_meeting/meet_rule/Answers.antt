use Rattle.std.proofs.Common.{◌≡◌, ◌∙◌, sym, subst, IfOk}
use Rattle.hub_nested.proofs.Meetings.{rule-over}
use Rattle.hub_nested.proofs.rule_meeting.meet_rule.Goals as goal

pub returns-then-is_within-2 : goal.returns-then-is_within-2
returns-then-is_within-2 c =
    let r = c.root-root.result.now in
    subst (λ t. IfOk c.over_rule.result (λ m. m ≡ t))
    (rule-over c.args.profile.now c.args.at c.args.rule.now r c.in_ok-names-2.names c.root-root.ensures.value
    (sym c.is_within.ensures ∙ c.if-is_within.false) (sym c.is_within-2.ensures ∙ c.if-is_within-2.true) c.in_ok-names-2.ensures)
    (c.over_rule.ensures r c.root-root.ensures.value)

use Rattle.hub_nested.proofs.Meetings.{said-unsaid, some-path, top-unsaid, under-counted, under-unsaid}
use Rattle.hub_nested.proofs.rule_meeting.under_rule.Goals as goal

pub at_root-requires : goal.at_root-requires
at_root-requires c = record {
  path = some-path c.args.rule.now.root c.path.result.now c.len.result c.path.ensures c.len.ensures.len c.if-len-eq0.false c.len.ensures.valid;
}

pub returns-then-len-eq0 : goal.returns-then-len-eq0
returns-then-len-eq0 c =
    top-unsaid c.args.profile.now c.args.at c.args.names.now c.args.rule.now c.path.result.now c.len.result c.path.ensures
    c.len.ensures.len c.if-len-eq0.true

pub returns-in_default : goal.returns-in_default
returns-in_default c =
    said-unsaid c.args.profile.now c.args.at c.args.names.now c.args.rule.now c.in_ok-profile_said.field-0 c.in_default.is
    c.in_ok-profile_said.ensures

pub returns-in_default-2 : goal.returns-in_default-2
returns-in_default-2 c =
    under-unsaid c.args.profile.now c.args.at c.args.names.now c.args.rule.now c.in_ok-spec.field-0 c.in_default-2.is c.in_ok-spec.ensures

pub returns : goal.returns
returns c =
    under-counted c.args.profile.now c.args.at c.args.names.now c.args.rule.now c.in_ok-copy.field-0 c.path.result.now c.len.result
    c.in-Some.profile_said c.in-Some-2.spec c.in_ok-under.under c.in_ok-profile_said.field-0 c.in_ok-spec.field-0
    c.in-Some.is c.in_ok-profile_said.ensures c.in-Some-2.is c.in_ok-spec.ensures c.in_ok-copy.ensures
    c.path.ensures c.len.ensures.len c.if-len-eq0.false c.in_ok-under.ensures

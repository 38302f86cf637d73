use Rattle.hub_unison.specs.ReadingOf.{is_read_back}
use Rattle.hub_nested.specs.Lifted.{just}
use Rattle.hub_nested.specs.Said.{is_top_said, spared_top}
use Rattle.hub_nested.proofs.SaidParts.{leaves, none-if, top-spared, top-unsaid}
use Rattle.hub_nested.proofs.said.spared_top.Goals as goal

pub returns-in_default : goal.returns-in_default
returns-in_default c =
    let x = c.args.names.now in
    leaves (is_top_said x) (spared_top x)
    (top-unsaid x c.len.result c.len.ensures.len c.if-len-eq0.false
    (none-if (is_read_back (just x)) (just x) c.in_ok-spec.field-0 c.in_default.is c.in_ok-spec.ensures))

pub returns : goal.returns
returns c =
    top-spared c.args.names.now c.len.result c.new-spared.result c.push.new.self c.in-Some.spec c.in_ok-spec.field-0
    c.len.ensures.len c.if-len-eq0.false c.in-Some.is c.in_ok-spec.ensures c.new-spared.ensures c.in_ok-push.ensures.ok

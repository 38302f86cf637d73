use Rattle.std.proofs.Common.{◌∙◌, ap, arith, map}
use Rattle.hub_folded.specs.Lines.{fold_spec, knows_line}
use Rattle.hub_folded.specs.Table.{unicode}
use Rattle.hub_folded.proofs.Lists.{filter-gone, kept-more, none-if, some-if}
use Rattle.hub_folded.proofs.lines.known_folded.Goals as goal

pub loop-spec-preserved-in_default : goal.loop-spec-preserved-in_default
loop-spec-preserved-in_default c =
    let s = c.spec-item.result in
    c.loop-spec.invariant
    ∙ ap (map (fold_spec unicode))
    (filter-gone (knows_line unicode) c.args.specs.now c.loop-spec.spec-index s (omega arith) c.spec-item.is
    (none-if (knows_line unicode s) (fold_spec unicode s) c.in_ok-folded.field-0 c.in_default.is c.in_ok-folded.ensures))

pub loop-spec-preserved : goal.loop-spec-preserved
loop-spec-preserved c =
    let s = c.spec-item.result in
    let two = some-if (knows_line unicode s) (fold_spec unicode s) c.in-Some.folded c.in_ok-folded.field-0 c.in-Some.is c.in_ok-folded.ensures in
    kept-more (fold_spec unicode) (knows_line unicode) c.args.specs.now c.loop-spec.spec-index s c.in-Some.folded c.loop-spec.all
    c.push.new.self (omega arith) c.spec-item.is c.loop-spec.invariant two.0 two.1 c.in_ok-push.ensures.ok

use Rattle.std.proofs.Common.{arith, map}
use Rattle.std.specs.List.{list_all}
use Rattle.hub_folded.specs.Lines.{fold_spec, knows_line}
use Rattle.hub_folded.specs.Table.{unicode}
use Rattle.hub_folded.proofs.Lists.{all-more, leaves, mapped-more, none-if, not-all, some-if}
use Rattle.hub_folded.proofs.lines.all_folded.Goals as goal

pub returns-in_default : goal.returns-in_default
returns-in_default c =
    let ss = c.args.specs.now in
    let s = c.spec-item.result in
    leaves (list_all (knows_line unicode) ss) (map (fold_spec unicode) ss)
    (not-all (knows_line unicode) ss c.loop-spec.spec-index s (omega arith) c.spec-item.is
    (none-if (knows_line unicode s) (fold_spec unicode s) c.in_ok-folded.field-0 c.in_default.is c.in_ok-folded.ensures))

pub loop-spec-preserved : goal.loop-spec-preserved
loop-spec-preserved c =
    let ss = c.args.specs.now in
    let i = c.loop-spec.spec-index in
    let s = c.spec-item.result in
    let two = some-if (knows_line unicode s) (fold_spec unicode s) c.in-Some.folded c.in_ok-folded.field-0 c.in-Some.is c.in_ok-folded.ensures in
    record {
      all = mapped-more (fold_spec unicode) ss i s c.in-Some.folded c.loop-spec.all c.push.new.self (omega arith) c.spec-item.is c.loop-spec.invariant.all two.1 c.in_ok-push.ensures.ok;
      known = all-more (knows_line unicode) ss i s (omega arith) c.spec-item.is c.loop-spec.invariant.known two.0;
    }

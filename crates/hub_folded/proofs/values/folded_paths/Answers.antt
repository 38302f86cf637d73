use Rattle.std.proofs.Common.{arith, map}
use Rattle.std.specs.List.{list_all}
use Rattle.hub_folded.specs.Fold.{fold_path, knows_path}
use Rattle.hub_folded.specs.Table.{unicode}
use Rattle.hub_folded.proofs.Lists.{all-more, leaves, mapped-more, none-if, not-all, some-if}
use Rattle.hub_folded.proofs.values.folded_paths.Goals as goal

pub returns-in_default : goal.returns-in_default
returns-in_default c =
    let ps = c.args.paths.now in
    let p = c.path-item.result in
    leaves (list_all (knows_path unicode) ps) (map (fold_path unicode) ps)
    (not-all (knows_path unicode) ps c.loop-path.path-index p (omega arith) c.path-item.is
    (none-if (knows_path unicode p) (fold_path unicode p) c.in_ok-folded.field-0 c.in_default.is c.in_ok-folded.ensures))

pub loop-path-preserved : goal.loop-path-preserved
loop-path-preserved c =
    let ps = c.args.paths.now in
    let i = c.loop-path.path-index in
    let p = c.path-item.result in
    let two = some-if (knows_path unicode p) (fold_path unicode p) c.in-Some.folded c.in_ok-folded.field-0 c.in-Some.is c.in_ok-folded.ensures in
    record {
      all = mapped-more (fold_path unicode) ps i p c.in-Some.folded c.loop-path.all c.push.new.self (omega arith) c.path-item.is c.loop-path.invariant.all two.1 c.in_ok-push.ensures.ok;
      known = all-more (knows_path unicode) ps i p (omega arith) c.path-item.is c.loop-path.invariant.known two.0;
    }

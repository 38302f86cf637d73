use Rattle.hub_folded.specs.Lines.{fold_rule, fold_spec, knows_line}
use Rattle.hub_folded.specs.Table.{unicode}
use Rattle.hub_folded.proofs.Lists.{leaves, none-if}
use Rattle.hub_folded.proofs.rules.fold_rule.Goals as goal

pub returns-in-None : goal.returns-in-None
returns-in-None c =
    let R = c.args.rule.now in
    leaves (knows_line unicode R.spec) (fold_rule unicode R)
    (none-if (knows_line unicode R.spec) (fold_spec unicode R.spec) c.in_ok-spec.field-0 c.in-None.is c.in_ok-spec.ensures)

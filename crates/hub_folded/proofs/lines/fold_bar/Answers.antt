use Rattle.hub_folded.specs.Lines.{fold_bar, fold_spec, knows_line}
use Rattle.hub_folded.specs.Table.{unicode}
use Rattle.hub_folded.proofs.Lists.{gives, leaves, none-if, some-if}
use Rattle.hub_folded.proofs.lines.fold_bar.Goals as goal

pub returns-in-Some : goal.returns-in-Some
returns-in-Some c =
    let b = c.args.bar.now in
    let two = some-if (knows_line unicode b.spec) (fold_spec unicode b.spec) c.in-Some.spec c.in_ok-spec.field-0 c.in-Some.is c.in_ok-spec.ensures in
    gives (knows_line unicode b.spec) (fold_bar unicode b) (record { side = b.side; bars = b.bars; spec = c.in-Some.spec })
    two.0 (λ i. record { side = b.side; bars = b.bars; spec = two.1 i })

pub returns-in-None : goal.returns-in-None
returns-in-None c =
    let b = c.args.bar.now in
    leaves (knows_line unicode b.spec) (fold_bar unicode b)
    (none-if (knows_line unicode b.spec) (fold_spec unicode b.spec) c.in_ok-spec.field-0 c.in-None.is c.in_ok-spec.ensures)

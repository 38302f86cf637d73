use Rattle.std.proofs.Common.{◌∙◌, ap, arith, map}
use Rattle.hub_profile.specs.declared.partial.Partial.{Partial}
use Rattle.hub_folded.specs.Lines.{fold_bar, knows_line}
use Rattle.hub_folded.specs.Table.{unicode}
use Rattle.hub_folded.proofs.Lists.{filter-gone, kept-more, none-if, some-if}
use Rattle.hub_folded.proofs.lines.folded_bars.Goals as goal

pub loop-bar-preserved-in_default : goal.loop-bar-preserved-in_default
loop-bar-preserved-in_default c =
    let b = c.bar-item.result in
    c.loop-bar.invariant
    ∙ ap (map (fold_bar unicode))
    (filter-gone (λ (b : Partial). knows_line unicode b.spec) c.args.bars.now c.loop-bar.bar-index b (omega arith) c.bar-item.is
    (none-if (knows_line unicode b.spec) (fold_bar unicode b) c.in_ok-folded.field-0 c.in_default.is c.in_ok-folded.ensures))

pub loop-bar-preserved : goal.loop-bar-preserved
loop-bar-preserved c =
    let b = c.bar-item.result in
    let two = some-if (knows_line unicode b.spec) (fold_bar unicode b) c.in-Some.folded c.in_ok-folded.field-0 c.in-Some.is c.in_ok-folded.ensures in
    kept-more (fold_bar unicode) (λ (b : Partial). knows_line unicode b.spec) c.args.bars.now c.loop-bar.bar-index b c.in-Some.folded c.loop-bar.all
    c.push.new.self (omega arith) c.bar-item.is c.loop-bar.invariant two.0 two.1 c.in_ok-push.ensures.ok

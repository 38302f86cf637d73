use Rattle.std.proofs.Common.{◌∙◌, arith}
use Rattle.hub_unison.specs.ReadingOf.{bar_stays}
use Rattle.hub_unison.proofs.KeptLines.{filter-gone, none-if}
use Rattle.hub_unison.proofs.kept.kept_bars.Goals as goal

pub loop-bar-preserved-in_default : goal.loop-bar-preserved-in_default
loop-bar-preserved-in_default c =
    let b = c.bar-item.result in
    c.loop-bar.invariant
    ∙ filter-gone bar_stays c.args.bars.now c.loop-bar.bar-index b (omega arith) c.bar-item.is
    (none-if (bar_stays b) b c.in_ok-copy.field-0 c.in_default.is c.in_ok-copy.ensures)

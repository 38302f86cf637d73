use Rattle.hub_report.proofs.NamesOfPaths.{named-more}
use Rattle.hub_report.proofs.overlap.below.Goals as goal

pub loop-i-preserved : goal.loop-i-preserved
loop-i-preserved c =
    named-more c.args.root.now c.args.path.now c.loop-i.whole c.in_ok-whole-2.whole c.loop-i.i c.name.result.now c.in_ok-name.name
    c.loop-i.invariant c.name.ensures.name c.in_ok-name.ensures c.in_ok-whole-2.ensures

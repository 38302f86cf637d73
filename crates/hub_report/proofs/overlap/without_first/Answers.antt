use Rattle.std.proofs.Common.{drop}
use Rattle.hub_report.proofs.NamesOfPaths.{left-more}
use Rattle.hub_report.proofs.overlap.without_first.Goals as goal

pub loop-i-preserved : goal.loop-i-preserved
loop-i-preserved c =
    left-more c.args.path.now c.loop-i.rest c.in_ok-rest.rest (drop c.args.names c.args.path.now) c.loop-i.i c.name.result.now
    c.in_ok-name.name c.loop-i.invariant c.name.ensures.name c.in_ok-name.ensures c.in_ok-rest.ensures

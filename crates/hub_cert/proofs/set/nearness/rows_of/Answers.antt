use Rattle.std.proofs.Common.{arith}
use Rattle.hub_cert.proofs.NearRows.{rows-more}
use Rattle.hub_cert.proofs.set.nearness.rows_of.Goals as goal

pub loop-first-preserved : goal.loop-first-preserved
loop-first-preserved c =
    rows-more c.args.lists.now c.loop-first.first c.loop-first.rows.items c.push.new.self.items c.in_ok-row.row (omega (arith, c.loop-first-test.true)) c.loop-first.invariant c.in_ok-row.ensures c.in_ok-push.ensures.items

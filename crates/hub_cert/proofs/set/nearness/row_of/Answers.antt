use Rattle.std.proofs.Common.{arith}
use Rattle.hub_cert.proofs.NearRows.{row-more}
use Rattle.hub_cert.proofs.set.nearness.row_of.Goals as goal

pub loop-second-preserved : goal.loop-second-preserved
loop-second-preserved c = λ ps at.
    row-more c.args.lists.now ps c.args.first c.loop-second.second c.loop-second.row.items c.push.new.self.items c.are_near_at.result at (omega (arith, c.loop-second-test.true))
    (c.loop-second.invariant ps at) c.are_near_at.ensures c.in_ok-push.ensures.items

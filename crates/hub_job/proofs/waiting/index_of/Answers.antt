use Rattle.std.proofs.Common.{◌-◌, length, sym, arith}
use Rattle.hub_job.proofs.Stacks.{there_at}
use Rattle.hub_job.proofs.waiting.index_of.Goals as goal

pub returns-in-Equal-clause-there : goal.returns-in-Equal-clause-there
returns-in-Equal-clause-there c =
    there_at c.args.stack.now (length c.args.stack.now - c.loop-i.i) c.index-stack-at.result c.args.path.now (omega arith) (omega arith) c.index-stack-at.is
    (sym c.in-Equal.ensures) c.loop-i.invariant

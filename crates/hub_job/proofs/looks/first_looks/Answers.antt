use Rattle.std.proofs.Common.{arith}
use Rattle.hub_job.proofs.Told.{kept_done}
use Rattle.hub_job.proofs.looks.first_looks.Goals as goal

pub returns : goal.returns
returns c = kept_done c.args.profile.now c.paths-kept-items.result.now c.loop-kept.waiting c.loop-kept.kept-index (omega arith) c.paths-kept-items.ensures.value c.loop-kept.invariant

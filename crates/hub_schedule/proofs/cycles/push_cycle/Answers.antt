use Rattle.std.proofs.Common.{◌∙◌}
use Rattle.hub_schedule.proofs.InCycles.{cycle_more}
use Rattle.hub_schedule.proofs.cycles.push_cycle.Goals as goal

pub loop-job-preserved : goal.loop-job-preserved
loop-job-preserved c =
    c.in_ok-push.ensures.items ∙ cycle_more c.args.schedule.now.items c.loop-job.schedule.items c.loop-job.job c.loop-job.invariant

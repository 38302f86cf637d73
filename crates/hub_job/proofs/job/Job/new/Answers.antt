use Rattle.std.proofs.Common.{List, None, ap}
use Rattle.hub_job.specs.JobValue.{value_of}
use Rattle.hub_job.specs.declared.log.Logged.{Logged}
use Rattle.hub_job.specs.declared.phase.Phase.TheVariants as phase
use Rattle.hub_job.proofs.Jobs.{new_whole}
use Rattle.hub_job.proofs.job.Job.new.Goals as goal

pub invariant_of-result : goal.invariant_of-result
invariant_of-result c =
    (new_whole c.args.profile.now c.args.archive.now c.args.number c.new-2.result.items c.in_ok-looks.looks c.new-2.ensures.items c.in_ok-looks.ensures.told c.in_ok-looks.ensures.left c.in_ok-looks.ensures.right, tt)

pub returns : goal.returns
returns c =
    ap (λ (log : List Logged). value_of c.args.number c.args.profile.now c.args.archive.now log None (phase.Looking c.in_ok-looks.looks)) c.new-2.ensures.items

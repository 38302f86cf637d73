use Rattle.std.proofs.Common.{Bool, ap, sym, ◌∙◌}
use Rattle.std.specs.Prelude.{if◌then◌else◌}
use Rattle.hub_job.specs.declared.job_end.End.TheVariants as end
use Rattle.hub_job.specs.Ends.{end_by}
use Rattle.hub_job.specs.Job.{next}
use Rattle.hub_job.specs.laws.Finishing.{finished_by}
use Rattle.hub_job.proofs.Jobs.{ends_as}
use Rattle.hub_job.proofs.job_end.end_in.Goals as goal

pub returns-clause-end : goal.returns-clause-end
returns-clause-end c =
    let P = c.args.profile.now in
    let O = c.args.archive.now in
    let log = c.args.log.now in
    c.end_before.ensures
    ∙ (sym (ends_as P O log c.next_of.new.phase c.in_ok-next.next c.in_ok-next.ensures.next.next)
    ∙ ap (λ (b : Bool). if b then end.Stopped else end_by (next P O log)) c.in_ok-next.ensures.stopped)

pub returns-clause-finished : goal.returns-clause-finished
returns-clause-finished c = λ f. c.in_ok-next.ensures.next.finished (finished_by c.in_ok-next.next (sym c.end_before.ensures ∙ f))

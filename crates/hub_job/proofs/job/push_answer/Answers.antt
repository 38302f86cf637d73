use Rattle.std.proofs.Common.{Option, sym, ap, ◌∙◌, subst}
use Rattle.std.specs.Vec.{vec_len, vec_capacity}
use Rattle.hub_job.specs.JobValue.{IsRoomy, log_with}
use Rattle.hub_job.specs.declared.asked.Asked.{Asked}
use Rattle.hub_job.proofs.Jobs.{not_asked, pushed_on}
use Rattle.hub_job.proofs.job.push_answer.Goals as goal

pub returns-in-Some : goal.returns-in-Some
returns-in-Some c =
    let log = c.args.log.now in
    pushed_on c.push-pushed.result log.items c.push-pushed.new.self.items _ (vec_len log) (vec_capacity log) c.push-pushed.ensures.items c.push-pushed.ensures.succeeds
    (subst (λ (o : Option Asked). IsRoomy o (vec_len log) (vec_capacity log)) c.in-Some.is c.requires)
    ∙ sym (ap (λ (o : Option Asked). log_with c.args.job log.items o c.args.answer) c.in-Some.is)

pub returns-in_default : goal.returns-in_default
returns-in_default c = not_asked c.args.job c.args.log.now.items c.args.asked c.args.answer c.in_default.not-Some

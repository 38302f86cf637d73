use Rattle.std.proofs.Common.{Option, sym, ap, ◌∙◌, ◌≢◌, subst}
use Rattle.std.specs.Prelude.{None, IfSome}
use Rattle.std.specs.Vec.{vec_len, vec_capacity}
use Rattle.hub_job.specs.JobValue.{JobValue, IsRoomy, IsWhole, log_with, value_of}
use Rattle.hub_job.specs.Machine.{Fits}
use Rattle.hub_job.specs.declared.asked.Asked.{Asked}
use Rattle.hub_job.proofs.Jobs.{answered, taken_all}
use Rattle.hub_job.proofs.job.Job.take.Goals as goal

pub push_answer-requires : goal.push_answer-requires
push_answer-requires c =
    subst (λ (o : Option Asked). IsRoomy o (vec_len c.self.inside.log) (vec_capacity c.self.inside.log)) (sym c.take-asked.ensures.value) c.self.invariant.1

pub invariant_of-self : goal.invariant_of-self
invariant_of-self c =
    let s = c.self.inside in
    let back = sym (ap (λ (J : JobValue). J.asked) c.self.view_is) in
    subst (λ (o : Option Asked). IsWhole (value_of s.number s.profile.now s.archive.now c.push_answer.new.log.items o s.phase) s.phase × IsRoomy o (vec_len c.push_answer.new.log) (vec_capacity c.push_answer.new.log))
    (sym c.take-asked.ensures.after) (
      taken_all s.profile.now s.archive.now s.number s.log.items c.push_answer.new.log.items s.phase s.asked c.args.answer c.self.invariant.0
          (subst (λ (o : Option Asked). o ≢ None) back c.requires.asks)
          (subst (λ (o : Option Asked). IfSome o (λ a. Fits a.op c.args.answer)) back c.requires.fits)
          (c.push_answer.ensures ∙ ap (λ (o : Option Asked). log_with s.number s.log.items o c.args.answer) c.take-asked.ensures.value),
      tt,
    )

pub returns : goal.returns
returns c =
    let s = c.self.inside in
    answered c.args.self.now s.profile.now s.archive.now s.number s.log.items c.push_answer.new.log.items s.phase s.asked c.take-asked.new.self c.args.answer c.self.view_is
    (c.push_answer.ensures ∙ ap (λ (o : Option Asked). log_with s.number s.log.items o c.args.answer) c.take-asked.ensures.value)
    c.take-asked.ensures.after

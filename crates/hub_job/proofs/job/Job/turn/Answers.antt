use Rattle.std.proofs.Common.{◌≡◌, ◌<◌, false, ap, sym, ◌∙◌, subst}
use Rattle.std.proofs.lemmas.Bool.{false≢true}
use Rattle.hub_job.specs.declared.op.Next.TheVariants.{Stopped}
use Rattle.hub_job.specs.JobValue.{JobValue}
use Rattle.hub_job.specs.Job.{is_ask, next, steps_made}
use Rattle.hub_job.specs.Phase.{is_stopped}
use Rattle.hub_job.proofs.Jobs.{stopped_now, turned, turned_value}
use Rattle.hub_job.proofs.Phases.{does_next, does_nothing}
use Rattle.hub_job.proofs.job.Job.turn.Goals as goal

pub ask-requires-clause-follows : goal.ask-requires-clause-follows
ask-requires-clause-follows c = c.self.invariant.0.follows

pub ask-requires-clause-run : goal.ask-requires-clause-run
ask-requires-clause-run c = (c.self.inside.number, c.self.invariant.0.job.run)

pub invariant_of-self : goal.invariant_of-self
invariant_of-self c =
    let s = c.self.inside in
    (turned s.profile.now s.archive.now s.number _ _ _ _ _ c.self.invariant.0.job.run c.in-Ok.ensures.log c.in-Ok.ensures.asked c.in-Ok.ensures.next, c.in-Ok.ensures.room)

pub invariant_of-self-in-Err : goal.invariant_of-self-in-Err
invariant_of-self-in-Err c =
    let s = c.self.inside in
    stopped_now s.profile.now s.archive.now s.number _ _ _ _ _ _ c.self.invariant.0.job.run c.in-Err.ensures.log c.stop.ensures.phase c.stop.ensures.asked

pub returns-in-Ok-clause-next : goal.returns-in-Ok-clause-next
returns-in-Ok-clause-next c = λ s.
    does_next _ _ _ _ _ c.in-Ok.ensures.next s
    ∙ ap (λ (J : JobValue). next J.profile J.archive J.log) c.self.view_is

pub returns-in-Ok-clause-stopped : goal.returns-in-Ok-clause-stopped
returns-in-Ok-clause-stopped c = λ s. does_nothing _ _ _ _ _ c.in-Ok.ensures.next s

pub returns-in-Ok-clause-after : goal.returns-in-Ok-clause-after
returns-in-Ok-clause-after c =
    let s = c.self.inside in
    turned_value c.args.self.now s.profile.now s.archive.now s.number s.log.items _ s.asked _ s.phase _ _ c.self.view_is c.in-Ok.ensures.log c.in-Ok.ensures.asked

pub returns-in-Ok-clause-stays : goal.returns-in-Ok-clause-stays
returns-in-Ok-clause-stays c = λ s. c.in-Ok.ensures.stopped ∙ (ap (λ (J : JobValue). J.stopped) c.self.view_is ∙ s)

pub returns-in-Ok-clause-memory : goal.returns-in-Ok-clause-memory
returns-in-Ok-clause-memory c = λ s made asks. c.in-Ok.ensures.stopped ∙ (ap (λ (J : JobValue). J.stopped) c.self.view_is ∙ s)

pub returns-in-Err-clause-next : goal.returns-in-Err-clause-next
returns-in-Err-clause-next c = λ s. absurd (false≢true (sym s ∙ ap is_stopped c.stop.ensures.phase))

pub returns-in-Err-clause-after : goal.returns-in-Err-clause-after
returns-in-Err-clause-after c =
    let s = c.self.inside in
    turned_value c.args.self.now s.profile.now s.archive.now s.number s.log.items _ s.asked _ s.phase _ Stopped c.self.view_is c.in-Err.ensures.log c.stop.ensures.asked

pub returns-in-Err-clause-stays : goal.returns-in-Err-clause-stays
returns-in-Err-clause-stays c = λ s. ap is_stopped c.stop.ensures.phase

pub returns-in-Err-clause-memory : goal.returns-in-Err-clause-memory
returns-in-Err-clause-memory c = λ s made asks.
    let back = sym c.self.view_is in
    absurd
    (false≢true
    (c.in-Err.ensures.memory (subst (λ (J : JobValue). 0 < steps_made J.log) back made)
    (subst (λ (J : JobValue). is_ask (next J.profile J.archive J.log) ≡ false) back asks)))

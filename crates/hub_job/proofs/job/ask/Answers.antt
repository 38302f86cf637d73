use Rattle.std.proofs.Common.{◌≡◌, ◌<◌, false, List, ap, sym, ◌∙◌, subst}
use Rattle.std.proofs.lemmas.Bool.{false≢true}
use Rattle.hub_job.specs.Job.{is_ask, next, steps_made}
use Rattle.hub_job.specs.Phase.{IsNext}
use Rattle.hub_job.specs.declared.log.Logged.{Logged}
use Rattle.hub_job.specs.declared.op.Next.{Next}
use Rattle.hub_job.proofs.Phases.{does_not_ask}
use Rattle.hub_job.proofs.job.ask.Goals as goal

pub next_of-requires-clause-follows : goal.next_of-requires-clause-follows
next_of-requires-clause-follows c = rw (c.as_slice.ensures.value) c.requires.follows

pub next_of-requires-clause-run : goal.next_of-requires-clause-run
next_of-requires-clause-run c = rw (c.as_slice.ensures.value) c.requires.run

pub returns-clause-next : goal.returns-clause-next
returns-clause-next c =
    subst (λ (n : Next). IsNext c.args.profile.now c.args.archive.now c.args.log.now.items c.next_of.new.phase n) (sym c.sharing-next.ensures)
    (subst (λ (es : List Logged). IsNext c.args.profile.now c.args.archive.now es c.next_of.new.phase c.in_ok-next.next)
    c.as_slice.ensures.value c.in_ok-next.ensures.next)

pub returns-in_err-next-clause-memory : goal.returns-in_err-next-clause-memory
returns-in_err-next-clause-memory c = λ made asks.
    absurd
    (false≢true
    (c.in_err-next.ensures.memory (subst (λ (es : List Logged). 0 < steps_made es) (sym c.as_slice.ensures.value) made)
    (subst (λ (es : List Logged). is_ask (next c.args.profile.now c.args.archive.now es) ≡ false) (sym c.as_slice.ensures.value) asks)))

pub returns-in_err-set_asked-clause-memory : goal.returns-in_err-set_asked-clause-memory
returns-in_err-set_asked-clause-memory c = λ made asks.
    absurd
    (false≢true
    (c.in_err-set_asked.ensures.memory
    (ap is_ask c.sharing-next.ensures
    ∙ does_not_ask _ _ _ _ _ c.in_ok-next.ensures.next (subst (λ (es : List Logged). is_ask (next c.args.profile.now c.args.archive.now es) ≡ false) (sym c.as_slice.ensures.value) asks))))

use Rattle.std.proofs.Common.{sym, subst}
use Rattle.hub_job.specs.Phase.{IsNext}
use Rattle.hub_job.specs.declared.op.Next.TheVariants.{Stopped}
use Rattle.hub_job.specs.declared.phase.Phase.{Phase}
use Rattle.hub_job.proofs.Phases.{asks_no_step, looks_next, looks_made, looks_within, making_next, no_step_yet, steps_next, steps_within, stopped_next}
use Rattle.hub_job.proofs.phase.next_of.Goals as goal

pub returns-in-Some-clause-next : goal.returns-in-Some-clause-next
returns-in-Some-clause-next c =
    looks_next c.args.profile.now c.args.archive.now c.args.log.now _ _ _ _ _ c.requires.follows c.in-Looking.is c.requires.run c.in_ok-tell-in-Looking.ensures
    c.in_ok-next-in-Looking.ensures c.in-Some.is

pub steps_after-requires-clause-looks : goal.steps_after-requires-clause-looks
steps_after-requires-clause-looks c =
    (looks_made c.args.profile.now c.args.archive.now c.args.log.now _ _ _ _ c.requires.follows c.in-Looking.is c.requires.run c.in_ok-tell-in-Looking.ensures
    c.in_ok-next-in-Looking.ensures c.in_default.not-Some).0

pub steps_after-requires-clause-left : goal.steps_after-requires-clause-left
steps_after-requires-clause-left c =
    (looks_made c.args.profile.now c.args.archive.now c.args.log.now _ _ _ _ c.requires.follows c.in-Looking.is c.requires.run c.in_ok-tell-in-Looking.ensures
    c.in_ok-next-in-Looking.ensures c.in_default.not-Some).1

pub steps_after-requires-clause-right : goal.steps_after-requires-clause-right
steps_after-requires-clause-right c =
    (looks_made c.args.profile.now c.args.archive.now c.args.log.now _ _ _ _ c.requires.follows c.in-Looking.is c.requires.run c.in_ok-tell-in-Looking.ensures
    c.in_ok-next-in-Looking.ensures c.in_default.not-Some).2

pub next-requires-in-Looking : goal.next-requires-in-Looking
next-requires-in-Looking c = looks_within c.args.profile.now c.args.archive.now c.args.log.now _ c.in_ok-steps-in-Looking.ensures

pub next-requires-in-Making : goal.next-requires-in-Making
next-requires-in-Making c = steps_within c.args.profile.now c.args.archive.now c.args.log.now _ _ c.requires.follows c.in-Making.is

pub returns-in_ok-next-in-Looking-2-clause-next : goal.returns-in_ok-next-in-Looking-2-clause-next
returns-in_ok-next-in-Looking-2-clause-next c =
    making_next c.args.profile.now c.args.archive.now c.args.log.now _ _ c.in_ok-steps-in-Looking.ensures c.in_ok-next-in-Looking-2.ensures.value

pub returns-in-Making-clause-next : goal.returns-in-Making-clause-next
returns-in-Making-clause-next c =
    steps_next c.args.profile.now c.args.archive.now c.args.log.now _ _ _ c.requires.follows c.in-Making.is c.next-in-Making.ensures.value

pub returns-in-Stopped-clause-next : goal.returns-in-Stopped-clause-next
returns-in-Stopped-clause-next c =
    subst (λ (p : Phase). IsNext c.args.profile.now c.args.archive.now c.args.log.now p Stopped) (sym c.in-Stopped.is) (stopped_next c.args.profile.now c.args.archive.now c.args.log.now)

pub returns-in_err-tell-in-Looking-clause-memory : goal.returns-in_err-tell-in-Looking-clause-memory
returns-in_err-tell-in-Looking-clause-memory c = λ made asks. absurd (no_step_yet c.args.profile.now c.args.archive.now c.args.log.now _ _ c.requires.follows c.in-Looking.is made)

pub returns-in_err-next-in-Looking-clause-memory : goal.returns-in_err-next-in-Looking-clause-memory
returns-in_err-next-in-Looking-clause-memory c = λ made asks. absurd (no_step_yet c.args.profile.now c.args.archive.now c.args.log.now _ _ c.requires.follows c.in-Looking.is made)

pub returns-in_err-steps-in-Looking-clause-memory : goal.returns-in_err-steps-in-Looking-clause-memory
returns-in_err-steps-in-Looking-clause-memory c = λ made asks. absurd (no_step_yet c.args.profile.now c.args.archive.now c.args.log.now _ _ c.requires.follows c.in-Looking.is made)

pub returns-in_err-next-in-Looking-2-clause-memory : goal.returns-in_err-next-in-Looking-2-clause-memory
returns-in_err-next-in-Looking-2-clause-memory c = λ made asks. absurd (no_step_yet c.args.profile.now c.args.archive.now c.args.log.now _ _ c.requires.follows c.in-Looking.is made)

pub returns-in-Making-clause-memory : goal.returns-in-Making-clause-memory
returns-in-Making-clause-memory c = λ made asks.
    c.next-in-Making.ensures.memory (asks_no_step c.args.profile.now c.args.archive.now c.args.log.now _ _ c.requires.follows c.in-Making.is asks)

use Rattle.std.proofs.Common.{◌≡◌, refl, sym, ◌∙◌, arith}
use Rattle.std.proofs.lemmas.Bool.{iff_false}
use Rattle.std.proofs.lemmas.Option.{slice_get_read, slice_get_within}
use Rattle.hub_text.specs.laws.List.{also-here}
use Rattle.hub_job.specs.JobValue.{JobValue}
use Rattle.hub_runner.specs.forms.Inconsistent.{IsOf}
use Rattle.hub_runner.proofs.inconsistent.are_of.Goals as goal
use Rattle.hub_runner.proofs.inconsistent.are_of.Goals.{else-number-via-then-number+else-not-made_for, else-number-via-else-number}

pub returns-then-not-made_for : goal.returns-then-not-made_for
returns-then-not-made_for c =
    let jobs = c.args.jobs.now in
    let i = c.loop-job.job-index in
    let J = c.job-item.result in (
      i,
      J,
      slice_get_read jobs _ i J refl c.loop-job-test.true c.job-item.is,
      sym c.number.ensures.value ∙ c.if-number.true,
      iff_false c.made_for.ensures c.if-not-made_for.true,
    )

pub loop-job-preserved : goal.loop-job-preserved
loop-job-preserved c =
    let jobs = c.args.jobs.now in
    let i = c.loop-job.job-index in
    let J = c.job-item.result in
    let here : J.number ≡ c.args.number → IsOf c.args.profile.now c.args.archive.now J =
    elim c.else-number.branch [
      | else-number-via-then-number+else-not-made_for w ↦ λ is. w.made_for.ensures.0 w.if-not-made_for.false
      | else-number-via-else-number w ↦ λ is. absurd (w.if-number.false (c.number.ensures.value ∙ is))
    ] in
    also-here (λ (K : JobValue). K.number ≡ c.args.number → IsOf c.args.profile.now c.args.archive.now K) jobs i J
    (slice_get_read jobs _ i J refl c.loop-job-test.true c.job-item.is) here (λ k K h at is. c.loop-job.invariant k K h at is)

pub returns : goal.returns
returns c = λ k J at is.
    let within = slice_get_within c.args.jobs.now k J at in
    let past = c.loop-job-test.false in
    c.loop-job.invariant k J (omega (arith, within, past)) at is

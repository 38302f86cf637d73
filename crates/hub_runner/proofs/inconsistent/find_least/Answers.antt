use Rattle.std.proofs.Common.{◌≡◌, ◌+◌, ℕ, Option, Some, refl, ap, sym, ◌∙◌, subst}
use Rattle.std.specs.Prelude.{slice_get}
use Rattle.std.proofs.lemmas.Option.{slice_get_read}
use Rattle.hub_runner.specs.forms.Inconsistent.{lower_at}
use Rattle.hub_runner.proofs.Least.{LeastUpTo, least_more, least_of_all}
use Rattle.hub_runner.proofs.inconsistent.find_least.Goals as goal

pub loop-job-preserved : goal.loop-job-preserved
loop-job-preserved c =
    let jobs = c.args.jobs.now in
    let i = c.loop-job.job-index in
    let J = c.job-item.result in
    let at : slice_get jobs i ≡ Some J = slice_get_read jobs _ i J refl c.loop-job-test.true c.job-item.is in
    subst (λ (o : Option ℕ). LeastUpTo jobs (i + 1) c.args.from o) (sym (c.lower-least.ensures ∙ ap (lower_at c.args.from c.loop-job.least) c.number.ensures.value))
    (least_more jobs i c.args.from J c.loop-job.least at c.loop-job.invariant)

pub returns : goal.returns
returns c = least_of_all c.args.jobs.now c.loop-job.job-index c.args.from c.loop-job.least c.loop-job-test.false c.loop-job.invariant

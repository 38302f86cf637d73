use Rattle.std.proofs.Common.{◌∙◌, List, ap, refl, subst, sym}
use Rattle.hub_job.specs.declared.job_end.JobEnd.{JobEnd}
use Rattle.hub_schedule.specs.Simulated.{AreFinished}
use Rattle.hub_report.specs.Jobs.{lines_of_jobs}
use Rattle.hub_serve.proofs.run.run_of.Goals as goal

pub returns : goal.returns
returns c = record {
  lines = c.in_ok-lines.ensures ∙ ap (λ (js : List JobEnd). lines_of_jobs c.args.profiles.now js) c.as_slice-2.ensures;
  left = refl;
  finished = (λ e. subst AreFinished c.as_slice.ensures (c.are_finished-finished.ensures.0 e), λ f. c.are_finished-finished.ensures.1 (subst AreFinished (sym c.as_slice.ensures) f));
}

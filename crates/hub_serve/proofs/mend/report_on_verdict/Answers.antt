use Rattle.std.proofs.Common.{refl, sym, subst}
use Rattle.hub_cli.specs.Words.{about, mended}
use Rattle.hub_cli.specs.declared.words.Question.TheVariants as ask
use Rattle.hub_cli.specs.declared.words.Reading.TheVariants.{Plain}
use Rattle.hub_report.specs.declared.report.Report.TheVariants as answer
use Rattle.hub_serve.specs.Told.{Holds, IsTold}
use Rattle.hub_serve.proofs.MendAnswers.{check-safe}
use Rattle.hub_serve.proofs.mend.report_on_verdict.Goals as goal
use Rattle.hub_serve.proofs.mend.report_on_verdict.Goals.{in-Safe, in_default}

pub returns-clause-told : goal.returns-clause-told
returns-clause-told c = λ bytes new mends told. elim c.match-verdict.branch [
  | in-Safe w ↦ subst (Holds (mended Plain c.args.as_bundle) bytes) (sym w.result-is)
      (w.report_on_safe.ensures.told Plain bytes
      (new, mends, (check-safe new (subst (λ v. IsTold (about (ask.Check Plain)) new (answer.Verdict v)) w.in-Safe.is told), refl)))
  | in_default w ↦ subst (Holds (mended Plain c.args.as_bundle) bytes) (sym w.result-is) refl
]

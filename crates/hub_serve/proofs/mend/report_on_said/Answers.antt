use Rattle.std.proofs.Common.{◌∙◌, subst}
use Rattle.hub_cli.specs.Words.{about}
use Rattle.hub_cli.specs.declared.words.Question.TheVariants as ask
use Rattle.hub_cli.specs.declared.words.Reading.TheVariants.{Plain}
use Rattle.hub_serve.specs.Told.{IsTold}
use Rattle.hub_serve.proofs.MendAnswers.{check-refused}
use Rattle.hub_serve.proofs.mend.report_on_said.Goals as goal

pub returns-in-Verdict-clause-told : goal.returns-in-Verdict-clause-told
returns-in-Verdict-clause-told c = λ bytes new mends told.
    c.report_on_verdict.ensures.told bytes new mends (subst (IsTold (about (ask.Check Plain)) new) c.in-Verdict.is told)

pub returns-in-Refused-clause-told : goal.returns-in-Refused-clause-told
returns-in-Refused-clause-told c = λ bytes new mends told.
    let refused = check-refused new _ (subst (IsTold (about (ask.Check Plain)) new) c.in-Refused.is told) in
    c.report_on_unsafe.ensures.told Plain bytes
    (new, mends, record { reason = refused.0; refused = refused.1; line_is = c.as_str.ensures.value ∙ refused.2.1 })

use Rattle.std.proofs.Common.{false, subst}
use Rattle.hub_serve.specs.forms.Mending.{HoldsWith}
use Rattle.hub_serve.proofs.MendInUnison.{line-checked}
use Rattle.hub_serve.proofs.mend_in_unison.report_on_answer.Goals as goal

pub returns-in-Refused-clause-told : goal.returns-in-Refused-clause-told
returns-in-Refused-clause-told c =
    let pieces = c.args.pieces.now in
    let told = subst (λ l. HoldsWith pieces c.args.as_bundle false l c.report_on_unsafe.result) c.as_str.ensures.value c.report_on_unsafe.ensures.told in
    line-checked c.args.as_bundle pieces c.args.said c.in-Refused.line c.in-Refused.refusal c.report_on_unsafe.result c.in-Refused.is told

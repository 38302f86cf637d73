use Rattle.std.proofs.Common.{subst}
use Rattle.hub_serve.specs.Mended.{TakesAwayInUnison}
use Rattle.hub_serve.proofs.MendInUnison.{checked-holds}
use Rattle.hub_serve.proofs.mend_in_unison.report_in_unison.Goals as goal

pub returns-in-Ok-check_less-clause-holds : goal.returns-in-Ok-check_less-clause-holds
returns-in-Ok-check_less-clause-holds c =
    checked-holds c.args.as_bundle c.args.bytes.now c.in-Ok.text.items c.args.pieces.now c.report_on_unison-said.result c.report_on_said.result c.in-Ok.ensures
    (subst (TakesAwayInUnison c.args.bytes.now) c.as_slice.ensures.value c.in-Ok-check_less.ensures.less) c.report_on_unison-said.ensures.holds c.report_on_said.ensures.told

pub returns-clause-holds : goal.returns-clause-holds
returns-clause-holds c = λ cut. c.in-Err.ensures.faulty c.args.as_bundle

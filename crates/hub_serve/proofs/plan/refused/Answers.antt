use Rattle.std.proofs.Common.{subst}
use Rattle.hub_report.specs.Report.{TellsRefusal}
use Rattle.hub_serve.proofs.plan.refused.Goals as goal

pub returns-in-Refused-clause-told : goal.returns-in-Refused-clause-told
returns-in-Refused-clause-told c = λ S none.
    (subst (TellsRefusal S c.args.fault.now) c.in-Refused.is (c.refusal_without_set.ensures.line S none)).1

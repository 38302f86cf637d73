use Rattle.std.proofs.Common.{subst}
use Rattle.hub_report.specs.Report.{TellsRefusal}
use Rattle.hub_serve.proofs.UnisonTold.{unsearchable-no_numbers}
use Rattle.hub_serve.proofs.unison_clashes.unsearched.Goals as goal

pub returns-in-Refused-clause-told : goal.returns-in-Refused-clause-told
returns-in-Refused-clause-told c = λ S Ps Rs h.
    (subst (TellsRefusal S c.args.fault.now) c.in-Refused.is (c.refusal_without_set.ensures.line S (unsearchable-no_numbers Ps Rs c.args.fault.now h))).1

use Rattle.hub_serve.proofs.unison.report_on_unison.Goals as goal

pub returns-in-Ok-clause-holds : goal.returns-in-Ok-clause-holds
returns-in-Ok-clause-holds c = c.report_on_counted.ensures.holds c.args.bytes.items c.in-Ok.ensures

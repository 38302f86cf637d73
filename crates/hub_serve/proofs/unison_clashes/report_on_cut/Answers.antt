use Rattle.hub_serve.proofs.UnisonTold.{cut-told}
use Rattle.hub_serve.proofs.unison_clashes.report_on_cut.Goals as goal

pub returns-in-Ok-clause-holds : goal.returns-in-Ok-clause-holds
returns-in-Ok-clause-holds c = cut-told c.args.archives.now c.args.found c.in-Ok.cut c.in-Ok.ensures

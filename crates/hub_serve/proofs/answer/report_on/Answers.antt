use Rattle.hub_serve.proofs.Told.{bytes-hold}
use Rattle.hub_serve.proofs.answer.report_on.Goals as goal

pub returns-in-Ok-clause-holds : goal.returns-in-Ok-clause-holds
returns-in-Ok-clause-holds g c = bytes-hold _ _ _ c.in-Ok.ensures.whole c.report_on_bytes.ensures.holds

use Rattle.hub_preferences.proofs.Alone.{alone-fails}
use Rattle.hub_preferences.proofs.finding.fault_alone.Goals as goal

pub returns : goal.returns
returns c = alone-fails c.in-Ok.name c.args.line.now c.in-Err.error c.fault_but_roots.result c.in-Err.ensures.err c.fault_but_roots.ensures.memory c.fault_but_roots.ensures.fault

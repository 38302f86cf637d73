use Rattle.hub_unison.proofs.ReadBack.{read-at}
use Rattle.hub_unison.proofs.spare.copy_of.Goals as goal

pub returns : goal.returns
returns c = read-at c.args.spec.now c.kind.result c.pattern.result.now c.spec_of.result c.kind.ensures c.pattern.ensures c.spec_of.ensures

use Rattle.std.proofs.Common.{refl}
use Rattle.hub_state.proofs.Blocks.{continues-begun, within-begun}
use Rattle.hub_state.proofs.reader.Prefix.new.Goals as goal

pub returns-clause-continues : goal.returns-clause-continues
returns-clause-continues c = continues-begun _ refl c.new.ensures c.new-2.ensures.items

pub returns-clause-within : goal.returns-clause-within
returns-clause-within c = within-begun _ refl c.new.ensures c.new-2.ensures.items

use Rattle.hub_reconcile.specs.laws.Below.{blocked}
use Rattle.hub_reconcile.proofs.laws.unreached_children_block_an_item.Goals as goal

pub returns : goal.returns
returns c = λ P A B O p left right h. blocked P A B O left right p h

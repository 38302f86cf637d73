use Rattle.hub_folded.proofs.Safe.{each-spelling}
use Rattle.hub_folded.proofs.laws.rules_hold_for_each_spelling.Goals as goal

pub returns : goal.returns
returns c = each-spelling

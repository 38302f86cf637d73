use Rattle.std.proofs.Common.{◌∙◌, Some, ap}
use Rattle.hub_cert.proofs.PlaceNumbers.{are-once, kept-places, stored-at}
use Rattle.hub_cert.proofs.set.places.number_of.Goals as goal

pub returns-clause-number : goal.returns-clause-number
returns-clause-number c = stored-at c.insert_full.new.self.keys c.in_ok-number.number c.in_ok-copy.field-0 c.in_ok-number.ensures.stored ∙ ap Some c.in_ok-copy.ensures

pub returns-clause-kept : goal.returns-clause-kept
returns-clause-kept c = kept-places c.args.roots.now.keys c.insert_full.new.self.keys c.in_ok-copy.field-0 c.in_ok-number.ensures.keys

pub returns-clause-once : goal.returns-clause-once
returns-clause-once c = are-once c.insert_full.new.self.keys c.in_ok-number.ensures.unique

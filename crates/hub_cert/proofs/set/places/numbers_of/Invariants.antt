use Rattle.hub_cert.proofs.PlaceNumbers.{IsNumbering}
use Rattle.hub_cert.proofs.set.places.numbers_of.Given as goal

abbrev pub invariant-loop-profile : goal.invariant-loop-profile
invariant-loop-profile l = IsNumbering l.roots.keys l.profiles l.numbers.items l.profile-index

use Rattle.std.proofs.Common.{◌≡◌, true, take}
use Rattle.std.specs.Prelude.{flat_map}
use Rattle.hub_unison.specs.Spares as spares
use Rattle.hub_unison.proofs.spares.spares_of.Given as goal

abbrev pub invariant-loop-choice : goal.invariant-loop-choice
invariant-loop-choice l = l.found ≡ flat_map (spares.spares true) (take l.choice-index l.choice-items)

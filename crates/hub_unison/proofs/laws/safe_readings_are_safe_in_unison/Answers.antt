use Rattle.std.proofs.Common.{map, refl}
use Rattle.hub_unison.specs.Rules.{forbidden}
use Rattle.hub_unison.specs.laws.Rules.{read-keeps, read-safe}
use Rattle.hub_unison.proofs.laws.safe_readings_are_safe_in_unison.Goals as goal

pub returns-clause-safe : goal.returns-clause-safe
returns-clause-safe c Ws Cs Rs read safe archives =
    read-safe Ws Rs Cs (map forbidden Rs) read safe archives

pub returns-clause-kept : goal.returns-clause-kept
returns-clause-kept c Ws Cs Rs read safe = read-keeps Ws Rs Cs (map forbidden Rs) refl read safe

use Rattle.std.proofs.Common.{◌≡◌, false, take}
use Rattle.hub_unison.specs.ReadingOf as reading
use Rattle.hub_unison.proofs.owned.is_owned.Given as goal

abbrev pub invariant-loop-spec : goal.invariant-loop-spec
invariant-loop-spec l = reading.is_owned (take l.spec-index l.specs) l.spare ≡ false

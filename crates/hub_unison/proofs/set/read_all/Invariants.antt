use Rattle.std.proofs.Common.{◌≡◌, map}
use Rattle.hub_unison.specs.ReadingOf as reading
use Rattle.hub_unison.proofs.set.read_all.Given as goal

abbrev pub invariant-loop-profile : goal.invariant-loop-profile
invariant-loop-profile l = l.readings ≡ map (reading.reading_of l.rules) l.yielded

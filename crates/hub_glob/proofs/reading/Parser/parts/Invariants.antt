use Rattle.std.proofs.Common.{◌≡◌, None, length}
use Rattle.hub_glob.specs.Reading as reading
use Rattle.hub_glob.proofs.Readings.{then_parts}
use Rattle.hub_glob.proofs.reading.Parser.parts.Given as goal

abbrev pub invariant-signs : goal.invariant-signs
invariant-signs l =
    (l.self.in_name ≡ l.initial.self.in_name)
    × (reading.parts None (reading.signs l.initial.self.in_name None l.initial.self.tokens.now)
    ≡ then_parts l.parts (reading.parts None (reading.signs l.initial.self.in_name None l.self.tokens.now)))

abbrev pub decreases-signs : goal.decreases-signs
decreases-signs l = length l.self.tokens.now

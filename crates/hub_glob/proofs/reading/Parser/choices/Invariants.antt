use Rattle.std.proofs.Common.{◌≡◌, ◌≤◌, [], Some, None, length}
use Rattle.hub_glob.specs.Reading as reading
use Rattle.hub_glob.proofs.reading.Parser.choices.Given as goal

abbrev pub invariant-signs : goal.invariant-signs
invariant-signs l =
    (l.self.in_name ≡ l.initial.self.in_name)
    × (length l.self.tokens.now ≤ length l.initial.self.tokens.now)
    × (reading.parts (Some ([], [])) (reading.signs l.initial.self.in_name None l.initial.self.tokens.now)
    ≡ reading.parts (Some (l.choices, l.choice)) (reading.signs l.initial.self.in_name None l.self.tokens.now))

abbrev pub decreases-signs : goal.decreases-signs
decreases-signs l = length l.self.tokens.now

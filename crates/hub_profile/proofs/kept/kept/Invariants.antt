use Rattle.std.proofs.Common.{◌≡◌, [], take}
use Rattle.hub_profile.specs.Reading.{kept_after}
use Rattle.hub_profile.proofs.kept.kept.Given as goal

abbrev pub invariant-loop-i : goal.invariant-loop-i
invariant-loop-i l = l.kept.items ≡ kept_after l.values [] (take l.i l.values)

use Rattle.std.proofs.Common.{◌≡◌, ◌≤◌, ◌-◌, Ok, length, drop}
use Rattle.hub_glob.specs.Reading as reading
use Rattle.hub_glob.proofs.reading.read_members.Given as goal

abbrev pub invariant-loop-i : goal.invariant-loop-i
invariant-loop-i l = (l.i ≤ length l.set) × (reading.set_members l.set ≡ reading.then_members (Ok l.members.items) (reading.set_members (drop l.i l.set)))

abbrev pub decreases-loop-i : goal.decreases-loop-i
decreases-loop-i l = length l.set - l.i

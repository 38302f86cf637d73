use Rattle.std.proofs.Common.{◌≡◌}
use Rattle.hub_runner.specs.forms.Slots.{filled}
use Rattle.hub_runner.proofs.by_number.full_slots.Given as goal

abbrev pub invariant-loop-slot : goal.invariant-loop-slot
invariant-loop-slot l = l.yielded ≡ filled l.jobs.items

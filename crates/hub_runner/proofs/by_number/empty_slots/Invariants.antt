use Rattle.std.proofs.Common.{◌≡◌}
use Rattle.hub_runner.specs.forms.Slots.{empty}
use Rattle.hub_runner.proofs.by_number.empty_slots.Given as goal

abbrev pub invariant-loop : goal.invariant-loop
invariant-loop l = l.slots.items ≡ empty l.counter

use Rattle.std.proofs.Common.{◌≡◌, ◌≤◌, ◌*◌, ◌^◌, ◌-◌, sum, take}
use Rattle.hub_history.proofs.seat.all_steps.Given as goal

abbrev pub invariant-loop-seat : goal.invariant-loop-seat
invariant-loop-seat l = (l.all ≡ sum (take l.seat-index l.fn.seats)) × (l.all ≤ l.seat-index * (2 ^ 64 - 1))

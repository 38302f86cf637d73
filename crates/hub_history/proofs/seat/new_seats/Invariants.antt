use Rattle.std.proofs.Common.{◌≡◌, replicate}
use Rattle.hub_history.proofs.seat.new_seats.Given as goal

abbrev pub invariant-loop : goal.invariant-loop
invariant-loop l = l.seats.items ≡ replicate l.counter 0

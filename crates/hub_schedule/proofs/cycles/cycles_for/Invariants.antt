use Rattle.std.proofs.Common.{length}
use Rattle.hub_schedule.proofs.InCycles.{AreCycles}
use Rattle.hub_schedule.proofs.cycles.cycles_for.Given as goal

abbrev pub invariant-loop : goal.invariant-loop
invariant-loop l = AreCycles (length l.profiles) l.counter l.schedule.items

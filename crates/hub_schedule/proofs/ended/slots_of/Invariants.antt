use Rattle.hub_schedule.specs.Ended.{AreSlotsOf}
use Rattle.hub_schedule.proofs.ended.slots_of.Given as goal

abbrev pub invariant-loop-job : goal.invariant-loop-job
invariant-loop-job l = AreSlotsOf l.trees l.yielded l.slots.items

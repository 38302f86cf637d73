use Rattle.hub_schedule.specs.Table.{IsNotIn}
use Rattle.hub_schedule.proofs.slots.find_tree.Given as goal

abbrev pub invariant-loop-place : goal.invariant-loop-place
invariant-loop-place l = IsNotIn l.trees l.place l.root

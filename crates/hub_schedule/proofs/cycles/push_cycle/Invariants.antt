use Rattle.std.proofs.Common.{◌≡◌, ◌++◌}
use Rattle.std.specs.List.{range_with_len}
use Rattle.hub_schedule.proofs.cycles.push_cycle.Given as goal

abbrev pub invariant-loop-job : goal.invariant-loop-job
invariant-loop-job l = l.schedule.items ≡ l.initial.schedule.items ++ range_with_len 0 l.job

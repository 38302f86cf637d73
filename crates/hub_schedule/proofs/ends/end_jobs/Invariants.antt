use Rattle.std.proofs.Common.{◌≡◌, map}
use Rattle.hub_schedule.specs.forms.Left.{end_value, next_value}
use Rattle.hub_schedule.proofs.ends.end_jobs.Given as goal

abbrev pub invariant-loop-slot : goal.invariant-loop-slot
invariant-loop-slot l = record { ends : l.ends.items ≡ map end_value l.yielded; nexts : l.nexts.items ≡ map next_value l.yielded }

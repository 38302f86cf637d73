use Rattle.std.proofs.Common.{◌≡◌}
use Rattle.std.specs.List.{flat_map}
use Rattle.hub_job.specs.Job.{steps_of}
use Rattle.hub_job.proofs.steps.steps_of.Given as goal

abbrev pub invariant-loop-change : goal.invariant-loop-change
invariant-loop-change l = l.steps.items ≡ flat_map (λ c. steps_of c.side c.path c.mark) l.yielded

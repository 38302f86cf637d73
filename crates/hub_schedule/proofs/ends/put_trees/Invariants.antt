use Rattle.std.proofs.Common.{◌≡◌}
use Rattle.std.specs.Prelude.{fold}
use Rattle.hub_schedule.specs.forms.Left.{put_tree}
use Rattle.hub_schedule.proofs.ends.put_trees.Given as goal

abbrev pub invariant-loop-replica : goal.invariant-loop-replica
invariant-loop-replica l = l.state ≡ fold put_tree l.initial.state l.yielded

use Rattle.std.proofs.Common.{length}
use Rattle.std.specs.List.{flat_map}
use Rattle.hub_reconcile.specs.forms.Groups.{AreGroups, IsCut, group_paths}
use Rattle.hub_reconcile.specs.Shown.{shown}
use Rattle.hub_reconcile.proofs.group.groups.Given as goal

abbrev pub invariant-loop-rest : goal.invariant-loop-rest
invariant-loop-rest l = AreGroups (shown l.picture) l.groups.items × IsCut (shown l.picture) (flat_map group_paths l.groups.items) l.rest

abbrev pub decreases-loop-rest : goal.decreases-loop-rest
decreases-loop-rest l = length l.rest

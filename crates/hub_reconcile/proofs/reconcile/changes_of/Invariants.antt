use Rattle.std.proofs.Common.{◌≡◌, take}
use Rattle.std.specs.List.{flat_map}
use Rattle.hub_reconcile.specs.forms.Groups.{group_changes}
use Rattle.hub_reconcile.proofs.reconcile.changes_of.Given as goal

abbrev pub invariant-loop-group : goal.invariant-loop-group
invariant-loop-group l = l.changes.items ≡ flat_map group_changes (take l.group-index l.groups)

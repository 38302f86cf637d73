use Rattle.std.proofs.Common.{◌≡◌, take}
use Rattle.std.specs.List.{flat_map}
use Rattle.hub_reconcile.specs.forms.Groups.{group_items}
use Rattle.hub_reconcile.proofs.reconcile.items_of.Given as goal

abbrev pub invariant-loop-group : goal.invariant-loop-group
invariant-loop-group l = l.items.items ≡ flat_map group_items (take l.group-index l.groups)

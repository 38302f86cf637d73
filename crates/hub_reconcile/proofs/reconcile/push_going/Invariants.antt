use Rattle.std.proofs.Common.{◌≡◌, ◌≤◌, ◌++◌, length, take}
use Rattle.hub_reconcile.specs.forms.Groups.{going_rows}
use Rattle.hub_reconcile.proofs.reconcile.push_going.Given as goal

abbrev pub invariant-loop-left : goal.invariant-loop-left
invariant-loop-left l = (l.left ≤ length l.below) × (l.changes.items ++ going_rows l.from (take l.left l.below) ≡ l.initial.changes.items ++ going_rows l.from l.below)

abbrev pub decreases-loop-left : goal.decreases-loop-left
decreases-loop-left l = l.left

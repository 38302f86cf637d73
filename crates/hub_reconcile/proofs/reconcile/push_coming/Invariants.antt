use Rattle.std.proofs.Common.{◌≡◌, ◌++◌, take}
use Rattle.hub_reconcile.specs.forms.Groups.{coming_rows}
use Rattle.hub_reconcile.proofs.reconcile.push_coming.Given as goal

abbrev pub invariant-loop-row : goal.invariant-loop-row
invariant-loop-row l = l.changes.items ≡ l.initial.changes.items ++ coming_rows l.from (take l.row-index l.below)

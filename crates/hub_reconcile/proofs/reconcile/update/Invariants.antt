use Rattle.std.proofs.Common.{◌≡◌, ◌++◌, length, map}
use Rattle.hub_reconcile.specs.forms.Groups.{HaveNames, kept_marks, row_told}
use Rattle.hub_reconcile.proofs.reconcile.update.Given as goal

abbrev pub invariant-loop-rest : goal.invariant-loop-rest
invariant-loop-rest l =
    (l.marks ++ kept_marks (map (row_told l.group.fate) l.rest) ≡ l.initial.marks ++ kept_marks (map (row_told l.group.fate) l.group.below.now)) × HaveNames l.rest

abbrev pub decreases-loop-rest : goal.decreases-loop-rest
decreases-loop-rest l = length l.rest

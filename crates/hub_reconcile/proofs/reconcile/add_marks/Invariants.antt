use Rattle.std.proofs.Common.{◌≡◌, ◌++◌, length}
use Rattle.std.specs.List.{flat_map}
use Rattle.hub_reconcile.specs.forms.Groups.{HaveAllNames, group_marks, kept_marks}
use Rattle.hub_reconcile.proofs.reconcile.add_marks.Given as goal

abbrev pub invariant-loop-rest : goal.invariant-loop-rest
invariant-loop-rest l =
    (l.marks ++ kept_marks (flat_map group_marks l.rest) ≡ l.initial.marks ++ kept_marks (flat_map group_marks l.groups)) × HaveAllNames l.rest

abbrev pub decreases-loop-rest : goal.decreases-loop-rest
decreases-loop-rest l = length l.rest

use Rattle.std.proofs.Common.{◌≡◌, ◌++◌, length}
use Rattle.hub_reconcile.specs.forms.Groups.{HaveMarkNames, kept_marks}
use Rattle.hub_reconcile.specs.Merge.{told_marks}
use Rattle.hub_reconcile.proofs.reconcile.keep_all.Given as goal

abbrev pub invariant-loop-rest : goal.invariant-loop-rest
invariant-loop-rest l = (l.marks ++ kept_marks (told_marks l.rest) ≡ l.initial.marks ++ kept_marks (told_marks l.others)) × HaveMarkNames (told_marks l.rest)

abbrev pub decreases-loop-rest : goal.decreases-loop-rest
decreases-loop-rest l = length l.rest

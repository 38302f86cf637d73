use Rattle.std.proofs.Common.{◌+◌, length}
use Rattle.hub_reconcile.specs.Merge.{taken}
use Rattle.hub_reconcile.specs.Picture.{told_by}
use Rattle.hub_reconcile.proofs.Tabled.{IsTabled}
use Rattle.hub_reconcile.proofs.table.table_of.Given as goal

abbrev pub invariant-loop-path : goal.invariant-loop-path
invariant-loop-path l =
    IsTabled l.picture.profile.now l.picture.archive.now (told_by l.picture.left.now) (told_by l.picture.right.now) l.table (told_by l.left) (told_by l.right) l.old l.marks

abbrev pub decreases-loop-path : goal.decreases-loop-path
decreases-loop-path l = length l.left + length l.right + (length (taken l.old) + length l.marks)

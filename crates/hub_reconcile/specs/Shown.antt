-- The view that a picture shows.
use Rattle.std.specs.Prelude.{◌≡◌, List, filter}
use Rattle.std.specs.FinMap as fin
use Rattle.hub_reach.specs.Reach.{reach}
use Rattle.hub_tree.specs.Tree.{Archive}
use Rattle.hub_reconcile.specs.declared.old_mark.OldMark.{OldMark}
use Rattle.hub_reconcile.specs.declared.picture.Picture.{Picture}
use Rattle.hub_reconcile.specs.Merge.{is_other, told_marks}
use Rattle.hub_reconcile.specs.Picture.{told_by, view_by}
use Rattle.hub_reconcile.specs.Sync.{next_archive, of_side}
use Rattle.hub_reconcile.specs.View.{View}

abbrev pub shown : Picture → View
shown picture =
    view_by picture.profile.now picture.archive.now
    (of_side (told_by picture.left.now) (told_by picture.right.now))

-- The archive after one synchronization of what a picture shows.
abbrev pub next_archive_of : Picture → Archive
next_archive_of picture = next_archive (shown picture) picture.archive.now

-- These are the marks of a picture's archive at the paths that its profile doesn't reach.
abbrev pub AreOtherMarks : Picture → List OldMark → Type 0
AreOtherMarks picture marks =
    told_marks marks
    ≡ filter (is_other (reach picture.profile.now)) (fin.entries picture.archive.now)

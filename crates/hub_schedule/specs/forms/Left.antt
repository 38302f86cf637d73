-- What the jobs of a schedule leave in a state.
use Rattle.std.specs.Prelude.{◌≡◌, ◌≢◌, ℕ, Bool, false, ◌&&◌, ◌||◌, slice_get, List, [], ◌∷◌, Option, Some, None, is_some, IsTrue, if◌then◌else◌, unwrap_or}
use Rattle.std.specs.List.{list_any}
use Rattle.std.specs.FinMap as fin
use Rattle.hub_path.specs.Path.{Path, is_place}
use Rattle.hub_profile.specs.Parts.{Parts}
use Rattle.hub_reach.specs.Reach.{reach, has_root}
use Rattle.hub_tree.specs.Tree.{Archive, old_mark_at}
use Rattle.hub_tree.specs.declared.contents.Mark.{Mark}
use Rattle.hub_state.specs.State.{State, archive_at, with_replica}
use Rattle.hub_job.specs.declared.job_end.JobEnd.{JobEnd}
use Rattle.hub_schedule.specs.declared.slot.Slot.{Slot}
use Rattle.hub_schedule.specs.declared.slot.WorkingTree.{WorkingTree}
use Rattle.hub_schedule.specs.Next.{NextValue}
use Rattle.hub_job.specs.Ends.{end_of, items_of, archive_left}

abbrev pub end_value : Slot → JobEnd
end_value s = record { end = end_of s.job; log = s.job.log; items = items_of s.job }

abbrev pub next_value : Slot → NextValue
next_value s =
    record { profile = s.job.profile; opening = s.job.archive; next = archive_left s.job }

abbrev pub put_tree : State → WorkingTree → State
put_tree S t = with_replica S t.root.now t.tree

abbrev pub has_mark : Archive → Path → Bool
has_mark a p = fin.contains_key a p

-- The mark of the next archive at those paths of an archive that the profile reaches, or the old one.
abbrev pub mark_taken : Parts → Archive → Archive → Archive → Path → Mark
mark_taken P next paths old p =
    if has_mark paths p && reach P p then old_mark_at next p else old_mark_at old p

-- The mark of a pair's archive at a path.
abbrev pub mark_in : State → Path → Path → Path → Mark
mark_in S r s p = old_mark_at (unwrap_or (archive_at S r s) fin.empty) p

-- The mark of a next archive, if the profile has both roots and reaches the path, or else the mark
-- that was there.
abbrev pub mark_given : Parts → Archive → Path → Path → Path → Mark → Mark
mark_given P next r s p old =
    if has_root P r && has_root P s && reach P p then old_mark_at next p else old

abbrev pub mark_of_next : Parts → Option Archive → Path → Path → Path → Mark → Mark
mark_of_next P None r s p old = old
mark_of_next P (Some next) r s p old = mark_given P next r s p old

-- The mark of the first next archive whose profile has both roots and reaches the path, or else the
-- mark that was there.
abbrev pub mark_from : List NextValue → Path → Path → Path → Mark → Mark
mark_from [] r s p old = old
mark_from (n ∷ ns) r s p old = mark_of_next n.profile n.next r s p (mark_from ns r s p old)

-- The same of the next archive of a job.
abbrev pub next_mark : NextValue → Path → Path → Path → Mark → Mark
next_mark n = mark_of_next n.profile n.next

-- The marks of the next archive at those paths of an archive that the profile reaches were taken.
abbrev pub TakesMarks : Parts → Archive → Archive → Archive → Archive → Type 0
TakesMarks P next paths old new =
    (p : Path) → old_mark_at new p ≡ mark_taken P next paths old p

-- The archive has the marks of the next one at the paths that the profile reaches, and those of
-- another one elsewhere.
abbrev pub IsMerged : Parts → Archive → Archive → Archive → Type 0
IsMerged P next current a =
    (p : Path) → old_mark_at a p
    ≡ (if reach P p then old_mark_at next p else old_mark_at current p)

-- The archive of each pair of different roots has these marks, given those that it had.
abbrev pub HasMarks : (Path → Path → Path → Mark → Mark) → State → State → Type 0
HasMarks f before after =
    (r s p : Path) → IsTrue (is_place r) → IsTrue (is_place s) → r ≢ s
    → mark_in after r s p ≡ f r s p (mark_in before r s p)

abbrev pub has_pair : Parts → Path → Path → Bool
has_pair P r s = has_root P r && has_root P s

-- Whether a job leaves an archive of a pair of roots: it has a next archive, and both roots.
abbrev pub leaves_next_archive : Parts → Option Archive → Path → Path → Bool
leaves_next_archive P None r s = false
leaves_next_archive P (Some next) r s = has_pair P r s

abbrev pub leaves_next : NextValue → Path → Path → Bool
leaves_next n = leaves_next_archive n.profile n.next

abbrev pub one_is_left : List NextValue → Path → Path → Bool
one_is_left ns r s = list_any (λ n. leaves_next_archive n.profile n.next r s) ns

-- The archive of a pair of different roots is there exactly if it is left, or was there.
abbrev pub HasArchives : (Path → Path → Bool) → State → State → Type 0
HasArchives f before after =
    (r s : Path) → IsTrue (is_place r) → IsTrue (is_place s) → r ≢ s
    → is_some (archive_at after r s) ≡ (f r s || is_some (archive_at before r s))

abbrev pub KeptIn : Parts → Archive → Option Archive → Type 0
KeptIn P O None = Unit {0}
KeptIn P O (Some next) = (p : Path) → reach P p ≡ false → old_mark_at next p ≡ old_mark_at O p

-- A next archive has the marks of the opening at the paths that the profile doesn't reach.
abbrev pub KeepsUnreached : NextValue → Type 0
KeepsUnreached n = KeptIn n.profile n.opening n.next

abbrev pub AreKept : List NextValue → Type 0
AreKept ns = (k : ℕ) (n : NextValue) → slice_get ns k ≡ Some n → KeepsUnreached n

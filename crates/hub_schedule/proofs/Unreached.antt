-- A next archive keeps the marks of the paths that its profile doesn't reach.
use Rattle.std.proofs.Common.{◌≡◌, Bool, true, false, cond, List, [], ◌∷◌, map, Some, None, refl, ap, sym, ◌∙◌, subst}
use Rattle.std.specs.Prelude.{ℕ, fold, if◌then◌else◌}
use Rattle.hub_reconcile.specs.laws.Views.{same_paths}
use Rattle.hub_path.specs.Path.{Path, path_eq}
use Rattle.hub_profile.specs.Parts.{Parts}
use Rattle.hub_reach.specs.Reach.{reach}
use Rattle.hub_tree.specs.Tree.{Archive, old_mark_at, with_mark}
use Rattle.hub_tree.specs.declared.contents.Mark.{Mark}
use Rattle.hub_tree.specs.laws.MarkMaps.{old_mark-after}
use Rattle.hub_reconcile.specs.View.{View}
use Rattle.hub_reconcile.specs.Sync.{fate_over, mark_under, synced_mark, next_archive}
use Rattle.hub_job.specs.declared.log.Logged.{Logged}
use Rattle.hub_schedule.specs.declared.slot.Slot.{Slot}
use Rattle.hub_schedule.specs.declared.slot.WorkingTree.{WorkingTree}
use Rattle.hub_job.specs.Ends.{is_finished, end_of}
use Rattle.hub_job.specs.Job.{view_in}
use Rattle.hub_schedule.specs.forms.Left.{next_value, KeptIn, KeepsUnreached, AreKept}
use Rattle.hub_schedule.specs.Table.{IsSlot, ShowsWorld}
use Rattle.hub_job.specs.World.{World, Jobs}
use Rattle.hub_schedule.specs.laws.Lists.{map_get}

one_more : (f : Path → Mark) (p q : Path) (a : Archive) (m : Mark) (b : Bool) → path_eq q p ≡ b → f q ≡ m → old_mark_at a q ≡ m → cond b (f p) (old_mark_at a q) ≡ m
one_more f p q a m true same is e = ap f (sym (same_paths q p same)) ∙ is
one_more f p q a m false same is e = e

-- A mark that is set to what it was.
stays : (f : Path → Mark) (ps : List Path) (a : Archive) (q : Path) (m : Mark) → f q ≡ m → old_mark_at a q ≡ m → old_mark_at (fold (λ a p. with_mark a p (f p)) a ps) q ≡ m
stays f [] a q m is e = e
stays f (p ∷ ps) a q m is e = stays f ps (with_mark a p (f p)) q m is (old_mark-after a p q (f p) ∙ one_more f p q a m (path_eq q p) refl is e)

keeps : (P : Parts) (O : Archive) (log : List Logged) (q : Path) → reach P q ≡ false → old_mark_at (next_archive (view_in P O log) O) q ≡ old_mark_at O q
unfolding next_archive
keeps P O log q never =
    let V : View = view_in P O log in
    stays (synced_mark V) V.paths O q (old_mark_at O q) (ap (λ b. cond b (mark_under V q (fate_over V q)) (old_mark_at O q)) never) refl

if_finished : (P : Parts) (O : Archive) (log : List Logged) (b : Bool) → KeptIn P O (if b then Some (next_archive (view_in P O log) O) else None)
if_finished P O log true = keeps P O log
if_finished P O log false = tt

of_slot : (J : Jobs) (w : World) (trees : List WorkingTree) (j : ℕ) (s : Slot) → IsSlot J w trees j s → KeepsUnreached (next_value s)
of_slot J w trees j s a = if_finished s.job.profile s.job.archive s.job.log (is_finished (end_of s.job))

pub all_kept : (J : Jobs) (w : World) (slots : List Slot) (trees : List WorkingTree) → ShowsWorld J w slots trees → AreKept (map next_value slots)
all_kept J w slots trees table = λ k n e. let s = map_get next_value slots k n e in subst KeepsUnreached (sym s.2) (of_slot J w trees k s.0 (table.each k s.0 s.1))

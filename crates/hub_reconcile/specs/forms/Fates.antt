-- What becomes of an item, as its row and the rows below it tell.
use Rattle.std.specs.Prelude.{Bool, not, ◌&&◌, ◌||◌, List, is_some, Option, Some, if◌then◌else◌}
use Rattle.std.specs.List.{list_any}
use Rattle.hub_path.specs.declared.side.Side.{Side}
use Rattle.hub_path.specs.declared.side.Side.TheVariants.{Left, Right}
use Rattle.hub_profile.specs.Parts.{Parts}
use Rattle.hub_tree.specs.declared.contents.Mark.{Mark}
use Rattle.hub_tree.specs.declared.contents.Mark.TheVariants as mark
use Rattle.hub_reconcile.specs.Items.{other, verb_of, has_parent}
use Rattle.hub_reconcile.specs.Rows.{seen_on, mark_on, is_changed, is_going, is_coming}
use Rattle.hub_reconcile.specs.Shown.{shown}
use Rattle.hub_reconcile.specs.View.{View, is_folder, allowed_at}
use Rattle.hub_reconcile.specs.declared.picture.Picture.{Picture}
use Rattle.hub_reconcile.specs.declared.item.Fate.{Fate}
use Rattle.hub_reconcile.specs.declared.item.Fate.TheVariants.{To, Skip}
use Rattle.hub_reconcile.specs.declared.item.Reason.TheVariants as reason
use Rattle.hub_reconcile.specs.declared.row.Row.{Row}

abbrev pub is_updated_in : Side → Row → List Row → Bool
is_updated_in side item below = is_changed side item || list_any (is_changed side) below

abbrev pub is_conflict : Row → List Row → Bool
is_conflict item below =
    (is_changed Left item && is_updated_in Right item below)
    || (is_changed Right item && is_updated_in Left item below)

abbrev pub source : Parts → Row → List Row → Option Side
source P item below =
    if is_some P.force then P.force
    else (if is_conflict item below then P.prefer
    else (if is_changed Left item then Some Left else Some Right))

-- Whether a change below an item passes a test of its row and its new mark, if there is one.
abbrev pub changes_with : (Row → Mark → Bool) → Side → Row → Bool
changes_with test from r =
    (is_going from r && test r mark.Absent) || (is_coming from r && test r (mark_on from r))

abbrev pub bars : Parts → Side → Row → Mark → Bool
bars P from r m = not (allowed_at P (other from) r.path.now (verb_of (mark_on (other from) r) m))

abbrev pub is_barred_item : Parts → Side → Row → List Row → Bool
is_barred_item P from item below =
    list_any (changes_with (bars P from) from) below || bars P from item (mark_on from item)

abbrev pub blocks : Side → Row → Mark → Bool
blocks from r m =
    is_folder (mark_on (other from) r) && not (is_folder m) && (seen_on (other from) r).others

abbrev pub is_blocked : Side → Row → List Row → Bool
is_blocked from item below =
    list_any (changes_with (blocks from) from) below || blocks from item (mark_on from item)

abbrev pub fate_from : Parts → View → Row → List Row → Side → Fate
fate_from P V item below from =
    if is_barred_item P from item below then Skip reason.Barred
    else (if is_blocked from item below then Skip reason.Blocked
    else (if has_parent V (other from) item.path.now then To (other from)
    else Skip reason.NoParent))

-- The same of an item of a picture.
abbrev pub fate_in : Picture → Row → List Row → Side → Fate
fate_in picture item below from =
    fate_from picture.profile.now (shown picture) item below from

-- Rows: what is known of a path on both sides and in the archive. Items are found by going through
-- them once.
use Rattle.std.specs.Prelude.{◌≡◌, Bool, true, not, ◌&&◌, ◌||◌, List, [], ◌∷◌, ◌++◌, map, if◌then◌else◌}
use Rattle.hub_path.specs.Path.{Path}
use Rattle.hub_path.specs.declared.side.Side.{Side}
use Rattle.hub_path.specs.declared.side.Side.TheVariants.{Left, Right}
use Rattle.hub_profile.specs.Parts.{Parts}
use Rattle.hub_reach.specs.Reach.{reach}
use Rattle.hub_tree.specs.declared.contents.Mark.{Mark}
use Rattle.hub_reconcile.specs.Items.{other}
use Rattle.hub_reconcile.specs.Merge.{told_marks}
use Rattle.hub_reconcile.specs.Sync.{of_side}
use Rattle.hub_reconcile.specs.View.{View, mark_eq, is_present}
use Rattle.hub_reconcile.specs.declared.old_mark.OldMark.{OldMark}
use Rattle.hub_reconcile.specs.declared.row.Row.{Row}
use Rattle.hub_reconcile.specs.declared.row.Seen.{Seen}

abbrev pub seen_on : Side → Row → Seen
seen_on side r = of_side r.left r.right side

abbrev pub mark_on : Side → Row → Mark
mark_on side r = (seen_on side r).mark

abbrev pub is_different : Row → Bool
is_different r = not (mark_eq r.left.mark r.right.mark)

abbrev pub is_changed : Side → Row → Bool
is_changed side r = not (mark_eq (mark_on side r) r.old)

abbrev pub is_going : Side → Row → Bool
is_going from r = is_present (mark_on (other from) r) && not (is_present (mark_on from r))

abbrev pub is_coming : Side → Row → Bool
is_coming from r = is_present (mark_on from r)

abbrev pub is_anywhere : Row → Bool
is_anywhere r = is_present r.left.mark || is_present r.right.mark || is_present r.old

-- A row counts if something is known of its path, and the profile reaches it.
abbrev pub is_counted : Parts → Row → Bool
is_counted P r = is_anywhere r && reach P r.path.now

-- A row, if it counts.
abbrev pub counted_of : Parts → Row → List Row
counted_of P r = if is_counted P r then r ∷ [] else []

-- The old mark of a row that doesn't count, with its path, if there is one.
abbrev pub other_of : Parts → Row → List (Path × Mark)
other_of P r =
    if is_counted P r then [] else (if is_present r.old then (r.path.now, r.old) ∷ [] else [])

abbrev pub path_of_row : Row → Path
path_of_row r = r.path.now

abbrev pub paths_of : List Row → List Path
paths_of rs = map path_of_row rs

-- A row says what the view says of its path.
pub record IsRow (V : View) (r : Row) : Type 0 where
  pub left : r.left.mark ≡ V.mark Left r.path.now
  pub left_others : r.left.others ≡ V.others Left r.path.now
  pub right : r.right.mark ≡ V.mark Right r.path.now
  pub right_others : r.right.others ≡ V.others Right r.path.now
  pub old : r.old ≡ V.old r.path.now
  pub reached : V.reached r.path.now ≡ true

abbrev pub AreRows : View → List Row → Type 0
AreRows V [] = Unit {0}
AreRows V (r ∷ rs) = IsRow V r × AreRows V rs

-- The rows of a picture: one for each path of the view, in order.
pub record AreRowsOf (V : View) (rs : List Row) : Type 0 where
  pub paths : paths_of rs ≡ V.paths
  pub rows : AreRows V rs

-- The old mark of a row that doesn't count was added to those of others.
abbrev pub AddsOther : Parts → Row → List OldMark → List OldMark → Type 0
AddsOther P r before after = told_marks after ≡ told_marks before ++ other_of P r

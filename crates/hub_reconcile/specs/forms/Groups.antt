-- Groups: the rows of a picture are cut into items, each with what is below it, and paths at which
-- nothing differs.
use Rattle.std.specs.Prelude.{◌≡◌, ◌<◌, true, false, List, [], ◌∷◌, ◌++◌, length, map, reverse, filter, Option, None, Some, if◌then◌else◌}
use Rattle.std.specs.List.{flat_map, take_while}
use Rattle.hub_path.specs.Path.{Path, is_over}
use Rattle.hub_path.specs.declared.side.Side.{Side}
use Rattle.hub_tree.specs.declared.contents.Mark.{Mark}
use Rattle.hub_tree.specs.Marked.{marked_entries}
use Rattle.hub_tree.specs.declared.contents.Mark.TheVariants as mark
use Rattle.hub_reconcile.specs.Items.{other, item_over, is_item, fate, below, change}
use Rattle.hub_reconcile.specs.Rows.{AreRows, is_different, is_going, is_coming, mark_on, paths_of}
use Rattle.hub_reconcile.specs.View.{View}
use Rattle.hub_reconcile.specs.declared.group.Group.{Group}
use Rattle.hub_reconcile.specs.declared.change.Change.{Change}
use Rattle.hub_reconcile.specs.declared.item.Fate.{Fate}
use Rattle.hub_reconcile.specs.declared.item.Fate.TheVariants.{To, Skip}
use Rattle.hub_reconcile.specs.declared.item.Item.{Item}
use Rattle.hub_reconcile.specs.declared.row.Row.{Row}
use Rattle.hub_tree.specs.laws.Between.{among}

-- The paths of the view are cut into those before a place, and the rows from there on. What is
-- before it has no item that is over one of these rows.
pub record IsCut (V : View) (front : List Path) (rest : List Row) : Type 0 where
  pub paths : front ++ paths_of rest ≡ V.paths
  pub rows : AreRows V rest
  pub clear : (y x : Path) → among y front ≡ true → is_item V y ≡ true
      → among x (paths_of rest) ≡ true → is_over y x ≡ false

-- Of the rows after one, those that stand below it, if it is an item.
abbrev pub rows_below : Row → List Row → List Row
rows_below r rs = if is_different r then take_while (λ x. is_over r.path.now x.path.now) rs else []

-- A path that is at and below no item; or an item with all that is below it.
abbrev pub IsFated : View → Path → List Path → Option Fate → Type 0
IsFated V p ps None = (ps ≡ []) × (item_over V p ≡ None)
IsFated V p ps (Some f) = (ps ≡ below V p) × (is_item V p ≡ true) × (fate V p ≡ f)

pub record IsGroup (V : View) (b : Group) : Type 0 where
  pub rows : AreRows V (b.first.now ∷ b.below.now)
  pub fated : IsFated V b.first.now.path.now (paths_of b.below.now) b.fate

abbrev pub AreGroups : View → List Group → Type 0
AreGroups V [] = Unit {0}
AreGroups V (b ∷ bs) = IsGroup V b × AreGroups V bs

abbrev pub group_paths : Group → List Path
group_paths b = b.first.now.path.now ∷ paths_of b.below.now

-- The groups of a picture: each path of the view is in one, in order.
pub record IsPartition (V : View) (bs : List Group) : Type 0 where
  pub paths : flat_map group_paths bs ≡ V.paths
  pub groups : AreGroups V bs

-- What a group says of items, changes and the new archive.
abbrev pub item_by : Path → Option Fate → List Item
item_by p None = []
item_by p (Some f) = record { path = p; fate = f } ∷ []

abbrev pub group_items : Group → List Item
group_items b = item_by b.first.now.path.now b.fate

abbrev pub row_change : Side → Row → Mark → Change
row_change from r m = change (other from) r.path.now m

abbrev pub row_goes : Side → Row → Change
row_goes from r = row_change from r mark.Absent

abbrev pub row_comes : Side → Row → Change
row_comes from r = row_change from r (mark_on from r)

abbrev pub going_rows : Side → List Row → List Change
going_rows from rs = map (row_goes from) (reverse (filter (is_going from) rs))

abbrev pub coming_rows : Side → List Row → List Change
coming_rows from rs = map (row_comes from) (filter (is_coming from) rs)

abbrev pub row_changes : Side → Row → List Row → List Change
row_changes from r rs = going_rows from rs ++ row_comes from r ∷ coming_rows from rs

abbrev pub changes_fated : Row → List Row → Option Fate → List Change
changes_fated r rs None = []
changes_fated r rs (Some (To side)) = row_changes (other side) r rs
changes_fated r rs (Some (Skip why)) = []

abbrev pub group_changes : Group → List Change
group_changes b = changes_fated b.first.now b.below.now b.fate

-- The mark of a row in the new archive.
abbrev pub mark_fated : Option Fate → Row → Mark
mark_fated None r = r.left.mark
mark_fated (Some (To side)) r = mark_on (other side) r
mark_fated (Some (Skip why)) r = r.old

abbrev pub row_told : Option Fate → Row → Path × Mark
row_told f r = (r.path.now, mark_fated f r)

abbrev pub group_marks : Group → List (Path × Mark)
group_marks b = map (row_told b.fate) (b.first.now ∷ b.below.now)

-- What an archive keeps of marks.
abbrev pub kept_marks : List (Path × Mark) → List (Path × Mark)
kept_marks es = flat_map (λ e. marked_entries e.0 e.1) es

-- No mark is of the whole replica.
abbrev pub HaveMarkNames : List (Path × Mark) → Type 0
HaveMarkNames [] = Unit {0}
HaveMarkNames (e ∷ es) = (0 < length e.0) × HaveMarkNames es

-- None of a group's paths is the whole replica.
abbrev pub HaveNames : List Row → Type 0
HaveNames [] = Unit {0}
HaveNames (r ∷ rs) = (0 < length r.path.now) × HaveNames rs

abbrev pub HasNames : Group → Type 0
HasNames b = HaveNames (b.first.now ∷ b.below.now)

abbrev pub HaveAllNames : List Group → Type 0
HaveAllNames [] = Unit {0}
HaveAllNames (b ∷ bs) = HasNames b × HaveAllNames bs

-- The cuts and the merge of what a picture shows.
use Rattle.std.proofs.Common.{◌≡◌, ◌<◌, true, false, List, [], ◌∷◌, ◌++◌, length, drop, Some, None, refl}
use Rattle.std.specs.List.{take_while}
use Rattle.std.specs.List.Sorted.{IsStrictlySortedBy}
use Rattle.hub_path.specs.Path.{Path, path_cmp, is_over}
use Rattle.hub_path.specs.declared.side.Side.{Side}
use Rattle.hub_tree.specs.laws.Between.{among}
use Rattle.hub_reconcile.specs.forms.Groups.{IsCut, IsFated, rows_below}
use Rattle.hub_reconcile.specs.Items.{differs, fate, below, at_and_below}
use Rattle.hub_reconcile.specs.Picture.{told_by}
use Rattle.hub_reconcile.specs.Rows.{AreRows, is_different, paths_of}
use Rattle.hub_reconcile.specs.Shown.{shown}
use Rattle.hub_reconcile.specs.Sight.{Sight}
use Rattle.hub_reconcile.specs.Sync.{of_side}
use Rattle.hub_reconcile.specs.View.{View}
use Rattle.hub_reconcile.specs.declared.item.Fate.{Fate}
use Rattle.hub_reconcile.specs.declared.picture.Picture.{Picture}
use Rattle.hub_reconcile.specs.declared.row.Row.{Row}
use Rattle.hub_reconcile.proofs.Cuts.{no_item, first_item, is_below_tops, is_all_tops, next, take_rows}
use Rattle.hub_reconcile.proofs.ShownFacts.{shown_sorted, shown_holds, shown_names}

module _ (picture : Picture) where
  abbrev V : View
  V = shown picture

  abbrev seen : Side → List (Path × Sight)
  seen = of_side (told_by picture.left.now) (told_by picture.right.now)

  sorted : IsStrictlySortedBy path_cmp V.paths
  sorted = shown_sorted picture.profile.now picture.archive.now seen

  holds : (y : Path) → differs V y ≡ true → among y V.paths ≡ true
  holds y h = shown_holds picture.profile.now picture.archive.now seen y h

  pub named : (q : Path) → V.reached q ≡ true → 0 < length q
  named q h = shown_names picture.profile.now picture.archive.now seen q h

  module _ (front : List Path) (r : Row) (rs : List Row) (c : IsCut V front (r ∷ rs)) where
    abbrev pub tops : List Row
    tops = take_while (λ x. is_over r.path.now x.path.now) rs

    pub plain_fated : is_different r ≡ false → IsFated V r.path.now [] None
    plain_fated d = (refl, no_item V sorted holds named front r rs c d)

    pub tops_rows : AreRows V (r ∷ tops)
    tops_rows = (c.rows.0, take_rows V _ rs c.rows.1)

    pub tops_below : paths_of tops ≡ below V r.path.now
    tops_below = is_below_tops V sorted holds named front r rs c

    pub tops_all : paths_of (r ∷ tops) ≡ at_and_below V r.path.now
    tops_all = is_all_tops V sorted holds named front r rs c

    pub item_fated : (f : Fate) → is_different r ≡ true → fate V r.path.now ≡ f → IsFated V r.path.now (paths_of tops) (Some f)
    item_fated f d e = (tops_below, first_item V sorted holds named front r rs c d, e)

    pub next_cut : IsCut V (front ++ r.path.now ∷ paths_of (rows_below r rs)) (drop (length (rows_below r rs)) rs)
    next_cut = next V sorted holds named front r rs c

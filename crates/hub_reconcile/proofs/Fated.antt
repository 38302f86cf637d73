-- What the rows of an item tell of its fate is what the view tells.
use Rattle.std.proofs.Common.{◌≡◌, Bool, true, false, cond, not, ◌&&◌, ◌||◌, List, [], ◌∷◌, map, Some, None, refl, ap, sym, ◌∙◌}
use Rattle.std.specs.Prelude.{filter, reverse, is_some}
use Rattle.std.specs.List.{list_any}
use Rattle.std.proofs.lemmas.List.Folds.{list_any-append}
use Rattle.std.proofs.lemmas.List.Sorted.{list_any-IsPermutation, IsPermutation-reverse}
use Rattle.hub_text.specs.laws.Test.{any-map, any-or}
use Rattle.hub_path.specs.Path.{Path}
use Rattle.hub_path.specs.declared.side.Side.{Side}
use Rattle.hub_path.specs.declared.side.Side.TheVariants.{Left, Right}
use Rattle.hub_profile.specs.Parts.{Parts}
use Rattle.hub_tree.specs.Tree.{Archive}
use Rattle.hub_tree.specs.declared.contents.Mark.{Mark}
use Rattle.hub_tree.specs.declared.contents.Mark.TheVariants as mark
use Rattle.hub_reconcile.specs.forms.Fates as rows
use Rattle.hub_reconcile.specs.Items.{other, below, at_and_below, is_updated, is_conflict, source, change, going, coming, changes, is_allowed, blocks, fate, fate_from, has_parent, verb_of}
use Rattle.hub_reconcile.specs.Picture.{view_by}
use Rattle.hub_reconcile.specs.Rows.{IsRow, AreRows, seen_on, mark_on, is_changed, paths_of}
use Rattle.hub_reconcile.specs.Sight.{Sight}
use Rattle.hub_reconcile.specs.View.{View, allowed_at, is_folder, mark_eq, is_present}
use Rattle.hub_reconcile.specs.declared.change.Change.{Change}
use Rattle.hub_reconcile.specs.declared.item.Fate.TheVariants.{To, Skip}
use Rattle.hub_reconcile.specs.declared.item.Reason.TheVariants as reason
use Rattle.hub_reconcile.specs.declared.row.Row.{Row}
use Rattle.hub_reconcile.proofs.Partitions.{mark_row}

-- Some of the rows pass a test, if some of their paths do.
pub any_rows : (V : View) (f : Row → Bool) (g : Path → Bool) → ((r : Row) → IsRow V r → f r ≡ g r.path.now) → (rs : List Row) → AreRows V rs → list_any f rs ≡ list_any g (paths_of rs)
any_rows V f g same [] a = refl
any_rows V f g same (r ∷ rs) a = λ i. same r a.0 i || any_rows V f g same rs a.1 i

-- Tests of lists of changes.
any_reverse : {X : Type 0} (t : X → Bool) (xs : List X) → list_any t (reverse xs) ≡ list_any t xs
any_reverse t xs = sym (list_any-IsPermutation t xs (reverse xs) (IsPermutation-reverse xs))

any_filter : {X : Type 0} (t g : X → Bool) (xs : List X) → list_any t (filter g xs) ≡ list_any (λ x. g x && t x) xs
any_filter t g [] = refl
any_filter t g (x ∷ xs) =
    elim (g x) as (λ b. list_any t (cond b (x ∷ filter g xs) (filter g xs)) ≡ ((b && t x) || list_any (λ x. g x && t x) xs)) [
      | true ↦ ap (λ b. t x || b) (any_filter t g xs)
      | false ↦ any_filter t g xs
    ]

later : (a b t : Bool) → (a || (t || b)) ≡ ((a || b) || t)
later true b t = refl
later false true true = refl
later false true false = refl
later false false true = refl
later false false false = refl

module _ (P : Parts) (O : Archive) (seen : Side → List (Path × Sight)) where
  abbrev V : View
  V = view_by P O seen

  others_row : (k : Side) (r : Row) → IsRow V r → (seen_on k r).others ≡ V.others k r.path.now
  others_row Left r row = row.left_others
  others_row Right r row = row.right_others

  changed_row : (k : Side) (r : Row) → IsRow V r → is_changed k r ≡ is_updated V k r.path.now
  changed_row k r row = λ i. not (mark_eq (mark_row V k r row i) (row.old i))

  abbrev Tests : (Row → Mark → Bool) → (Change → Bool) → Side → Type 0
  Tests test t from = (r : Row) (m : Mark) → IsRow V r → test r m ≡ t (change (other from) r.path.now m)

  barred_row : (from : Side) → Tests (rows.bars P from) (λ c. not (is_allowed V c)) from
  barred_row from r m row = ap (λ old. not (allowed_at P (other from) r.path.now (verb_of old m))) (mark_row V (other from) r row)

  blocked_row : (from : Side) → Tests (rows.blocks from) (blocks V) from
  blocked_row from r m row = λ i. is_folder (mark_row V (other from) r row i) && not (is_folder m) && others_row (other from) r row i

  abbrev Goes : Side → Path → Bool
  Goes from q = is_present (V.mark (other from) q) && not (is_present (V.mark from q))

  abbrev Comes : Side → Path → Bool
  Comes from q = is_present (V.mark from q)

  abbrev gone : (Change → Bool) → Side → Path → Bool
  gone t from q = t (change (other from) q mark.Absent)

  abbrev come : (Change → Bool) → Side → Path → Bool
  come t from q = t (change (other from) q (V.mark from q))

  change_row : (test : Row → Mark → Bool) (t : Change → Bool) (from : Side) → Tests test t from → (r : Row) → IsRow V r
      → rows.changes_with test from r ≡ ((Goes from r.path.now && gone t from r.path.now) || (Comes from r.path.now && come t from r.path.now))
  change_row test t from same r row =
      let coming_same : test r (mark_on from r) ≡ come t from r.path.now = same r (mark_on from r) row ∙ ap (λ m. t (change (other from) r.path.now m)) (mark_row V from r row) in
      let going_same : test r mark.Absent ≡ gone t from r.path.now = same r mark.Absent row in
      λ i. ((is_present (mark_row V (other from) r row i) && not (is_present (mark_row V from r row i))) && going_same i) || (is_present (mark_row V from r row i) && coming_same i)

  module _ (r : Row) (rs : List Row) (a : AreRows V (r ∷ rs)) (low : paths_of rs ≡ below V r.path.now) (all : paths_of (r ∷ rs) ≡ at_and_below V r.path.now) where
    abbrev p : Path
    p = r.path.now

    going_any : (t : Change → Bool) (from : Side) → list_any t (map (λ q. change (other from) q mark.Absent) (reverse (going V from p))) ≡ list_any (λ q. Goes from q && gone t from q) (below V p)
    going_any t from =
        sym (any-map t (λ q. change (other from) q mark.Absent) (reverse (going V from p)))
        ∙ (any_reverse (gone t from) (going V from p) ∙ any_filter (gone t from) (Goes from) (below V p))

    coming_any : (t : Change → Bool) (from : Side) → list_any t (map (λ q. change (other from) q (V.mark from q)) (coming V from p)) ≡ list_any (λ q. Comes from q && come t from q) (below V p)
    coming_any t from =
        sym (any-map t (λ q. change (other from) q (V.mark from q)) (coming V from p))
        ∙ any_filter (come t from) (Comes from) (below V p)

    low_any : (test : Row → Mark → Bool) (t : Change → Bool) (from : Side) → Tests test t from
        → list_any (rows.changes_with test from) rs ≡ (list_any (λ q. Goes from q && gone t from q) (below V p) || list_any (λ q. Comes from q && come t from q) (below V p))
    low_any test t from same =
        any_rows V (rows.changes_with test from) (λ q. (Goes from q && gone t from q) || (Comes from q && come t from q)) (change_row test t from same) rs a.1
        ∙ (ap (list_any (λ q. (Goes from q && gone t from q) || (Comes from q && come t from q))) low
        ∙ sym (any-or (λ q. Goes from q && gone t from q) (λ q. Comes from q && come t from q) (below V p)))

    own_test : (test : Row → Mark → Bool) (t : Change → Bool) (from : Side) → Tests test t from → test r (mark_on from r) ≡ come t from p
    own_test test t from same = same r (mark_on from r) a.0 ∙ ap (λ m. t (change (other from) p m)) (mark_row V from r a.0)

    -- Some change of the item passes a test, if the rows say so.
    changes_any : (test : Row → Mark → Bool) (t : Change → Bool) (from : Side) → Tests test t from
        → (list_any (rows.changes_with test from) rs || test r (mark_on from r)) ≡ list_any t (changes V from p)
    changes_any test t from same =
        (λ i. low_any test t from same i || own_test test t from same i)
        ∙ (sym (later (list_any (λ q. Goes from q && gone t from q) (below V p)) (list_any (λ q. Comes from q && come t from q) (below V p)) (come t from p))
        ∙ ((λ i. sym (going_any t from) i || (come t from p || sym (coming_any t from) i))
        ∙ sym (list_any-append t (map (λ q. change (other from) q mark.Absent) (reverse (going V from p))) (change (other from) p (V.mark from p) ∷ map (λ q. change (other from) q (V.mark from q)) (coming V from p)))))

    updated_any : (k : Side) → rows.is_updated_in k r rs ≡ list_any (is_updated V k) (at_and_below V p)
    updated_any k = any_rows V (is_changed k) (is_updated V k) (changed_row k) (r ∷ rs) a ∙ ap (list_any (is_updated V k)) all

    conflict_same : rows.is_conflict r rs ≡ is_conflict V p
    conflict_same = λ i. (changed_row Left r a.0 i && updated_any Right i) || (changed_row Right r a.0 i && updated_any Left i)

    source_same : rows.source P r rs ≡ source V p
    source_same = λ i. cond (is_some P.force) P.force (cond (conflict_same i) P.prefer (cond (changed_row Left r a.0 i) (Some Left) (Some Right)))

    fate_same : (from : Side) → rows.fate_from P V r rs from ≡ fate_from V p (Some from)
    fate_same from =
        let barred = changes_any (rows.bars P from) (λ c. not (is_allowed V c)) from (barred_row from) in
        let blocked = changes_any (rows.blocks from) (blocks V) from (blocked_row from) in
        λ i. cond (barred i) (Skip reason.Barred) (cond (blocked i) (Skip reason.Blocked) (cond (has_parent V (other from) p) (To (other from)) (Skip reason.NoParent)))

    pub fate_of_some : (from : Side) → rows.source P r rs ≡ Some from → rows.fate_from P V r rs from ≡ fate V p
    fate_of_some from h = fate_same from ∙ ap (fate_from V p) (sym h ∙ source_same)

    pub fate_of_none : rows.source P r rs ≡ None → Skip reason.Conflict ≡ fate V p
    fate_of_none h = ap (fate_from V p) (sym h ∙ source_same)

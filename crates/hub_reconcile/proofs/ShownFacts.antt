-- What holds of the view that a picture shows.
use Rattle.std.proofs.Common.{◌≡◌, ◌<◌, Bool, true, false, cond, not, ◌||◌, List, [], ◌∷◌, ◌++◌, map, length, refl, ap, sym, ◌∙◌}
use Rattle.std.specs.List.Sorted.{IsStrictlySortedBy}
use Rattle.std.specs.FinMap as fin
use Rattle.std.specs.Ordering.{eq_by_cmp}
use Rattle.std.proofs.lemmas.Bool.{false≢true, and_parts, and_from, or_left, or_right}
use Rattle.std.proofs.lemmas.List.Folds.{list_any-append}
use Rattle.std.proofs.lemmas.List.Kept.{IsStrictlySortedBy-filter}
use Rattle.hub_path.specs.Path.{Path, path_cmp, path_eq, ascending}
use Rattle.hub_path.specs.declared.side.Side.{Side}
use Rattle.hub_path.specs.declared.side.Side.TheVariants.{Left, Right}
use Rattle.hub_profile.specs.Parts.{Parts}
use Rattle.hub_reach.specs.Reach.{reach}
use Rattle.hub_tree.specs.Tree.{Archive}
use Rattle.hub_tree.specs.declared.contents.Mark.{Mark}
use Rattle.hub_tree.specs.declared.contents.Mark.TheVariants as mark
use Rattle.hub_tree.specs.laws.Order.{path_itself}
use Rattle.hub_tree.specs.laws.Children.{one_item}
use Rattle.hub_tree.specs.laws.Between.{among, among_filter}
use Rattle.hub_reconcile.specs.Items.{differs}
use Rattle.hub_reconcile.specs.Picture.{sight_in, view_by}
use Rattle.hub_reconcile.specs.Sight.{Sight}
use Rattle.hub_reconcile.specs.View.{View, mark_eq, is_present, counts}
use Rattle.hub_reconcile.specs.laws.Ascend.{ascending_sorted, among_ascending}
use Rattle.hub_reconcile.specs.laws.Views.{same_paths, reach-names}

-- A path that has a mark has a Look.
pub sight_there : (y : Path) (ss : List (Path × Sight)) → is_present (sight_in ss y).mark ≡ true → among y (map (λ s. s.0) ss) ≡ true
sight_there y [] h = absurd (false≢true h)
sight_there y (s ∷ ss) h =
    elim (path_eq s.0 y) as (λ b. path_eq s.0 y ≡ b → is_present (cond b s.1 (sight_in ss y)).mark ≡ true → among y (s.0 ∷ map (λ s. s.0) ss) ≡ true) [
      | true ↦ λ e g. or_left _ _ (ap (eq_by_cmp path_cmp y) (same_paths s.0 y e) ∙ path_itself y)
      | false ↦ λ e g. or_right (eq_by_cmp path_cmp y s.0) _ (sight_there y ss g)
    ] refl h

-- Marks that differ are not both absent.
one_is_there : (a b : Mark) → not (mark_eq a b) ≡ true → (is_present a || is_present b) ≡ true
one_is_there (mark.File d) b h = refl
one_is_there mark.Directory b h = refl
one_is_there mark.Absent (mark.File d) h = refl
one_is_there mark.Absent mark.Directory h = refl
one_is_there mark.Absent mark.Absent h = absurd (false≢true h)

module _ (P : Parts) (O : Archive) (seen : Side → List (Path × Sight)) where
  abbrev V : View
  V = view_by P O seen

  abbrev pub seen_at : Side → List Path
  seen_at k = map (λ s. s.0) (seen k)

  abbrev pub all_paths : List Path
  all_paths = seen_at Left ++ seen_at Right ++ fin.keys O

  abbrev pub does_count : Path → Bool
  does_count q = counts (reach P) V.mark V.old q

  pub shown_sorted : IsStrictlySortedBy path_cmp V.paths
  shown_sorted = IsStrictlySortedBy-filter path_cmp does_count (ascending all_paths) (ascending_sorted all_paths)

  mark_there : (k : Side) (y : Path) → is_present (V.mark k y) ≡ true → among y (seen_at k) ≡ true
  mark_there k [] h = absurd (false≢true h)
  mark_there k (n ∷ y) h = sight_there (n ∷ y) (seen k) (ap (λ b. is_present (cond b mark.Absent (sight_in (seen k) (n ∷ y)).mark)) (sym (one_item n y)) ∙ h)

  in_all : (k : Side) (y : Path) → among y (seen_at k) ≡ true → among y all_paths ≡ true
  in_all Left y e =
      list_any-append (eq_by_cmp path_cmp y) (seen_at Left ++ seen_at Right) (fin.keys O)
      ∙ or_left _ _ (list_any-append (eq_by_cmp path_cmp y) (seen_at Left) (seen_at Right) ∙ or_left _ _ e)
  in_all Right y e =
      list_any-append (eq_by_cmp path_cmp y) (seen_at Left ++ seen_at Right) (fin.keys O)
      ∙ or_left _ _ (list_any-append (eq_by_cmp path_cmp y) (seen_at Left) (seen_at Right) ∙ or_right (among y (seen_at Left)) _ e)

  either_there : (y : Path) (a b : Bool) → is_present (V.mark Left y) ≡ a → is_present (V.mark Right y) ≡ b → (a || b) ≡ true → among y all_paths ≡ true
  either_there y true b e f h = in_all Left y (mark_there Left y e)
  either_there y false true e f h = in_all Right y (mark_there Right y f)
  either_there y false false e f h = absurd (false≢true h)

  -- A path at which the sides differ is one of the view.
  pub shown_holds : (y : Path) → differs V y ≡ true → among y V.paths ≡ true
  shown_holds y h =
      let two = and_parts (reach P y) (not (mark_eq (V.mark Left y) (V.mark Right y))) h in
      let there = one_is_there (V.mark Left y) (V.mark Right y) two.1 in
      among_filter y does_count (ascending all_paths)
      ∙ and_from (does_count y) _ (and_from (reach P y) _ two.0 (or_left _ _ there))
      (among_ascending y all_paths ∙ either_there y (is_present (V.mark Left y)) (is_present (V.mark Right y)) refl refl there)

  pub shown_names : (q : Path) → V.reached q ≡ true → 0 < length q
  shown_names q h = reach-names P q h

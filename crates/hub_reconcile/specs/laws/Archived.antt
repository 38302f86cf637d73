-- The new archive has at each path the mark that one synchronization gives it.
use Rattle.std.proofs.Common.{◌≡◌, Bool, true, false, cond, ◌||◌, List, [], ◌∷◌, ◌++◌, Option, Some, None, refl, ap, sym, ◌∙◌}
use Rattle.std.specs.Prelude.{fold}
use Rattle.std.specs.Option.{unwrap_or}
use Rattle.std.specs.FinMap as fin
use Rattle.std.specs.Ordering.{eq_by_cmp}
use Rattle.std.proofs.lemmas.Bool.{false≢true, and_from, or_left, or_right, not-true, false_from_ne_true}
use Rattle.std.proofs.lemmas.List.Folds.{list_any-append}
use Rattle.hub_reconcile.specs.Merge.{seen_paths}
use Rattle.hub_path.specs.Path.{Path, path_cmp, path_eq, ascending}
use Rattle.hub_path.specs.declared.side.Side.{Side}
use Rattle.hub_path.specs.declared.side.Side.TheVariants.{Left, Right}
use Rattle.hub_profile.specs.Parts.{Parts, at_side}
use Rattle.hub_reach.specs.laws.General.{reach-is_path}
use Rattle.hub_reach.specs.Reach.{reach}
use Rattle.hub_tree.specs.Tree.{Replica, Archive, contents_at, old_mark_at, is_absent, with_mark}
use Rattle.hub_tree.specs.declared.contents.Mark.{Mark}
use Rattle.hub_tree.specs.declared.contents.Mark.TheVariants as mark
use Rattle.hub_tree.specs.laws.Order.{path_total, path_itself, same_path}
use Rattle.hub_tree.specs.laws.Between.{among, among_filter}
use Rattle.hub_tree.specs.laws.Children.{one_item}
use Rattle.hub_reconcile.specs.Picture.{sight_in, view_by}
use Rattle.hub_reconcile.specs.Sight.{Sight, sight}
use Rattle.hub_reconcile.specs.View.{View, counts, is_present, mark_seen, view}
use Rattle.hub_reconcile.specs.Items.{other}
use Rattle.hub_reconcile.specs.Sync.{of_side, root_or_top, view_of, fate_over, mark_under, synced_mark, next_archive}
use Rattle.hub_reconcile.specs.declared.item.Fate.{Fate}
use Rattle.hub_reconcile.specs.declared.item.Fate.TheVariants.{To, Skip}
use Rattle.hub_reconcile.specs.laws.Ascend.{among_ascending}
use Rattle.hub_reconcile.specs.laws.Views.{same_paths, present_here, among_candidates}
use Rattle.hub_reconcile.specs.laws.Looked.{old_among}

kept_or : (b : Bool) (m : Mark) (o : Option Mark)
    → unwrap_or (cond b (Some m) o) mark.Absent ≡ cond b m (unwrap_or o mark.Absent)
kept_or true m o = refl
kept_or false m o = refl

gone_or : (b : Bool) (o : Option Mark) → unwrap_or (cond b None o) mark.Absent ≡ cond b mark.Absent
    (unwrap_or o mark.Absent)
gone_or true o = refl
gone_or false o = refl

mark_after : (a : Archive) (p q : Path) (m : Mark)
    → old_mark_at (with_mark a p m) q ≡ cond (eq_by_cmp path_cmp q p) m (old_mark_at a q)
mark_after a p q (mark.File d) =
    ap (λ o. unwrap_or o mark.Absent) (fin.get-insert path_total a p (mark.File d) q)
    ∙ kept_or (eq_by_cmp path_cmp q p) (mark.File d) (fin.get a q)
mark_after a p q mark.Directory =
    ap (λ o. unwrap_or o mark.Absent) (fin.get-insert path_total a p mark.Directory q)
    ∙ kept_or (eq_by_cmp path_cmp q p) mark.Directory (fin.get a q)
mark_after a p q mark.Absent =
    ap (λ o. unwrap_or o mark.Absent) (fin.get-remove path_total a p q)
    ∙ gone_or (eq_by_cmp path_cmp q p) (fin.get a q)

either : (b c : Bool) (x y z : Mark) → (c ≡ true → x ≡ y)
    → cond b x (cond c y z) ≡ cond (c || b) x z
either true true x y z e = refl
either true false x y z e = refl
either false true x y z e = sym (e refl)
either false false x y z e = refl

marks_after : (f : Path → Mark) (ps : List Path) (a : Archive) (q : Path)
    → old_mark_at (fold (λ a p. with_mark a p (f p)) a ps) q ≡ cond (among q ps) (f q)
    (old_mark_at a q)
marks_after f [] a q = refl
marks_after f (p ∷ ps) a q =
    marks_after f ps (with_mark a p (f p)) q
    ∙ (ap (cond (among q ps) (f q)) (mark_after a p q (f p))
    ∙ either (among q ps) (eq_by_cmp path_cmp q p) (f q) (f p) (old_mark_at a q)
    (λ e. ap f (same_path q p e)))

absent_mark : (m : Mark) → is_present m ≡ false → m ≡ mark.Absent
absent_mark (mark.File d) e = absurd (false≢true (sym e))
absent_mark mark.Directory e = absurd (false≢true (sym e))
absent_mark mark.Absent e = refl

-- What is seen on two sides, where all that has a mark or an old mark is among the candidates.
module _ (P : Parts) (O : Archive) (sees : Side → Path → Sight) (candidates : List Path)
    (shown : (k : Side) (q : Path) → reach P q ≡ true → is_present (mark_seen sees k q) ≡ true
    → among q candidates ≡ true)
    (recorded : (q : Path) → is_present (old_mark_at O q) ≡ true → among q candidates ≡ true) where
  abbrev V : View
  V = view P sees (old_mark_at O) candidates

  in_view : (q : Path) → counts (reach P) V.mark V.old q ≡ true → among q candidates ≡ true
      → among q V.paths ≡ true
  in_view q c e = among_filter q (λ q. counts (reach P) V.mark V.old q) (ascending candidates)
      ∙ and_from _ _ c (among_ascending q candidates ∙ e)

  mark_counts : (k : Side) (q : Path) → reach P q ≡ true → is_present (V.mark k q) ≡ true
      → counts (reach P) V.mark V.old q ≡ true
  mark_counts Left q h e =
      and_from (reach P q) _ h
      (or_left _ (is_present (V.old q)) (or_left _ (is_present (V.mark Right q)) e))
  mark_counts Right q h e =
      and_from (reach P q) _ h
      (or_left _ (is_present (V.old q)) (or_right (is_present (V.mark Left q)) _ e))

  no_mark : (k : Side) (q : Path) → reach P q ≡ true → among q V.paths ≡ false
      → V.mark k q ≡ mark.Absent
  no_mark k q h e =
      absent_mark (V.mark k q)
      (false_from_ne_true _
      (λ there. false≢true (sym e ∙ in_view q (mark_counts k q h there) (shown k q h there))))

  no_old : (q : Path) → reach P q ≡ true → among q V.paths ≡ false → V.old q ≡ mark.Absent
  no_old q h e =
      absent_mark (V.old q)
      (false_from_ne_true _
      (λ there. false≢true (sym e
      ∙ in_view q (and_from (reach P q) _ h
      (or_right (is_present (V.mark Left q) || is_present (V.mark Right q)) _ there))
      (recorded q there))))

  as_before : (q : Path) (o : Option Fate) → reach P q ≡ true → among q V.paths ≡ false
      → mark_under V q o ≡ V.old q
  as_before q None h e = no_mark Left q h e ∙ sym (no_old q h e)
  as_before q (Some (To k)) h e = no_mark (other k) q h e ∙ sym (no_old q h e)
  as_before q (Some (Skip why)) h e = refl

  elsewhere : (q : Path) (b : Bool) → reach P q ≡ b → among q V.paths ≡ false
      → cond b (mark_under V q (fate_over V q)) (V.old q) ≡ V.old q
  elsewhere q true h e = as_before q (fate_over V q) h e
  elsewhere q false h e = refl

  at_path : (q : Path) (b : Bool) → among q V.paths ≡ b
      → cond b (synced_mark V q) (V.old q) ≡ synced_mark V q
  at_path q true e = refl
  at_path q false e = sym (elsewhere q (reach P q) refl e)

  each_mark : (q : Path) → old_mark_at (next_archive V O) q ≡ synced_mark V q
  unfolding next_archive
  each_mark q = marks_after (synced_mark V) V.paths O q ∙ at_path q (among q V.paths) refl

old_last : (O : Archive) (ps : List Path) (q : Path) → is_present (old_mark_at O q) ≡ true
    → among q (ps ++ fin.keys O) ≡ true
old_last O ps q e =
    list_any-append (eq_by_cmp path_cmp q) ps (fin.keys O)
    ∙ or_right (among q ps) _ (old_among O q (fin.get O q) refl e)

-- Two replicas.
shown_there : (P : Parts) (A B : Replica) (O : Archive) (k : Side) (q : Path) → reach P q ≡ true
    → is_present ((view_of P A B O).mark k q) ≡ true
    → among q (fin.keys A ++ fin.keys B ++ fin.keys O) ≡ true
shown_there P A B O k q h e =
    among_candidates P A B O k q h (not-true (is_absent (contents_at (of_side A B k) q))
    (sym (present_here P A B O k q h) ∙ e))

pub archived : (P : Parts) (A B : Replica) (O : Archive) (q : Path)
    → old_mark_at (next_archive (view_of P A B O) O) q ≡ synced_mark (view_of P A B O) q
archived P A B O q =
    each_mark P O (λ side p. sight P (root_or_top (at_side P.roots side)) (of_side A B side) p)
    (fin.keys A ++ fin.keys B ++ fin.keys O)
    (shown_there P A B O) (old_last O (fin.keys A ++ fin.keys B)) q

-- Whatever Looks show.
seen_among : (ss : List (Path × Sight)) (q : Path) → is_present (sight_in ss q).mark ≡ true
    → among q (seen_paths ss) ≡ true
seen_among [] q e = absurd (false≢true e)
seen_among (s ∷ ss) q e =
    elim (path_eq s.0 q) as (λ b. path_eq s.0 q ≡ b
    → is_present (cond b s.1 (sight_in ss q)).mark ≡ true → among q (s.0 ∷ seen_paths ss) ≡ true) [
      | true ↦ λ g h. or_left (eq_by_cmp path_cmp q s.0) _
          (ap (eq_by_cmp path_cmp q) (same_paths s.0 q g) ∙ path_itself q)
      | false ↦ λ g h. or_right (eq_by_cmp path_cmp q s.0) _ (seen_among ss q h)
    ] refl e

module _ (P : Parts) (O : Archive) (seen : Side → List (Path × Sight)) where
  abbrev sides : List Path
  sides = seen_paths (seen Left) ++ seen_paths (seen Right)

  on_side : (k : Side) (q : Path) → is_present (sight_in (seen k) q).mark ≡ true
      → among q sides ≡ true
  on_side Left q e =
      list_any-append (eq_by_cmp path_cmp q) (seen_paths (seen Left)) (seen_paths (seen Right))
      ∙ or_left _ _ (seen_among (seen Left) q e)
  on_side Right q e =
      list_any-append (eq_by_cmp path_cmp q) (seen_paths (seen Left)) (seen_paths (seen Right))
      ∙ or_right (among q (seen_paths (seen Left))) _ (seen_among (seen Right) q e)

  shown_seen : (k : Side) (q : Path) → reach P q ≡ true
      → is_present ((view_by P O seen).mark k q) ≡ true → among q (sides ++ fin.keys O) ≡ true
  shown_seen k [] h e = absurd (false≢true (reach-is_path P [] h))
  shown_seen k (n ∷ q) h e =
      list_any-append (eq_by_cmp path_cmp (n ∷ q)) sides (fin.keys O)
      ∙ or_left _ _
      (on_side k (n ∷ q) (ap (λ b. is_present (cond b mark.Absent (sight_in (seen k) (n ∷ q)).mark))
      (sym (one_item n q)) ∙ e))

  pub archived_by : (q : Path) → old_mark_at (next_archive (view_by P O seen) O) q ≡ synced_mark
      (view_by P O seen) q
  archived_by q = each_mark P O (λ side p. sight_in (seen side) p) (sides ++ fin.keys O) shown_seen
      (old_last O sides) q

-- The rows of a picture: what the merge has made of the Looks and the archive's paths that it has passed.
use Rattle.std.proofs.Common.{◌≡◌, ◌<◌, ⊎_elim, Bool, true, false, T, cond, ◌&&◌, ◌||◌, List, [], ◌∷◌, ◌++◌, length, Some, None, refl, ap, sym, ◌∙◌, subst, append_assoc, append-nil, arith}
use Rattle.std.specs.Prelude.{◌==◌, filter, IsTrue}
use Rattle.std.specs.Option.{unwrap_or}
use Rattle.std.specs.List.Sorted.{IsStrictlySortedBy}
use Rattle.std.specs.FinMap as fin
use Rattle.std.specs.FinMap.Entries.{find, is_sorted}
use Rattle.std.specs.Ordering.{eq_by_cmp}
use Rattle.std.specs.declared.cmp.Ordering.TheVariants.{Less}
use Rattle.std.proofs.lemmas.Bool.{false≢true, and_parts, or_left, or_right, false_from_ne_true}
use Rattle.std.proofs.lemmas.List.Elements.{filter-append}
use Rattle.std.specs.Cmp.{both_ways}
use Rattle.std.proofs.Math.Bool.{and-false, and-true}
use Rattle.hub_reconcile.proofs.Partitions.{paths-push}
use Rattle.hub_path.specs.laws.General.{path_cmp-total}
use Rattle.hub_path.specs.Path.{Path, path_cmp, path_eq, ascending}
use Rattle.hub_path.specs.declared.side.Side.TheVariants.{Left, Right}
use Rattle.hub_profile.specs.Parts.{Parts}
use Rattle.hub_reach.specs.Reach.{reach}
use Rattle.hub_tree.specs.Tree.{Archive, old_mark_at}
use Rattle.hub_tree.specs.declared.contents.Mark.{Mark}
use Rattle.hub_tree.specs.declared.contents.Mark.TheVariants as mark
use Rattle.hub_tree.specs.laws.Order.{path_itself, same_path}
use Rattle.hub_tree.specs.laws.Children.{sorted_keys, one_item}
use Rattle.hub_tree.specs.laws.Between.{among, behind, not_both}
use Rattle.hub_reconcile.specs.Merge.{seen_paths, paths_in, first_of, least_first, without_first, past_of, past_sight, front_of, front_sight, front_mark, IsSeen}
use Rattle.hub_reconcile.specs.Picture.{nothing_there, sight_in, view_by}
use Rattle.hub_reconcile.specs.Rows.{IsRow, AreRows, AreRowsOf, is_anywhere, paths_of}
use Rattle.hub_reconcile.specs.Sight.{Sight}
use Rattle.hub_reconcile.specs.Sync.{of_side}
use Rattle.hub_reconcile.specs.View.{View, is_present, counts}
use Rattle.hub_reconcile.specs.declared.row.Row.{Row}
use Rattle.hub_reconcile.proofs.Lows.{IsLow, IsLeastFirst, least_firsts, nothing_left, three, past_sorted, later_three, is_there, least_next}
use Rattle.hub_reconcile.specs.laws.Views.{same_paths, paths_same, reach-names}

-- The value of a path in a list, and else d.
abbrev pub value_in : {T : Type 0} → T → List (Path × T) → Path → T
value_in d [] p = d
value_in d (e ∷ es) p = cond (path_eq e.0 p) e.1 (value_in d es p)

module _ {T : Type 0} (d : T) where
  -- Values of paths behind a path don't tell of it.
  none_in : (p : Path) (es : List (Path × T)) → ((q : Path) → among q (paths_in es) ≡ true → path_cmp p q ≡ Less) → value_in d es p ≡ d
  none_in p [] h = refl
  none_in p (e ∷ es) h =
      let l : path_cmp p e.0 ≡ Less = h e.0 (or_left _ (among e.0 (paths_in es)) (path_itself e.0)) in
      let apart : path_eq e.0 p ≡ false = false_from_ne_true (path_eq e.0 p) (λ k. let w : path_cmp p p ≡ Less = ap (path_cmp p) (sym (same_paths e.0 p k)) ∙ l in not_both p p w w) in
      ap (λ b. cond b e.1 (value_in d es p)) apart ∙ none_in p es (λ q k. h q (or_right (eq_by_cmp path_cmp q e.0) _ k))

  front_in : (es : List (Path × T)) (p : Path) → IsStrictlySortedBy path_cmp (paths_in es) → IsLow p (first_of (paths_in es)) → front_of d p es ≡ value_in d es p
  front_in [] p s low = refl
  front_in (x ∷ xs) p s low =
      elim (path_eq x.0 p) as (λ b. path_eq x.0 p ≡ b → cond b x.1 d ≡ cond b x.1 (value_in d xs p)) [
        | true ↦ λ e. refl
        | false ↦ λ e.
            let l : path_cmp p x.0 ≡ Less = ⊎_elim (λ k. absurd (false≢true (sym e ∙ (ap (λ z. path_eq z p) k ∙ paths_same p)))) (λ k. k) low in
            sym (none_in p xs (λ q m. path_cmp-total.trans p x.0 q l (behind [] (paths_in xs) x.0 q s m)))
      ] refl

  skip_in : (p q : Path) (es : List (Path × T)) → path_cmp p q ≡ Less → value_in d es q ≡ value_in d (past_of p es) q
  skip_in p q [] l = refl
  skip_in p q (e ∷ es) l =
      elim (path_eq e.0 p) as (λ b. path_eq e.0 p ≡ b → value_in d (e ∷ es) q ≡ value_in d (cond b es (e ∷ es)) q) [
        | true ↦ λ k.
            let apart : path_eq e.0 q ≡ false = false_from_ne_true (path_eq e.0 q) (λ h.
            let w : path_cmp p p ≡ Less = ap (path_cmp p) (sym (same_paths e.0 p k) ∙ same_paths e.0 q h) ∙ l in not_both p p w w) in
            ap (λ b. cond b e.1 (value_in d es q)) apart
        | false ↦ λ k. refl
      ] refl

pub past_in : {T : Type 0} (p : Path) (es : List (Path × T)) → paths_in (past_of p es) ≡ without_first p (paths_in es)
past_in p [] = refl
past_in p (e ∷ es) = elim (path_eq e.0 p) as (λ b. paths_in (cond b es (e ∷ es)) ≡ cond b (paths_in es) (paths_in (e ∷ es))) [ true ↦ refl | false ↦ refl ]

-- Sights.
sight_value : (ss : List (Path × Sight)) (p : Path) → sight_in ss p ≡ value_in nothing_there ss p
sight_value [] p = refl
sight_value (s ∷ ss) p = ap (cond (path_eq s.0 p) s.1) (sight_value ss p)

pub none_seen : (p : Path) (ss : List (Path × Sight)) → ((q : Path) → among q (seen_paths ss) ≡ true → path_cmp p q ≡ Less) → sight_in ss p ≡ nothing_there
none_seen p ss h = sight_value ss p ∙ none_in nothing_there p ss h

front_is : (ss : List (Path × Sight)) (p : Path) → IsStrictlySortedBy path_cmp (seen_paths ss) → IsLow p (first_of (seen_paths ss)) → front_sight p ss ≡ sight_in ss p
front_is ss p s low = front_in nothing_there ss p s low ∙ sym (sight_value ss p)

pub past_seen : (p : Path) (ss : List (Path × Sight)) → seen_paths (past_sight p ss) ≡ without_first p (seen_paths ss)
past_seen p ss = past_in p ss

skip_sight : (p q : Path) (ss : List (Path × Sight)) → path_cmp p q ≡ Less → sight_in ss q ≡ sight_in (past_sight p ss) q
skip_sight p q ss l = sight_value ss q ∙ (skip_in nothing_there p q ss l ∙ sym (sight_value (past_sight p ss) q))

-- Marks.
eq_tied : (q x : Path) → eq_by_cmp path_cmp q x ≡ path_eq x q
eq_tied q x =
    both_ways (eq_by_cmp path_cmp q x) (path_eq x q) (λ e. ap (path_eq x) (same_path q x e) ∙ paths_same x) (λ e. ap (eq_by_cmp path_cmp q) (same_paths x q e) ∙ path_itself q)

found_value : (es : List (Path × Mark)) (q : Path) → unwrap_or (find path_cmp q es) mark.Absent ≡ value_in mark.Absent es q
found_value [] q = refl
found_value (e ∷ es) q =
    ap (λ b. unwrap_or (cond b (Some e.1) (find path_cmp q es)) mark.Absent) (eq_tied q e.0)
    ∙ elim (path_eq e.0 q) as (λ b. unwrap_or (cond b (Some e.1) (find path_cmp q es)) mark.Absent ≡ cond b e.1 (value_in mark.Absent es q)) [
      | true ↦ refl
      | false ↦ found_value es q
    ]

old_value : (O : Archive) (q : Path) → old_mark_at O q ≡ value_in mark.Absent (fin.entries O) q
old_value O q = ap (λ o. unwrap_or o mark.Absent) (fin.get-entries O q) ∙ found_value (fin.entries O) q

rows-append : (V : View) (rows : List Row) (row : Row) → AreRows V rows → IsRow V row → AreRows V (rows ++ row ∷ [])
rows-append V [] row a is = (is, tt)
rows-append V (r ∷ rows) row a is = (a.0, rows-append V rows row a.1 is)

T_of : (b : Bool) → b ≡ true → T b
T_of b e = subst T (sym e) tt

pub rising : (ss : List (Path × Sight)) → IsTrue (is_sorted path_cmp ss) → IsStrictlySortedBy path_cmp (seen_paths ss)
rising ss h = sorted_keys path_cmp ss (T_of (is_sorted path_cmp ss) h)

abbrev pub picture_view : Parts → Archive → (L R : List (Path × Sight)) → View
picture_view P O L R = view_by P O (of_side L R)

abbrev pub counts_in : Parts → Archive → (L R : List (Path × Sight)) → Path → Bool
counts_in P O L R q = counts (reach P) (picture_view P O L R).mark (picture_view P O L R).old q

-- The rows are those of the paths that are done; what is left are the Looks and the paths behind them.
pub record IsMerged (P : Parts) (O : Archive) (L R : List (Path × Sight)) (rs : List Row) (l r : List (Path × Sight)) (o : List (Path × Mark)) : Type 0 where
  pub done : List Path
  pub paths : done ++ ascending (three (seen_paths l) (seen_paths r) (paths_in o)) ≡ ascending (three (seen_paths L) (seen_paths R) (fin.keys O))
  pub made : paths_of rs ≡ filter (counts_in P O L R) done
  pub are : AreRows (picture_view P O L R) rs
  pub left : (q : Path) → among q (three (seen_paths l) (seen_paths r) (paths_in o)) ≡ true → sight_in L q ≡ sight_in l q
  pub right : (q : Path) → among q (three (seen_paths l) (seen_paths r) (paths_in o)) ≡ true → sight_in R q ≡ sight_in r q
  pub old : (q : Path) → among q (three (seen_paths l) (seen_paths r) (paths_in o)) ≡ true → old_mark_at O q ≡ value_in mark.Absent o q
  pub left_rises : IsStrictlySortedBy path_cmp (seen_paths l)
  pub right_rises : IsStrictlySortedBy path_cmp (seen_paths r)
  pub old_rises : IsStrictlySortedBy path_cmp (paths_in o)

module _ (P : Parts) (O : Archive) (L R : List (Path × Sight)) where
  abbrev V : View
  V = picture_view P O L R

  abbrev does_count : Path → Bool
  does_count q = counts_in P O L R q

  pub merge_start : IsTrue (is_sorted path_cmp L) → IsTrue (is_sorted path_cmp R) → IsMerged P O L R [] L R (fin.entries O)
  merge_start hl hr = record {
    done = [];
    paths = refl;
    made = refl;
    are = tt;
    left = λ q e. refl;
    right = λ q e. refl;
    old = λ q e. old_value O q;
    left_rises = rising L hl;
    right_rises = rising R hr;
    old_rises = sorted_keys path_cmp (fin.entries O) (fin.entries_sorted O);
  }

  pub merge_end : (rows : List Row) (l r : List (Path × Sight)) (o : List (Path × Mark)) → IsMerged P O L R rows l r o → least_first (seen_paths l) (seen_paths r) (paths_in o) ≡ None → AreRowsOf V rows
  merge_end rows l r o m e =
      let none = nothing_left (seen_paths l) (seen_paths r) (paths_in o) e in
      let all : m.done ≡ ascending (three (seen_paths L) (seen_paths R) (fin.keys O)) =
      sym (append-nil m.done) ∙ ((λ i. m.done ++ ascending (three (sym none.0 i) (sym none.1 i) (sym none.2 i))) ∙ m.paths) in
      record { paths = m.made ∙ ap (filter does_count) all; rows = m.are }

  -- One more path.
  module _ (rows : List Row) (l r : List (Path × Sight)) (o : List (Path × Mark)) (m : IsMerged P O L R rows l r o) (row : Row)
      (least : least_first (seen_paths l) (seen_paths r) (paths_in o) ≡ Some row.path.now)
      (seen_left : IsSeen (front_sight row.path.now l) row.left) (seen_right : IsSeen (front_sight row.path.now r) row.right) (seen_old : row.old ≡ front_mark row.path.now o) where
    abbrev p : Path
    p = row.path.now

    w : IsLeastFirst (seen_paths l) (seen_paths r) (paths_in o) p
    w = least_firsts (seen_paths l) (seen_paths r) (paths_in o) p least

    here : among p (three (seen_paths l) (seen_paths r) (paths_in o)) ≡ true
    here = is_there (seen_paths l) (seen_paths r) (paths_in o) p m.left_rises m.right_rises m.old_rises w

    left_sight : front_sight p l ≡ sight_in L p
    left_sight = front_is l p m.left_rises w.left ∙ sym (m.left p here)

    right_sight : front_sight p r ≡ sight_in R p
    right_sight = front_is r p m.right_rises w.right ∙ sym (m.right p here)

    old : row.old ≡ old_mark_at O p
    old = seen_old ∙ (front_in mark.Absent o p m.old_rises w.old ∙ sym (m.old p here))

    left_mark : row.left.mark ≡ (sight_in L p).mark
    left_mark = seen_left.mark ∙ ap (λ s. s.mark) left_sight

    right_mark : row.right.mark ≡ (sight_in R p).mark
    right_mark = seen_right.mark ∙ ap (λ s. s.mark) right_sight

    mark_named : (q : Path) (a : Mark) → 0 < length q → a ≡ cond (length q == 0) mark.Absent a
    mark_named [] a n = absurd (omega (arith, n))
    mark_named (x ∷ q) a n = ap (λ b. cond b mark.Absent a) (sym (one_item x q))

    pub row_is : reach P p ≡ true → IsRow V row
    row_is h = record {
      left = left_mark ∙ mark_named p (sight_in L p).mark (reach-names P p h);
      left_others = seen_left.others ∙ ap (λ s. s.others) left_sight;
      right = right_mark ∙ mark_named p (sight_in R p).mark (reach-names P p h);
      right_others = seen_right.others ∙ ap (λ s. s.others) right_sight;
      old = old;
      reached = h;
    }

    counted_by : (b : Bool) → reach P p ≡ b → does_count p ≡ (is_anywhere row && reach P p)
    counted_by true h =
        let v = row_is h in
        (λ i. h i && (is_present (sym v.left i) || is_present (sym v.right i) || is_present (sym v.old i)))
        ∙ (sym (and-true (is_anywhere row)) ∙ ap (λ b. is_anywhere row && b) (sym h))
    counted_by false h =
        ap (λ b. b && (is_present (V.mark Left p) || is_present (V.mark Right p) || is_present (V.old p))) h
        ∙ (sym (and-false (is_anywhere row)) ∙ ap (λ b. is_anywhere row && b) (sym h))

    counted : does_count p ≡ (is_anywhere row && reach P p)
    counted = counted_by (reach P p) refl

    -- What is left behind the path.
    abbrev rest : List Path
    rest = three (without_first p (seen_paths l)) (without_first p (seen_paths r)) (without_first p (paths_in o))

    next_paths : (m.done ++ p ∷ []) ++ ascending rest ≡ ascending (three (seen_paths L) (seen_paths R) (fin.keys O))
    next_paths =
        append_assoc m.done (p ∷ []) (ascending rest)
        ∙ (ap (λ ps. m.done ++ ps) (sym (least_next (seen_paths l) (seen_paths r) (paths_in o) p m.left_rises m.right_rises m.old_rises w)) ∙ m.paths)

    same_rest : three (seen_paths (past_sight p l)) (seen_paths (past_sight p r)) (paths_in (past_of p o)) ≡ rest
    same_rest = λ i. three (past_seen p l i) (past_seen p r i) (past_in p o i)

    later : (q : Path) → among q (three (seen_paths (past_sight p l)) (seen_paths (past_sight p r)) (paths_in (past_of p o))) ≡ true
        → (among q (three (seen_paths l) (seen_paths r) (paths_in o)) ≡ true) × (path_cmp p q ≡ Less)
    later q e = later_three (seen_paths l) (seen_paths r) (paths_in o) p m.left_rises m.right_rises m.old_rises w q (ap (among q) (sym same_rest) ∙ e)

    next_of : (more : List Row) → paths_of more ≡ filter does_count (m.done ++ p ∷ []) → AreRows V more → IsMerged P O L R more (past_sight p l) (past_sight p r) (past_of p o)
    next_of more is_made they_are = record {
      done = m.done ++ p ∷ [];
      paths = ap (λ ps. (m.done ++ p ∷ []) ++ ascending ps) same_rest ∙ next_paths;
      made = is_made;
      are = they_are;
      left = λ q e. let v = later q e in m.left q v.0 ∙ skip_sight p q l v.1;
      right = λ q e. let v = later q e in m.right q v.0 ∙ skip_sight p q r v.1;
      old = λ q e. let v = later q e in m.old q v.0 ∙ skip_in mark.Absent p q o v.1;
      left_rises = subst (λ (ps : List Path). IsStrictlySortedBy path_cmp ps) (sym (past_seen p l)) (past_sorted (seen_paths l) p m.left_rises);
      right_rises = subst (λ (ps : List Path). IsStrictlySortedBy path_cmp ps) (sym (past_seen p r)) (past_sorted (seen_paths r) p m.right_rises);
      old_rises = subst (λ (ps : List Path). IsStrictlySortedBy path_cmp ps) (sym (past_in p o)) (past_sorted (paths_in o) p m.old_rises);
    }

    made_by : (b : Bool) → does_count p ≡ b → filter does_count (m.done ++ p ∷ []) ≡ filter does_count m.done ++ cond b (p ∷ []) []
    made_by b e = filter-append does_count m.done (p ∷ []) ∙ ap (λ b. filter does_count m.done ++ cond b (p ∷ []) []) e

    pub merge_kept : (is_anywhere row && reach P p) ≡ true → IsMerged P O L R (rows ++ row ∷ []) (past_sight p l) (past_sight p r) (past_of p o)
    merge_kept h =
        let two = and_parts (is_anywhere row) (reach P p) h in
        next_of (rows ++ row ∷ [])
        (paths-push rows row ∙ (ap (λ ps. ps ++ p ∷ []) m.made ∙ sym (made_by true (counted ∙ h))))
        (rows-append V rows row m.are (row_is two.1))

    pub merge_skipped : (is_anywhere row && reach P p) ≡ false → IsMerged P O L R rows (past_sight p l) (past_sight p r) (past_of p o)
    merge_skipped h = next_of rows (m.made ∙ (sym (append-nil (filter does_count m.done)) ∙ sym (made_by false (counted ∙ h)))) m.are

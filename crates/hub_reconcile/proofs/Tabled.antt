-- The table that the merge makes: the rows, and the marks of the archive at the paths that aren't reached.
use Rattle.std.proofs.Common.{◌≡◌, ◌+◌, ◌<◌, Bool, true, false, cond, not, ◌&&◌, ◌||◌, List, [], ◌∷◌, ◌++◌, length, Option, Some, None, refl, ap, sym, ◌∙◌, append_assoc, append-nil, arith}
use Rattle.std.specs.Prelude.{IsTrue, filter}
use Rattle.std.specs.FinMap as fin
use Rattle.std.specs.FinMap.Entries.{is_sorted}
use Rattle.std.specs.Map.Iter.{TakesFirst}
use Rattle.std.proofs.lemmas.Bool.{false≢true, or_right}
use Rattle.std.proofs.lemmas.List.{length-map}
use Rattle.hub_path.specs.Path.{Path, path_cmp, path_eq}
use Rattle.hub_profile.specs.Parts.{Parts}
use Rattle.hub_reach.specs.Reach.{reach}
use Rattle.hub_tree.specs.Tree.{Archive}
use Rattle.hub_tree.specs.declared.contents.Mark.{Mark}
use Rattle.hub_tree.specs.declared.contents.Mark.TheVariants as mark
use Rattle.hub_reconcile.specs.Merge.{seen_paths, paths_in, first_of, lesser, least_first, past_of, past_sight, front_sight, front_mark, told_mark, told_marks, taken, is_other, IsSeen}
use Rattle.hub_reconcile.specs.Picture.{told_by}
use Rattle.hub_reconcile.specs.Rows.{AreRowsOf, is_anywhere, is_counted, other_of}
use Rattle.hub_reconcile.specs.Sight.{Sight}
use Rattle.hub_reconcile.specs.View.{is_present}
use Rattle.hub_reconcile.specs.declared.look.Look.{Look}
use Rattle.hub_reconcile.specs.declared.old_mark.OldMark.{OldMark}
use Rattle.hub_reconcile.specs.declared.row.Row.{Row}
use Rattle.hub_reconcile.specs.declared.table.Table.{Table}
use Rattle.hub_reconcile.proofs.Lows.{nothing_left}
use Rattle.hub_reconcile.proofs.Merging.{IsMerged, merge_end, past_in, picture_view}
use Rattle.hub_reconcile.proofs.Passing.{fewer, start_on, added_on}
use Rattle.hub_reconcile.specs.laws.Views.{same_paths}

-- What the mark that was taken says of those that were left before.
taken_first : (o : List (Path × Mark)) (old : Option OldMark) (ms : List (Path × Mark)) → TakesFirst told_mark o old ms → first_of (paths_in (taken old)) ≡ first_of (paths_in o)
taken_first o None ms t = ap (λ (es : List (Path × Mark)). first_of (paths_in es)) (sym t.0)
taken_first o (Some x) ms t = ap (λ (es : List (Path × Mark)). first_of (paths_in es)) (sym t)

taken_front : (p : Path) (o : List (Path × Mark)) (old : Option OldMark) (ms : List (Path × Mark)) → TakesFirst told_mark o old ms → front_mark p (taken old) ≡ front_mark p o
taken_front p o None ms t = ap (front_mark p) (sym t.0)
taken_front p o (Some x) ms t = ap (front_mark p) (sym t)

taken_length : (o : List (Path × Mark)) (old : Option OldMark) (ms : List (Path × Mark)) → TakesFirst told_mark o old ms → length (paths_in o) ≡ length (taken old) + length ms
taken_length o None ms t =
    let a : length (paths_in o) ≡ 0 = ap (λ (es : List (Path × Mark)). length (paths_in es)) t.0 in
    let b : length ms ≡ 0 = ap length t.1 in
    omega (arith, a, b)
taken_length o (Some x) ms t =
    let a : length (paths_in o) ≡ length (paths_in (told_mark x ∷ ms)) = ap (λ (es : List (Path × Mark)). length (paths_in es)) t in
    let b : length (paths_in ms) ≡ length ms = length-map ms (λ e. e.0) in
    omega (arith, a, b)

-- The old mark of a row that doesn't count.
split : (a r k : Bool) (xs : List (Path × Mark)) → (k ≡ true → a ≡ true) → cond (a && r) [] (cond k xs []) ≡ cond (not r && k) xs []
split true true k xs h = refl
split true false k xs h = refl
split false r true xs h = absurd (false≢true (h refl))
split false true false xs h = refl
split false false false xs h = refl

cond_nil : (b : Bool) (xs : List (Path × Mark)) → xs ≡ [] → cond b [] xs ≡ []
cond_nil true xs e = refl
cond_nil false xs e = e

abbrev one_mark : Path → Mark → List (Path × Mark)
one_mark p m = (p, m) ∷ []

cond_cons : (b : Bool) (x : Path × Mark) (xs : List (Path × Mark)) → cond b (x ∷ []) [] ++ xs ≡ cond b (x ∷ xs) xs
cond_cons true x xs = refl
cond_cons false x xs = refl

module _ (P : Parts) where
  abbrev other : Path × Mark → Bool
  other e = is_other (reach P) e

  abbrev other_at : Path → Mark → List (Path × Mark)
  other_at p m = cond (not (reach P p) && is_present m) (one_mark p m) []

  none_other : (row : Row) → row.old ≡ mark.Absent → other_of P row ≡ []
  none_other row e = cond_nil (is_counted P row) _ (ap (λ (m : Mark). cond (is_present m) (one_mark row.path.now m) []) e)

  some_other : (row : Row) (x : Path × Mark) → x.0 ≡ row.path.now → row.old ≡ x.1 → other_of P row ≡ cond (other x) (x ∷ []) []
  some_other row x e h =
      split (is_anywhere row) (reach P row.path.now) (is_present row.old) (one_mark row.path.now row.old) (λ k. or_right (is_present row.left.mark || is_present row.right.mark) _ k)
      ∙ (λ i. other_at (sym e i) (h i))

  others_step : (row : Row) (o : List (Path × Mark)) → row.old ≡ front_mark row.path.now o → other_of P row ++ filter other (past_of row.path.now o) ≡ filter other o
  others_step row [] e = ap (λ (es : List (Path × Mark)). es ++ []) (none_other row e)
  others_step row (x ∷ es) e =
      elim (path_eq x.0 row.path.now) as
      (λ b. path_eq x.0 row.path.now ≡ b → row.old ≡ cond b x.1 mark.Absent → other_of P row ++ filter other (cond b es (x ∷ es)) ≡ filter other (x ∷ es)) [
        | true ↦ λ k h. ap (λ (zs : List (Path × Mark)). zs ++ filter other es) (some_other row x (same_paths x.0 row.path.now k) h) ∙ cond_cons (other x) x (filter other es)
        | false ↦ λ k h. ap (λ (zs : List (Path × Mark)). zs ++ filter other (x ∷ es)) (none_other row h)
      ] refl e

no_paths : (o : List (Path × Mark)) → paths_in o ≡ [] → o ≡ []
no_paths [] e = refl
no_paths (x ∷ o) e = cc

-- How far the merge has come: the marks that are left, of which the first one was taken.
pub record IsTabled (P : Parts) (O : Archive) (L R : List (Path × Sight)) (t : Table) (l r : List (Path × Sight)) (old : Option OldMark) (ms : List (Path × Mark)) : Type 0 where
  pub left_marks : List (Path × Mark)
  pub next : TakesFirst told_mark left_marks old ms
  pub merged : IsMerged P O L R t.rows.items l r left_marks
  pub others : told_marks t.others.items ++ filter (other P) left_marks ≡ filter (other P) (fin.entries O)

module _ (P : Parts) (O : Archive) (L R : List (Path × Sight)) where
  pub tabled_start : (t : Table) (l r : List (Path × Sight)) (old : Option OldMark) (ms all : List (Path × Mark)) → t.rows.items ≡ [] → t.others.items ≡ [] → l ≡ L → r ≡ R → all ≡ fin.entries O
      → TakesFirst told_mark all old ms → IsTrue (is_sorted path_cmp L) → IsTrue (is_sorted path_cmp R) → IsTabled P O L R t l r old ms
  tabled_start t l r old ms all rows others el er e next hl hr = record {
    left_marks = all;
    next = next;
    merged = start_on P O L R t.rows.items l r all rows el er e hl hr;
    others = ap (λ (os : List OldMark). told_marks os ++ filter (other P) all) others ∙ ap (filter (other P)) e;
  }

  module _ (t : Table) (l r : List (Path × Sight)) (old : Option OldMark) (ms : List (Path × Mark)) (w : IsTabled P O L R t l r old ms) where
    least_left : (o : Option Path) → least_first (seen_paths l) (seen_paths r) (paths_in (taken old)) ≡ o → least_first (seen_paths l) (seen_paths r) (paths_in w.left_marks) ≡ o
    least_left o e = ap (lesser (lesser (first_of (seen_paths l)) (first_of (seen_paths r)))) (sym (taken_first w.left_marks old ms w.next)) ∙ e

    pub tabled_rows : least_first (seen_paths l) (seen_paths r) (paths_in (taken old)) ≡ None → AreRowsOf (picture_view P O L R) t.rows.items
    tabled_rows e = merge_end P O L R t.rows.items l r w.left_marks w.merged (least_left None e)

    pub tabled_others : least_first (seen_paths l) (seen_paths r) (paths_in (taken old)) ≡ None → told_marks t.others.items ≡ filter (other P) (fin.entries O)
    tabled_others e =
        let none = no_paths w.left_marks (nothing_left (seen_paths l) (seen_paths r) (paths_in w.left_marks) (least_left None e)).2 in
        sym (append-nil (told_marks t.others.items)) ∙ (ap (λ (es : List (Path × Mark)). told_marks t.others.items ++ filter (other P) es) (sym none) ∙ w.others)

    module _ (row : Row) (q : Path) (same : row.path.now ≡ q) (least : least_first (seen_paths l) (seen_paths r) (paths_in (taken old)) ≡ Some q)
        (seen_left : IsSeen (front_sight q l) row.left) (seen_right : IsSeen (front_sight q r) row.right) (seen_old : row.old ≡ front_mark q (taken old)) where
      front : row.old ≡ front_mark q w.left_marks
      front = seen_old ∙ taken_front q w.left_marks old ms w.next

      pub tabled_more : (more : Table) (l2 r2 : List (Path × Sight)) (old2 : Option OldMark) (ms2 : List (Path × Mark)) → l2 ≡ past_sight q l → r2 ≡ past_sight q r
          → ((es : List (Path × Mark)) → TakesFirst told_mark es old ms → TakesFirst told_mark (past_of q es) old2 ms2)
          → more.rows.items ≡ t.rows.items ++ cond (is_counted P row) (row ∷ []) [] → told_marks more.others.items ≡ told_marks t.others.items ++ other_of P row
          → IsTabled P O L R more l2 r2 old2 ms2
      tabled_more more l2 r2 old2 ms2 el er passes rows others = record {
        left_marks = past_of q w.left_marks;
        next = passes w.left_marks w.next;
        merged = added_on P O L R t.rows.items l r w.left_marks w.merged row q same (least_left (Some q) least) seen_left seen_right front more.rows.items l2 r2 (past_of q w.left_marks) el er refl rows;
        others = ap (λ (es : List (Path × Mark)). es ++ filter (other P) (past_of q w.left_marks)) others
            ∙ (append_assoc (told_marks t.others.items) (other_of P row) (filter (other P) (past_of q w.left_marks))
            ∙ (ap (λ (es : List (Path × Mark)). told_marks t.others.items ++ es)
            (ap (λ z. other_of P row ++ filter (other P) (past_of z w.left_marks)) (sym same) ∙ others_step P row w.left_marks (front ∙ ap (λ z. front_mark z w.left_marks) (sym same)))
            ∙ w.others));
      }

-- Fewer are left.
pub fewer_left : (P : Parts) (O : Archive) (L R : List (Path × Sight)) (t : Table) (ls rs : List Look) (old : Option OldMark) (ms : List (Path × Mark)) (w : IsTabled P O L R t (told_by ls) (told_by rs) old ms) (q : Path)
    → least_first (seen_paths (told_by ls)) (seen_paths (told_by rs)) (paths_in (taken old)) ≡ Some q
    → (ls2 rs2 : List Look) (old2 : Option OldMark) (ms2 : List (Path × Mark)) → told_by ls2 ≡ past_sight q (told_by ls) → told_by rs2 ≡ past_sight q (told_by rs)
    → ((es : List (Path × Mark)) → TakesFirst told_mark es old ms → TakesFirst told_mark (past_of q es) old2 ms2)
    → length ls2 + length rs2 + (length (taken old2) + length ms2) < length ls + length rs + (length (taken old) + length ms)
fewer_left P O L R t ls rs old ms w q e ls2 rs2 old2 ms2 el er passes =
    let o = w.left_marks in
    let a = fewer ls rs (paths_in o) q (least_left P O L R t (told_by ls) (told_by rs) old ms w (Some q) e) ls2 rs2 (paths_in (past_of q o)) el er (past_in q o) in
    let b = taken_length o old ms w.next in
    let c = taken_length (past_of q o) old2 ms2 (passes o w.next) in
    omega (arith, a, b, c)

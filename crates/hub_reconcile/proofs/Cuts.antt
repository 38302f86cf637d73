-- The rows of a view, cut into groups.
use Rattle.std.proofs.Common.{Ordering, ◌≡◌, ℕ, zero, suc, ◌+◌, ◌<◌, Bool, true, false, cond, not, ◌&&◌, List, [], ◌∷◌, ◌++◌, length, take, drop, Option, Some, None, refl, ap, sym, ◌∙◌, subst, arith, append_assoc}
use Rattle.std.specs.Prelude.{filter, find, option_map}
use Rattle.std.specs.List.{prefix_len, take_while}
use Rattle.std.specs.List.Sorted.{IsStrictlySortedBy}
use Rattle.std.specs.Ordering.{eq_by_cmp, ordering_then, ordering_reverse}
use Rattle.std.specs.declared.cmp.Ordering.TheVariants.{Less, Equal, Greater}
use Rattle.std.proofs.lemmas.Bool.{false≢true, and_parts, and_from, or_left, or_right, not-true, false_from_ne_true}
use Rattle.std.proofs.lemmas.List.Elements.{filter-append}
use Rattle.std.proofs.lemmas.List.Folds.{length-prefix_len}
use Rattle.std.proofs.lemmas.List.Sums.{take_while-cons}
use Rattle.std.proofs.lemmas.Map.Keys.{sorted_tail}
use Rattle.std.proofs.Math.Bool.{and-false, and-true}
use Rattle.hub_path.specs.laws.General.{name_eq-decides, name_cmp-total, name_cmp-exact, path_cmp-over, is_over-reflexive}
use Rattle.hub_path.specs.Path.{Name, Path, name_eq, name_cmp, path_cmp, path_eq, is_over, prefixes}
use Rattle.hub_path.specs.declared.side.Side.TheVariants.{Left, Right}
use Rattle.hub_profile.specs.Parts.{some_passes}
use Rattle.hub_tree.specs.Below.{is_below}
use Rattle.hub_tree.specs.laws.Order.{path_itself}
use Rattle.hub_tree.specs.laws.Between.{among, among_filter, before, behind, among-none, not_both}
use Rattle.hub_reconcile.specs.forms.Groups.{IsCut, rows_below}
use Rattle.hub_reconcile.specs.Items.{differs, item_over, is_item, below, at_and_below}
use Rattle.hub_reconcile.specs.Rows.{IsRow, AreRows, AreRowsOf, is_different, paths_of}
use Rattle.hub_reconcile.specs.View.{View, mark_eq}
use Rattle.hub_reconcile.specs.declared.row.Row.{Row}
use Rattle.hub_reconcile.specs.laws.Over.{find_first, least}
use Rattle.hub_reconcile.specs.laws.Synced.{same_item}
use Rattle.hub_reconcile.specs.laws.Views.{same_paths, paths_same}

-- A path that is over another one is not behind it.
pub over_not_behind : (p y : Path) → path_cmp p y ≡ Less → is_over y p ≡ true → ⊥
over_not_behind p y l o =
    elim (path_eq y p) as (λ b. path_eq y p ≡ b → ⊥) [
      | true ↦ λ e. let w : path_cmp p p ≡ Less = ap (path_cmp p) (sym (same_paths y p e)) ∙ l in not_both p p w w
      | false ↦ λ e. not_both p y l (path_cmp-over y p o (λ same. false≢true (sym e ∙ (ap (λ z. path_eq z p) same ∙ paths_same p))))
    ] refl

-- What stands between a path and one that it is over, is below it.
convex_by : (n k : Name) (p x z : Path) (r : Ordering) → (path_cmp p x ≡ Less → path_cmp x z ≡ Less → is_over p x ≡ true) → name_cmp n k ≡ r
    → ordering_then r (path_cmp p x) ≡ Less → ordering_then (name_cmp k n) (path_cmp x z) ≡ Less → is_over (n ∷ p) (k ∷ x) ≡ true
convex_by n k p x z Less more e h g =
    let back : name_cmp k n ≡ Greater = name_cmp-total.antisymm k n ∙ ap ordering_reverse e in
    let w : Less ≡ Greater = sym g ∙ ap (λ r. ordering_then r (path_cmp x z)) back in
    cc
convex_by n k p x z Equal more e h g =
    let back : name_cmp k n ≡ Equal = name_cmp-total.antisymm k n ∙ ap ordering_reverse e in
    and_from (name_eq n k) (is_over p x) ((name_eq-decides n k).1 (name_cmp-exact n k e))
    (more h (sym (ap (λ r. ordering_then r (path_cmp x z)) back) ∙ g))
convex_by n k p x z Greater more e h g = cc

pub convex : (p x z : Path) → path_cmp p x ≡ Less → path_cmp x z ≡ Less → is_over p z ≡ true → is_over p x ≡ true
convex [] x z h g o = refl
convex (n ∷ p) [] z h g o = cc
convex (n ∷ p) (k ∷ x) [] h g o = cc
convex (n ∷ p) (k ∷ x) (m ∷ z) h g o =
    let heads = and_parts (name_eq n m) (is_over p z) o in
    let same : n ≡ m = (name_eq-decides n m).0 heads.0 in
    convex_by n k p x z (name_cmp n k) (λ a b. convex p x z a b heads.1) refl h (ap (λ y. ordering_then (name_cmp k y) (path_cmp x z)) same ∙ g)

-- A test that passes at no prefix of a path doesn't pass at the path.
some_not : (b : Bool) (x : Path) (o : Option Path) → cond b (Some x) o ≡ None → (b ≡ false) × (o ≡ None)
some_not true x o e = cc
some_not false x o e = (refl, e)

mapped_none : (n : Name) (o : Option Path) → option_map (λ q. n ∷ q) o ≡ None → o ≡ None
mapped_none n None e = refl
mapped_none n (Some q) e = cc

find_none : (f : Path → Bool) (p : Path) → 0 < length p → find f (prefixes p) ≡ None → f p ≡ false
find_none f [] l e = absurd (omega arith)
find_none f (n ∷ []) l e = (some_not (f (n ∷ [])) (n ∷ []) None e).0
find_none f (n ∷ m ∷ p) l e =
    find_none (λ q. f (n ∷ q)) (m ∷ p) (omega arith)
    (mapped_none n (find (λ q. f (n ∷ q)) (prefixes (m ∷ p))) (some_not (f (n ∷ [])) (n ∷ []) (option_map (λ q. n ∷ q) (find (λ q. f (n ∷ q)) (prefixes (m ∷ p)))) (sym (find_first f n (m ∷ p)) ∙ e)).1)

-- Lists.
pub filter_none : (g : Path → Bool) (zs : List Path) → ((z : Path) → among z zs ≡ true → g z ≡ false) → filter g zs ≡ []
filter_none g [] h = refl
filter_none g (z ∷ zs) h =
    ap (λ b. cond b (z ∷ filter g zs) (filter g zs)) (h z (or_left _ (among z zs) (path_itself z)))
    ∙ filter_none g zs (λ y e. h y (or_right (eq_by_cmp path_cmp y z) _ e))

skip_sorted : (p x : Path) (xs : List Path) → IsStrictlySortedBy path_cmp (p ∷ x ∷ xs) → IsStrictlySortedBy path_cmp (p ∷ xs)
unfolding IsStrictlySortedBy
skip_sorted p x xs s = (s.0.1, s.1.1)

pub back_sorted : (front rest : List Path) → IsStrictlySortedBy path_cmp (front ++ rest) → IsStrictlySortedBy path_cmp rest
back_sorted [] rest s = s
back_sorted (p ∷ front) rest s = back_sorted front rest (sorted_tail path_cmp p (front ++ rest) s)

in_drop : (x : Path) (n : ℕ) (rs : List Row) → among x (paths_of (drop n rs)) ≡ true → among x (paths_of rs) ≡ true
in_drop x zero rs e = e
in_drop x (suc n) [] e = e
in_drop x (suc n) (r ∷ rs) e = or_right (eq_by_cmp path_cmp x r.path.now) _ (in_drop x n rs e)

halves : (n : ℕ) (rs : List Row) → paths_of (take n rs) ++ paths_of (drop n rs) ≡ paths_of rs
halves zero rs = refl
halves (suc n) [] = refl
halves (suc n) (r ∷ rs) = ap (λ ps. r.path.now ∷ ps) (halves n rs)

pub take_rows : (V : View) (n : ℕ) (rs : List Row) → AreRows V rs → AreRows V (take n rs)
take_rows V zero rs a = tt
take_rows V (suc n) [] a = tt
take_rows V (suc n) (r ∷ rs) a = (a.0, take_rows V n rs a.1)

drop_rows : (V : View) (n : ℕ) (rs : List Row) → AreRows V rs → AreRows V (drop n rs)
drop_rows V zero rs a = a
drop_rows V (suc n) [] a = tt
drop_rows V (suc n) (r ∷ rs) a = drop_rows V n rs a.1

-- The rows below a path stand right behind it.
abbrev is_under : Path → Row → Bool
is_under p r = is_over p r.path.now

one_plus : (n : ℕ) → 1 + n ≡ suc n
one_plus n = omega arith

first_after : (p x : Path) (xs : List Path) → IsStrictlySortedBy path_cmp (p ∷ x ∷ xs) → path_cmp p x ≡ Less
first_after p x xs s = behind [] (x ∷ xs) p x s (or_left _ (among x xs) (path_itself x))

none_later : (p x : Path) (xs : List Path) → path_cmp p x ≡ Less → is_over p x ≡ false → IsStrictlySortedBy path_cmp (x ∷ xs) → (z : Path) → among z xs ≡ true → is_over p z ≡ false
none_later p x xs l away s z e = false_from_ne_true (is_over p z) (λ o. false≢true (sym away ∙ convex p x z l (behind [] xs x z s e) o))

run : (p : Path) (g : Path → Bool) → ((z : Path) → path_cmp p z ≡ Less → g z ≡ is_over p z) → (rs : List Row)
    → IsStrictlySortedBy path_cmp (p ∷ paths_of rs) → filter g (paths_of rs) ≡ paths_of (take_while (is_under p) rs)
run p g same [] s = refl
run p g same (r ∷ rs) s =
    let x = r.path.now in
    let l = first_after p x (paths_of rs) s in
    elim (is_over p x) as (λ b. is_over p x ≡ b → filter g (x ∷ paths_of rs) ≡ paths_of (take_while (is_under p) (r ∷ rs))) [
      | true ↦ λ e.
          ap (λ b. cond b (x ∷ filter g (paths_of rs)) (filter g (paths_of rs))) (same x l ∙ e)
          ∙ (ap (λ ps. x ∷ ps) (run p g same rs (skip_sorted p x (paths_of rs) s))
          ∙ sym (ap paths_of (take_while-cons (is_under p) r rs ∙ ap (λ b. cond b (r ∷ take_while (is_under p) rs) []) e)))
      | false ↦ λ e.
          ap (λ b. cond b (x ∷ filter g (paths_of rs)) (filter g (paths_of rs))) (same x l ∙ e)
          ∙ (filter_none g (paths_of rs) (λ z m.
          same z (behind [] (x ∷ paths_of rs) p z s (or_right (eq_by_cmp path_cmp z x) _ m))
          ∙ none_later p x (paths_of rs) l e (sorted_tail path_cmp p (x ∷ paths_of rs) s) z m)
          ∙ sym (ap paths_of (take_while-cons (is_under p) r rs ∙ ap (λ b. cond b (r ∷ take_while (is_under p) rs) []) e)))
    ] refl

rest_clear : (p : Path) (rs : List Row) → IsStrictlySortedBy path_cmp (p ∷ paths_of rs) → (z : Path) → among z (paths_of (drop (prefix_len (is_under p) rs) rs)) ≡ true → is_over p z ≡ false
rest_clear p [] s z e = absurd (false≢true e)
rest_clear p (r ∷ rs) s z e =
    let x = r.path.now in
    elim (is_over p x) as (λ b. is_over p x ≡ b → among z (paths_of (drop (cond b (1 + prefix_len (is_under p) rs) 0) (r ∷ rs))) ≡ true → is_over p z ≡ false) [
      | true ↦ λ o m.
          rest_clear p rs (skip_sorted p x (paths_of rs) s) z
          (ap (λ n. among z (paths_of (drop n (r ∷ rs)))) (sym (one_plus (prefix_len (is_under p) rs))) ∙ m)
      | false ↦ λ o m.
          false_from_ne_true (is_over p z) (λ u.
          among-none z x [] (paths_of rs) (λ k. false≢true k) (λ k. false≢true (sym o ∙ (ap (is_over p) (sym k) ∙ u)))
          (λ k. false≢true (sym (none_later p x (paths_of rs) (first_after p x (paths_of rs) s) o (sorted_tail path_cmp p (x ∷ paths_of rs) s) z k) ∙ u)) m)
    ] refl e

below_less : (p z : Path) → path_cmp p z ≡ Less → is_below p z ≡ is_over p z
below_less p z l =
    let apart : path_eq p z ≡ false = false_from_ne_true (path_eq p z) (λ e. let w : path_cmp p p ≡ Less = ap (path_cmp p) (same_paths p z e) ∙ l in not_both p p w w) in
    ap (λ b. is_over p z && not b) apart ∙ and-true (is_over p z)

module _ (V : View) (sorted : IsStrictlySortedBy path_cmp V.paths) (holds : (y : Path) → differs V y ≡ true → among y V.paths ≡ true) (names : (q : Path) → V.reached q ≡ true → 0 < length q) where
  pub differs_row : (r : Row) → IsRow V r → differs V r.path.now ≡ is_different r
  differs_row r row =
      ap (λ b. b && not (mark_eq (V.mark Left r.path.now) (V.mark Right r.path.now))) row.reached
      ∙ (λ i. not (mark_eq (sym row.left i) (sym row.right i)))

  item_itself : (y : Path) → item_over V y ≡ Some y → is_item V y ≡ true
  item_itself y e = ap (some_passes (path_eq y)) e ∙ paths_same y

  module _ (front : List Path) (r : Row) (rs : List Row) (c : IsCut V front (r ∷ rs)) where
    abbrev p : Path
    p = r.path.now

    abbrev f : Row → Bool
    f x = is_under p x

    abbrev tops : List Row
    tops = take_while f rs

    whole : IsStrictlySortedBy path_cmp (front ++ p ∷ paths_of rs)
    whole = subst (λ (ps : List Path). IsStrictlySortedBy path_cmp ps) (sym c.paths) sorted

    tail : IsStrictlySortedBy path_cmp (p ∷ paths_of rs)
    tail = back_sorted front (p ∷ paths_of rs) whole

    here : among p (paths_of (r ∷ rs)) ≡ true
    here = or_left _ (among p (paths_of rs)) (path_itself p)

    -- No other item is over the first row.
    only_itself : (y : Path) → item_over V p ≡ Some y → y ≡ p
    only_itself y e =
        let w = least (differs V) p y e in
        elim (path_eq y p) as (λ b. path_eq y p ≡ b → y ≡ p) [
          | true ↦ λ h. same_paths y p h
          | false ↦ λ h.
              absurd (among-none y p front (paths_of rs)
              (λ m. false≢true (sym (c.clear y p m (item_itself y w.itself) here) ∙ w.over))
              (λ is. false≢true (sym h ∙ (ap (λ z. path_eq z p) is ∙ paths_same p)))
              (λ m. over_not_behind p y (behind front (paths_of rs) p y whole m) w.over)
              (ap (among y) c.paths ∙ holds y w.passes))
        ] refl

    pub no_item : is_different r ≡ false → item_over V p ≡ None
    no_item d =
        elim (item_over V p) as (λ o. item_over V p ≡ o → o ≡ None) [
          | None ↦ λ e. refl
          | Some y ↦ λ e.
              let w = least (differs V) p y e in
              let same : differs V p ≡ true = ap (differs V) (sym (only_itself y e)) ∙ w.passes in
              absurd (false≢true (sym d ∙ (sym (differs_row r c.rows.0) ∙ same)))
        ] refl

    pub over_first : is_different r ≡ true → item_over V p ≡ Some p
    over_first d =
        elim (item_over V p) as (λ o. item_over V p ≡ o → o ≡ Some p) [
          | None ↦ λ e. absurd (false≢true (sym (find_none (differs V) p (names p c.rows.0.reached) e) ∙ (differs_row r c.rows.0 ∙ d)))
          | Some y ↦ λ e. ap (λ z. Some z) (only_itself y e)
        ] refl

    pub first_item : is_different r ≡ true → is_item V p ≡ true
    first_item d = item_itself p (over_first d)

    front_not : (g : Path → Bool) → ((z : Path) → is_over p z ≡ false → g z ≡ false) → filter g front ≡ []
    front_not g away = filter_none g front (λ z e. away z (false_from_ne_true (is_over p z) (λ o. over_not_behind z p (before front (paths_of rs) p z whole e) o)))

    all_of : (g : Path → Bool) (b : Bool) → g p ≡ b → ((z : Path) → is_over p z ≡ false → g z ≡ false) → ((z : Path) → path_cmp p z ≡ Less → g z ≡ is_over p z)
        → filter g V.paths ≡ cond b (p ∷ paths_of tops) (paths_of tops)
    all_of g b e away same =
        ap (filter g) (sym c.paths)
        ∙ (filter-append g front (p ∷ paths_of rs)
        ∙ (ap (λ xs. xs ++ filter g (p ∷ paths_of rs)) (front_not g away)
        ∙ (ap (λ b. cond b (p ∷ filter g (paths_of rs)) (filter g (paths_of rs))) e
        ∙ ap (λ ps. cond b (p ∷ ps) ps) (run p g same rs tail))))

    pub is_below_tops : paths_of tops ≡ below V p
    is_below_tops =
        sym (all_of (is_below p) false (ap (λ b. is_over p p && not b) (paths_same p) ∙ and-false (is_over p p))
        (λ z e. ap (λ b. b && not (path_eq p z)) e) (below_less p))

    pub is_all_tops : paths_of (r ∷ tops) ≡ at_and_below V p
    is_all_tops = sym (all_of (is_over p) true (is_over-reflexive p) (λ z e. e) (λ z l. refl))

    -- What is in the group is no other item.
    no_item_in : is_different r ≡ true → (y : Path) → among y (paths_of tops) ≡ true → is_item V y ≡ true → ⊥
    no_item_in d y m is =
        let two = and_parts (is_below p y) (among y V.paths) (sym (among_filter y (is_below p) V.paths) ∙ (ap (among y) (sym is_below_tops) ∙ m)) in
        let parts = and_parts (is_over p y) (not (path_eq p y)) two.0 in
        let same : p ≡ y = same_item V p y y (first_item d) is parts.0 (is_over-reflexive y) in
        false≢true (sym (not-true (path_eq p y) parts.1) ∙ (ap (path_eq p) (sym same) ∙ paths_same p))

    in_rest : (x : Path) (n : ℕ) → among x (paths_of (drop n rs)) ≡ true → among x (paths_of (r ∷ rs)) ≡ true
    in_rest x n e = or_right (eq_by_cmp path_cmp x p) _ (in_drop x n rs e)

    behind_group : (n : ℕ) → length tops ≡ n → paths_of tops ++ paths_of (drop n rs) ≡ paths_of rs
    behind_group n e = ap (λ k. paths_of tops ++ paths_of (drop k rs)) (sym e ∙ length-prefix_len f rs) ∙ halves (prefix_len f rs) rs

    next_item : is_different r ≡ true → IsCut V (front ++ p ∷ paths_of tops) (drop (length tops) rs)
    next_item d = record {
      paths = append_assoc front (p ∷ paths_of tops) (paths_of (drop (length tops) rs)) ∙ (ap (λ ps. front ++ p ∷ ps) (behind_group (length tops) refl) ∙ c.paths);
      rows = drop_rows V (length tops) rs c.rows.1;
      clear = λ y x m is e.
          false_from_ne_true (is_over y x) (λ o.
          among-none y p front (paths_of tops)
          (λ k. false≢true (sym (c.clear y x k is (in_rest x (length tops) e)) ∙ o))
          (λ k. false≢true (sym (rest_clear p rs tail x (ap (λ n. among x (paths_of (drop n rs))) (sym (length-prefix_len f rs)) ∙ e)) ∙ (ap (λ z. is_over z x) (sym k) ∙ o)))
          (λ k. no_item_in d y k is) m);
    }

    next_path : is_different r ≡ false → IsCut V (front ++ p ∷ []) rs
    next_path d = record {
      paths = append_assoc front (p ∷ []) (paths_of rs) ∙ c.paths;
      rows = c.rows.1;
      clear = λ y x m is e.
          false_from_ne_true (is_over y x) (λ o.
          among-none y p front []
          (λ k. false≢true (sym (c.clear y x k is (or_right (eq_by_cmp path_cmp x p) _ e)) ∙ o))
          (λ k. false≢true (sym (ap (some_passes (path_eq p)) (no_item d)) ∙ (ap (is_item V) (sym k) ∙ is)))
          (λ k. false≢true k) m);
    }

    pub next : IsCut V (front ++ p ∷ paths_of (rows_below r rs)) (drop (length (rows_below r rs)) rs)
    next =
        elim (is_different r) as (λ b. is_different r ≡ b → IsCut V (front ++ p ∷ paths_of (cond b tops [])) (drop (length (cond b tops [])) rs)) [
          | true ↦ λ d. next_item d
          | false ↦ λ d. next_path d
        ] refl

pub cut_start : (V : View) (rs : List Row) → AreRowsOf V rs → IsCut V [] rs
cut_start V rs t = record { paths = t.paths; rows = t.rows; clear = λ y x m is e. absurd (false≢true m) }

-- A plan has at most as many changes as the two replicas have entries.
use Rattle.std.proofs.Common.{◌≡◌, ◌≤◌, ◌+◌, Bool, true, false, cond, not, ◌&&◌, List, [], ◌∷◌, length, map, refl, ap, sym, ◌∙◌, subst, arith, length-append}
use Rattle.std.specs.Prelude.{ℕ, filter, reverse}
use Rattle.std.specs.List.{flat_map}
use Rattle.std.specs.FinMap as fin
use Rattle.std.specs.Ordering.{eq_by_cmp}
use Rattle.std.proofs.lemmas.Bool.{false≢true, and_parts, or_left, or_right, false_from_ne_true}
use Rattle.std.proofs.lemmas.List.Filters.{length-filter_both}
use Rattle.std.proofs.lemmas.List.{reverse-append}
use Rattle.std.proofs.lemmas.List.Kept.{IsStrictlySortedBy-filter}
use Rattle.hub_path.specs.laws.General.{is_over-reflexive}
use Rattle.hub_path.specs.Path.{Path, path_cmp, is_over}
use Rattle.hub_path.specs.declared.side.Side.{Side}
use Rattle.hub_path.specs.declared.side.Side.TheVariants.{Left, Right}
use Rattle.hub_profile.specs.Parts.{Parts, IsProfile}
use Rattle.hub_reach.specs.Reach.{reach}
use Rattle.hub_tree.specs.Below.{is_below, under}
use Rattle.hub_tree.specs.Tree.{Replica, Archive, IsTree, contents_at, is_absent, is_directory}
use Rattle.hub_tree.specs.declared.contents.Mark.TheVariants as mark
use Rattle.hub_tree.specs.laws.Beneath.{below_over}
use Rattle.hub_tree.specs.laws.Order.{path_itself}
use Rattle.hub_tree.specs.laws.Replacing.{itself_not_below}
use Rattle.hub_tree.specs.laws.Between.{among}
use Rattle.hub_reconcile.specs.View.{View}
use Rattle.hub_reconcile.specs.Items.{other, differs, is_item, changes, change, changes_by, going, coming, fate, items, plan}
use Rattle.hub_reconcile.specs.declared.change.Change.{Change}
use Rattle.hub_reconcile.specs.declared.item.Fate.{Fate}
use Rattle.hub_reconcile.specs.declared.item.Fate.TheVariants.{To, Skip}
use Rattle.hub_reconcile.specs.laws.Views.{scene, paths_sorted, key_of}
use Rattle.hub_reconcile.specs.laws.Below.{Goes, goes, going_all, none_going, coming_is}
use Rattle.hub_reconcile.specs.laws.Steps.{differ, one_present, one_directory}
use Rattle.hub_reconcile.specs.laws.Synced.{Apart, items_apart, all_items, of_items, item_differs, flat_items}
use Rattle.hub_reconcile.specs.laws.Needed.{fewer, one_fewer, keys_length, filter_less}

length-mapped : (f : Path → Change) (xs : List Path) → length (map f xs) ≡ length xs
length-mapped f [] = refl
length-mapped f (x ∷ xs) = omega (arith, length-mapped f xs)

length-turned : (xs : List Path) → length (reverse xs) ≡ length xs
length-turned [] = refl
length-turned (x ∷ xs) =
    omega (
      arith,
      ap length (reverse-append (x ∷ []) xs),
      length-append (reverse xs) (x ∷ []),
      length-turned xs,
    )

changes_length : (V : View) (from : Side) (p : Path)
    → length (changes V from p) ≡ length (going V from p) + length (coming V from p) + 1
changes_length V from p =
    omega (
      arith,
      length-append (map (λ q. change (other from) q mark.Absent) (reverse (going V from p)))
          (change (other from) p (V.mark from p) ∷ map (λ q. change (other from) q (V.mark from q))
          (coming V from p)),
      length-mapped (λ q. change (other from) q mark.Absent) (reverse (going V from p)),
      length-turned (going V from p),
      length-mapped (λ q. change (other from) q (V.mark from q)) (coming V from p),
    )

-- The entries at a path and below it.
abbrev count : List Path → Path → ℕ
count us p = length (filter (is_over p) us)

stays : (f g : Path → Bool) (us : List Path) → ((u : Path) → f u ≡ true → g u ≡ true)
    → length (filter f us) ≤ length (filter f (filter g us))
stays f g [] h = omega arith
stays f g (u ∷ us) h =
    elim (g u) as (λ b. g u ≡ b
    → length (filter f (u ∷ us)) ≤ length (filter f (cond b (u ∷ filter g us) (filter g us)))) [
      | true ↦ λ e. elim (f u) as
          (λ c. length (cond c (u ∷ filter f us) (filter f us))
          ≤ length (cond c (u ∷ filter f (filter g us)) (filter f (filter g us)))) [
            | true ↦ omega (arith, stays f g us h)
            | false ↦ stays f g us h
          ]
      | false ↦ λ e.
          let none : f u ≡ false = false_from_ne_true (f u) (λ c. false≢true (sym e ∙ h u c)) in
          subst (λ c. length (cond c (u ∷ filter f us) (filter f us))
          ≤ length (filter f (filter g us))) (sym none) (stays f g us h)
    ] refl

abbrev total : List Path → List Path → ℕ
total us [] = 0
total us (p ∷ ps) = count us p + total us ps

total_stays : (us : List Path) (p : Path) (ps : List Path)
    → ((y q : Path) → among y ps ≡ true → is_over p q ≡ true → is_over y q ≡ true → ⊥)
    → total us ps ≤ total (filter (λ u. not (is_over p u)) us) ps
total_stays us p [] apart = omega arith
total_stays us p (x ∷ ps) apart =
    omega (
      arith,
      stays (is_over x) (λ u. not (is_over p u)) us
          (λ u o. ap not
          (false_from_ne_true (is_over p u)
          (λ h. apart x u (or_left _ (among x ps) (path_itself x)) h o))),
      total_stays us p ps (λ y q e. apart y q (or_right (eq_by_cmp path_cmp y x) _ e)),
    )

total_within : (us ps : List Path) → Apart ps → total us ps ≤ length us
total_within us [] apart = omega arith
total_within us (p ∷ ps) apart =
    omega (
      arith,
      total_stays us p ps apart.0,
      total_within (filter (λ u. not (is_over p u)) us) ps apart.1,
      length-filter_both (is_over p) (λ u. not (is_over p u)) (λ u. refl) us,
    )

under_count : (m : Replica) (p : Path) → length (under m p) ≤ count (fin.keys m) p
under_count m p =
    fewer (is_over p) (λ q. is_below p q && not (is_absent (contents_at m q))) (fin.keys m)
    (λ u e. below_over p u (and_parts (is_below p u) (not (is_absent (contents_at m u))) e).0)

under_more : (m : Replica) (p : Path) → among p (fin.keys m) ≡ true
    → length (under m p) + 1 ≤ count (fin.keys m) p
under_more m p e =
    one_fewer (is_over p) (λ q. is_below p q && not (is_absent (contents_at m q))) (fin.keys m) p
    (λ u e. below_over p u (and_parts (is_below p u) (not (is_absent (contents_at m u))) e).0)
    (is_over-reflexive p) (ap (λ b. b && not (is_absent (contents_at m p))) (itself_not_below p)) e

module _ (P : Parts) (facts : IsProfile P) (A B : Replica) (O : Archive) (left : IsTree A)
    (right : IsTree B) where
  open scene P A B O use {replica as R, view as V}

  abbrev both : Path → ℕ
  both p = count (fin.keys A) p + count (fin.keys B) p

  going_within : (k : Side) (p : Path) (b : Bool) → reach P p ≡ true → Goes V p k
      → differs V p ≡ true → is_directory (contents_at (R (other k)) p) ≡ b
      → length (going V (other k) p) ≤ length (under (R k) p)
  going_within k p true h g d e = let none =
      ap length (none_going P A B O left right k p (one_directory P facts A B O left right k p d e))
      in omega (arith, none)
  going_within k p false h g d e = let all = ap length (going_all P A B O left right k p h g e) in
      omega (arith, all)

  coming_within : (k : Side) (p : Path) → length (coming V k p) ≤ length (under (R k) p)
  coming_within k p = let is = ap length (coming_is P A B O left right k p) in
      omega (arith, is, filter_less (reach P) (under (R k) p))

  sum_by_side : (k : Side) (p : Path) → count (fin.keys (R k)) p + count (fin.keys (R (other k))) p
      ≡ both p
  sum_by_side Left p = refl
  sum_by_side Right p = omega arith

  group_within : (k : Side) (p : Path) (b : Bool) → is_item V p ≡ true → Goes V p k
      → is_absent (contents_at (R k) p) ≡ b → length (changes V (other k) p) ≤ both p
  group_within k p true is g e =
      let d = item_differs V p is in
      let h = (differ P facts A B O left right p d).0 in
      let there = key_of P A B O (other k) p h
      (sym (ap (λ b. b && is_absent (contents_at (R (other k)) p)) e)
      ∙ one_present P facts A B O left right k p d) in
      omega (
        arith,
        changes_length V (other k) p,
        going_within k p (is_directory (contents_at (R (other k)) p)) h g d refl,
        coming_within (other k) p,
        under_count (R k) p,
        under_more (R (other k)) p there,
        sum_by_side k p,
      )
  group_within k p false is g e =
      let d = item_differs V p is in
      let h = (differ P facts A B O left right p d).0 in
      omega (
        arith,
        changes_length V (other k) p,
        going_within k p (is_directory (contents_at (R (other k)) p)) h g d refl,
        coming_within (other k) p,
        under_more (R k) p (key_of P A B O k p h e),
        under_count (R (other k)) p,
        sum_by_side k p,
      )

  item_within : (p : Path) (f : Fate) → fate V p ≡ f → is_item V p ≡ true
      → length (changes_by V p f) ≤ both p
  item_within p (To k) e is =
      group_within k p (is_absent (contents_at (R k) p)) is (goes V p k e) refl
  item_within p (Skip why) e is = omega arith

  items_within : (ps : List Path) → ((x : Path) → among x ps ≡ true → is_item V x ≡ true)
      → length (flat_map (λ x. changes_by V x (fate V x)) ps) ≤ total (fin.keys A) ps + total
      (fin.keys B) ps
  items_within [] is = omega arith
  items_within (p ∷ ps) is =
      omega (
        arith,
        length-append (changes_by V p (fate V p)) (flat_map (λ x. changes_by V x (fate V x)) ps),
        item_within p (fate V p) refl (is p (or_left _ (among p ps) (path_itself p))),
        items_within ps (λ x e. is x (or_right (eq_by_cmp path_cmp x p) _ e)),
      )

  pub plan_within : length (plan V) ≤ fin.len A + fin.len B
  unfolding plan items
  plan_within =
      let ps = all_items P facts A B O left right in
      let apart = items_apart V ps
      (IsStrictlySortedBy-filter path_cmp (is_item V) V.paths (paths_sorted P A B O))
      (of_items P facts A B O left right) in
      let same = ap length (flat_items V ps) in
      omega (
        arith,
        same,
        items_within ps (of_items P facts A B O left right),
        total_within (fin.keys A) ps apart,
        total_within (fin.keys B) ps apart,
        keys_length A,
        keys_length B,
      )

-- What the groups of a view say of its items, of their changes and of the new archive.
use Rattle.std.proofs.Common.{◌≡◌, ◌<◌, Bool, true, false, cond, not, ◌&&◌, ◌||◌, List, [], ◌∷◌, ◌++◌, map, length, Option, Some, None, refl, ap, sym, ◌∙◌, append-nil}
use Rattle.std.specs.Prelude.{filter, reverse, fold, option_map}
use Rattle.std.specs.List.{flat_map}
use Rattle.std.specs.Ordering.{eq_by_cmp}
use Rattle.std.proofs.lemmas.Bool.{false≢true, and_parts, not-true, false_from_ne_true}
use Rattle.std.proofs.lemmas.List.{reverse-append}
use Rattle.std.proofs.lemmas.List.Concat.{flat_map-append}
use Rattle.std.proofs.lemmas.List.Elements.{filter-append}
use Rattle.hub_reconcile.proofs.Cuts.{filter_none}
use Rattle.hub_path.specs.laws.General.{is_over-reflexive}
use Rattle.hub_path.specs.Path.{Path, path_cmp, path_eq, is_over}
use Rattle.hub_path.specs.declared.side.Side.{Side}
use Rattle.hub_path.specs.declared.side.Side.TheVariants.{Left, Right}
use Rattle.hub_profile.specs.Parts.{some_passes}
use Rattle.hub_tree.specs.Below.{is_below}
use Rattle.hub_tree.specs.declared.contents.Mark.{Mark}
use Rattle.hub_tree.specs.declared.contents.Mark.TheVariants as mark
use Rattle.hub_tree.specs.laws.Order.{same_path}
use Rattle.hub_tree.specs.laws.Between.{among, among_filter}
use Rattle.hub_reconcile.specs.forms.Groups.{IsFated, AreGroups, IsPartition, group_paths, item_by, group_items, row_comes, going_rows, coming_rows, changes_fated, group_changes, mark_fated, HaveNames, HaveAllNames}
use Rattle.hub_reconcile.specs.Items.{other, differs, item_over, is_item, fate, below, change, going, coming, changes, changes_by, items, plan}
use Rattle.hub_reconcile.specs.Rows.{IsRow, AreRows, mark_on, is_going, is_coming, paths_of}
use Rattle.hub_reconcile.specs.Sync.{fate_over, mark_under, synced_mark}
use Rattle.hub_reconcile.specs.View.{View, is_present}
use Rattle.hub_reconcile.specs.declared.group.Group.{Group}
use Rattle.hub_reconcile.specs.declared.change.Change.{Change}
use Rattle.hub_reconcile.specs.declared.item.Fate.{Fate}
use Rattle.hub_reconcile.specs.declared.item.Fate.TheVariants.{To, Skip}
use Rattle.hub_reconcile.specs.declared.item.Item.{Item}
use Rattle.hub_reconcile.specs.declared.row.Row.{Row}
use Rattle.hub_reconcile.specs.laws.Over.{find-longer}
use Rattle.hub_reconcile.specs.laws.Synced.{over_itself, same_item}
use Rattle.hub_reconcile.specs.laws.Views.{paths_same}

pub map-append : {X Y : Type 0} (h : X → Y) (xs ys : List X) → map h (xs ++ ys) ≡ map h xs ++ map h ys
map-append h [] ys = refl
map-append h (x ∷ xs) ys = ap (λ zs. h x ∷ zs) (map-append h xs ys)

map-map : {X Y Z : Type 0} (g : Y → Z) (h : X → Y) (xs : List X) → map g (map h xs) ≡ map (λ x. g (h x)) xs
map-map g h [] = refl
map-map g h (x ∷ xs) = ap (λ zs. g (h x) ∷ zs) (map-map g h xs)

flat_map-flat_map : {X Y Z : Type 0} (g : Y → List Z) (h : X → List Y) (xs : List X) → flat_map g (flat_map h xs) ≡ flat_map (λ x. flat_map g (h x)) xs
flat_map-flat_map g h [] = refl
flat_map-flat_map g h (x ∷ xs) = flat_map-append g (h x) (flat_map h xs) ∙ ap (λ zs. flat_map g (h x) ++ zs) (flat_map-flat_map g h xs)

pub fold-append : {X Y : Type 0} (g : Y → X → Y) (y : Y) (xs zs : List X) → fold g y (xs ++ zs) ≡ fold g (fold g y xs) zs
fold-append g y [] zs = refl
fold-append g y (x ∷ xs) zs = fold-append g (g y x) xs zs

-- Rows and their paths.
paths-filter : (V : View) (f : Row → Bool) (g : Path → Bool) → ((r : Row) → IsRow V r → f r ≡ g r.path.now) → (rs : List Row) → AreRows V rs → paths_of (filter f rs) ≡ filter g (paths_of rs)
paths-filter V f g same [] a = refl
paths-filter V f g same (r ∷ rs) a =
    ap (λ b. paths_of (cond b (r ∷ filter f rs) (filter f rs))) (same r a.0)
    ∙ (elim (g r.path.now) as (λ b. paths_of (cond b (r ∷ filter f rs) (filter f rs)) ≡ cond b (r.path.now ∷ filter g (paths_of rs)) (filter g (paths_of rs))) [
      | true ↦ ap (λ ps. r.path.now ∷ ps) (paths-filter V f g same rs a.1)
      | false ↦ paths-filter V f g same rs a.1
    ])

rows-filter : (V : View) (f : Row → Bool) (rs : List Row) → AreRows V rs → AreRows V (filter f rs)
rows-filter V f [] a = tt
rows-filter V f (r ∷ rs) a =
    elim (f r) as (λ b. AreRows V (cond b (r ∷ filter f rs) (filter f rs))) [ true ↦ (a.0, rows-filter V f rs a.1) | false ↦ rows-filter V f rs a.1 ]

pub paths-push : (xs : List Row) (r : Row) → paths_of (xs ++ r ∷ []) ≡ paths_of xs ++ r.path.now ∷ []
paths-push xs r = map-append (λ (x : Row). x.path.now) xs (r ∷ [])

paths-reverse : (xs : List Row) → paths_of (reverse xs) ≡ reverse (paths_of xs)
paths-reverse [] = refl
paths-reverse (r ∷ xs) =
    ap paths_of (reverse-append (r ∷ []) xs) ∙ (paths-push (reverse xs) r ∙ (ap (λ ps. ps ++ r.path.now ∷ []) (paths-reverse xs) ∙ sym (reverse-append (r.path.now ∷ []) (paths_of xs))))

abbrev made : Path → Fate → Item
made p f = record { path = p; fate = f }

module _ (V : View) where
  pub mark_row : (k : Side) (r : Row) → IsRow V r → mark_on k r ≡ V.mark k r.path.now
  mark_row Left r row = row.left
  mark_row Right r row = row.right

  abbrev item_at : Path → Item
  item_at p = made p (fate V p)

  -- Items.
  under_not : (p : Path) → is_item V p ≡ true → (y : Path) → among y (below V p) ≡ true → is_item V y ≡ false
  under_not p is y m =
      let two = and_parts (is_below p y) (among y V.paths) (sym (among_filter y (is_below p) V.paths) ∙ m) in
      let parts = and_parts (is_over p y) (not (path_eq p y)) two.0 in
      false_from_ne_true (is_item V y) (λ h.
      let same : p ≡ y = same_item V p y y is h parts.0 (is_over-reflexive y) in
      false≢true (sym (not-true (path_eq p y) parts.1) ∙ (ap (path_eq p) (sym same) ∙ paths_same p)))

  fated_items : (p : Path) (ps : List Path) (f : Option Fate) → IsFated V p ps f → item_by p f ≡ map item_at (filter (is_item V) (p ∷ ps))
  fated_items p ps None h =
      sym (ap (λ b. map item_at (cond b (p ∷ filter (is_item V) ps) (filter (is_item V) ps))) (ap (some_passes (path_eq p)) h.1)
      ∙ ap (λ qs. map item_at (filter (is_item V) qs)) h.0)
  fated_items p ps (Some f) h =
      sym (ap (λ b. map item_at (cond b (p ∷ filter (is_item V) ps) (filter (is_item V) ps))) h.1
      ∙ ((λ i. made p (h.2 i) ∷ map item_at (filter (is_item V) (h.0 i)))
      ∙ ap (λ qs. made p f ∷ map item_at qs) (filter_none (is_item V) (below V p) (under_not p h.1))))

  groups_items : (bs : List Group) → AreGroups V bs → flat_map group_items bs ≡ map item_at (filter (is_item V) (flat_map group_paths bs))
  groups_items [] a = refl
  groups_items (b ∷ bs) a =
      (λ i. fated_items b.first.now.path.now (paths_of b.below.now) b.fate a.0.fated i ++ groups_items bs a.1 i)
      ∙ (sym (map-append item_at (filter (is_item V) (group_paths b)) (filter (is_item V) (flat_map group_paths bs)))
      ∙ ap (map item_at) (sym (filter-append (is_item V) (group_paths b) (flat_map group_paths bs))))

  pub partition_items : (bs : List Group) → IsPartition V bs → flat_map group_items bs ≡ items V
  unfolding items
  partition_items bs w = groups_items bs w.groups ∙ ap (λ ps. map item_at (filter (is_item V) ps)) w.paths

  -- Changes.
  going_row : (from : Side) (r : Row) → IsRow V r → is_going from r ≡ (is_present (V.mark (other from) r.path.now) && not (is_present (V.mark from r.path.now)))
  going_row from r row = λ i. is_present (mark_row (other from) r row i) && not (is_present (mark_row from r row i))

  coming_row : (from : Side) (r : Row) → IsRow V r → is_coming from r ≡ is_present (V.mark from r.path.now)
  coming_row from r row = ap is_present (mark_row from r row)

  going_same : (from : Side) (p : Path) (rs : List Row) → AreRows V rs → paths_of rs ≡ below V p → going_rows from rs ≡ map (λ q. change (other from) q mark.Absent) (reverse (going V from p))
  going_same from p rs a e =
      sym (map-map (λ q. change (other from) q mark.Absent) (λ (r : Row). r.path.now) (reverse (filter (is_going from) rs)))
      ∙ ap (map (λ q. change (other from) q mark.Absent))
      (paths-reverse (filter (is_going from) rs)
      ∙ ap reverse
      (paths-filter V (is_going from) (λ q. is_present (V.mark (other from) q) && not (is_present (V.mark from q))) (going_row from) rs a
      ∙ ap (filter (λ q. is_present (V.mark (other from) q) && not (is_present (V.mark from q)))) e))

  comes_same : (from : Side) (rs : List Row) → AreRows V rs → map (row_comes from) rs ≡ map (λ q. change (other from) q (V.mark from q)) (paths_of rs)
  comes_same from [] a = refl
  comes_same from (r ∷ rs) a = λ i. change (other from) r.path.now (mark_row from r a.0 i) ∷ comes_same from rs a.1 i

  coming_same : (from : Side) (p : Path) (rs : List Row) → AreRows V rs → paths_of rs ≡ below V p → coming_rows from rs ≡ map (λ q. change (other from) q (V.mark from q)) (coming V from p)
  coming_same from p rs a e =
      comes_same from (filter (is_coming from) rs) (rows-filter V (is_coming from) rs a)
      ∙ ap (map (λ q. change (other from) q (V.mark from q)))
      (paths-filter V (is_coming from) (λ q. is_present (V.mark from q)) (coming_row from) rs a
      ∙ ap (filter (λ q. is_present (V.mark from q))) e)

  abbrev change_list : Item → List Change
  change_list x = changes_by V x.path x.fate

  fated_changes : (r : Row) (rs : List Row) (f : Option Fate) → AreRows V (r ∷ rs) → IsFated V r.path.now (paths_of rs) f → changes_fated r rs f ≡ flat_map change_list (item_by r.path.now f)
  fated_changes r rs None a h = refl
  fated_changes r rs (Some (Skip why)) a h = refl
  fated_changes r rs (Some (To side)) a h =
      (λ i. going_same (other side) r.path.now rs a.1 h.0 i ++ change (other (other side)) r.path.now (mark_row (other side) r a.0 i) ∷ coming_same (other side) r.path.now rs a.1 h.0 i)
      ∙ sym (append-nil (changes V (other side) r.path.now))

  groups_changes : (bs : List Group) → AreGroups V bs → flat_map group_changes bs ≡ flat_map (λ b. flat_map change_list (group_items b)) bs
  groups_changes [] a = refl
  groups_changes (b ∷ bs) a = λ i. fated_changes b.first.now b.below.now b.fate a.0.rows a.0.fated i ++ groups_changes bs a.1 i

  pub partition_changes : (bs : List Group) → IsPartition V bs → flat_map group_changes bs ≡ plan V
  unfolding plan
  partition_changes bs w =
      groups_changes bs w.groups ∙ (sym (flat_map-flat_map change_list group_items bs) ∙ ap (flat_map change_list) (partition_items bs w))

  -- The archive.
  reached_mark : (p : Path) (b : Bool) (m n : Mark) → b ≡ true → m ≡ cond b m n
  reached_mark p true m n e = refl
  reached_mark p false m n e = absurd (false≢true e)

  fate_mark : (r : Row) (f : Option Fate) → IsRow V r → mark_fated f r ≡ mark_under V r.path.now f
  fate_mark r None row = row.left
  fate_mark r (Some (To side)) row = mark_row (other side) r row
  fate_mark r (Some (Skip why)) row = row.old

  pub row_mark : (r : Row) (f : Option Fate) → IsRow V r → fate_over V r.path.now ≡ f → mark_fated f r ≡ synced_mark V r.path.now
  row_mark r f row e =
      fate_mark r f row ∙ (ap (mark_under V r.path.now) (sym e) ∙ reached_mark r.path.now (V.reached r.path.now) (mark_under V r.path.now (fate_over V r.path.now)) (V.old r.path.now) row.reached)

  or_no : (b : Bool) → (b || false) ≡ b
  or_no true = refl
  or_no false = refl

  over_group : (p q : Path) → among q (p ∷ below V p) ≡ true → is_over p q ≡ true
  over_group p q e =
      elim (eq_by_cmp path_cmp q p) as (λ b. eq_by_cmp path_cmp q p ≡ b → (b || among q (below V p)) ≡ true → is_over p q ≡ true) [
        | true ↦ λ h m. ap (is_over p) (same_path q p h) ∙ is_over-reflexive p
        | false ↦ λ h m.
            let two = and_parts (is_below p q) (among q V.paths) (sym (among_filter q (is_below p) V.paths) ∙ m) in
            (and_parts (is_over p q) (not (path_eq p q)) two.0).0
      ] refl e

  pub fate_at : (p : Path) (ps : List Path) (f : Option Fate) → IsFated V p ps f → (q : Path) → among q (p ∷ ps) ≡ true → fate_over V q ≡ f
  fate_at p ps None h q e =
      let only : among q (p ∷ []) ≡ true = ap (λ qs. among q (p ∷ qs)) (sym h.0) ∙ e in
      ap (option_map (fate V)) (ap (item_over V) (same_path q p (sym (or_no (eq_by_cmp path_cmp q p)) ∙ only)) ∙ h.1)
  fate_at p ps (Some f) h q e =
      let low : among q (p ∷ below V p) ≡ true = ap (λ qs. among q (p ∷ qs)) (sym h.0) ∙ e in
      ap (option_map (fate V)) (find-longer (differs V) p q p (over_group p q low) (over_itself V p h.1)) ∙ ap (λ x. Some x) h.2

  -- No row is of the whole replica.
  module _ (names : (q : Path) → V.reached q ≡ true → 0 < length q) where
    have_names : (rs : List Row) → AreRows V rs → HaveNames rs
    have_names [] a = tt
    have_names (r ∷ rs) a = (names r.path.now a.0.reached, have_names rs a.1)

    pub have_all_names : (bs : List Group) → AreGroups V bs → HaveAllNames bs
    have_all_names [] a = tt
    have_all_names (b ∷ bs) a = (have_names (b.first.now ∷ b.below.now) a.0.rows, have_all_names bs a.1)

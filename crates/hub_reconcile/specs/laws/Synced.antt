-- What the changes of all items leave on a side.
use Rattle.std.proofs.Common.{◌≡◌, Bool, true, false, cond, ◌&&◌, ◌||◌, List, [], ◌∷◌, ◌++◌, map, Option, Some, None, refl, ap, sym, ◌∙◌}
use Rattle.std.specs.Prelude.{filter, reverse, option_map}
use Rattle.std.specs.List.{list_any, flat_map}
use Rattle.std.specs.Option.{option_and_then}
use Rattle.std.specs.List.Sorted.{IsStrictlySortedBy}
use Rattle.std.specs.Ordering.{eq_by_cmp}
use Rattle.std.specs.declared.cmp.Ordering.TheVariants.{Less}
use Rattle.std.proofs.lemmas.Bool.{false≢true, and_parts, and_from, or_left, or_right, false_from_ne_true, true_from_ne_false}
use Rattle.std.proofs.lemmas.Option.{same_Some}
use Rattle.std.proofs.lemmas.Map.Keys.{sorted_tail}
use Rattle.std.proofs.lemmas.List.Kept.{IsStrictlySortedBy-filter}
use Rattle.std.specs.Cmp.{both_ways}
use Rattle.hub_path.specs.laws.General.{is_over-reflexive, is_over-transitive, is_over-parent}
use Rattle.hub_path.specs.Path.{Path, path_cmp, path_eq, is_over, parent}
use Rattle.hub_path.specs.declared.side.Side.{Side}
use Rattle.hub_path.specs.declared.side.Side.TheVariants.{Left, Right}
use Rattle.hub_profile.specs.Parts.{Parts, IsProfile, some_passes}
use Rattle.hub_reach.specs.Reach.{reach}
use Rattle.hub_tree.specs.Sets.{sets, each}
use Rattle.hub_tree.specs.Tree.{Replica, Archive, IsTree, contents_at, is_absent}
use Rattle.hub_tree.specs.declared.contents.Contents.{Contents}
use Rattle.hub_tree.specs.declared.contents.Mark.{Mark}
use Rattle.hub_tree.specs.declared.contents.Mark.TheVariants as mark
use Rattle.hub_tree.specs.laws.Between.{among, among_filter, behind, not_both}
use Rattle.hub_tree.specs.laws.Order.{path_itself}
use Rattle.hub_tree.specs.laws.Runs.{sets-append}
use Rattle.hub_reconcile.specs.View.{View}
use Rattle.hub_reconcile.specs.Items.{other, differs, item_over, is_item, changes, change, changes_by, going, coming, fate, items, plan}
use Rattle.hub_reconcile.specs.Sides.{side_eq, paths_on}
use Rattle.hub_reconcile.specs.Sync.{fate_over, giver, synced_contents}
use Rattle.hub_reconcile.specs.declared.change.Change.{Change}
use Rattle.hub_reconcile.specs.declared.item.Fate.{Fate}
use Rattle.hub_reconcile.specs.declared.item.Fate.TheVariants.{To, Skip}
use Rattle.hub_reconcile.specs.declared.item.Item.{Item}
use Rattle.hub_reconcile.specs.laws.Each.{none_at}
use Rattle.hub_reconcile.specs.laws.Over.{find-longer, least}
use Rattle.hub_reconcile.specs.laws.Views.{scene, same_paths, paths_same, paths_sorted, in_paths}
use Rattle.hub_reconcile.specs.laws.Below.{Goes, goes, trees}
use Rattle.hub_reconcile.specs.laws.Steps.{step, each-append, one_present, differ}

-- The paths that changes set on a side.
pub paths_on-append : (k : Side) (xs ys : List Change) → paths_on k (xs ++ ys) ≡ paths_on k xs
    ++ paths_on k ys
paths_on-append k [] ys = refl
paths_on-append k (c ∷ xs) ys =
    elim (side_eq c.side k) as
    (λ b. map (λ c. c.path)
    (cond b (c ∷ filter (λ c. side_eq c.side k) (xs ++ ys))
    (filter (λ c. side_eq c.side k) (xs ++ ys)))
    ≡ map (λ c. c.path)
    (cond b (c ∷ filter (λ c. side_eq c.side k) xs) (filter (λ c. side_eq c.side k) xs))
    ++ paths_on k ys) [
      | true ↦ ap (λ ps. c.path ∷ ps) (paths_on-append k xs ys)
      | false ↦ paths_on-append k xs ys
    ]

side_paths : (side k : Side) (m : Path → Mark) (xs : List Path)
    → paths_on k (map (λ q. change side q (m q)) xs) ≡ cond (side_eq side k) xs []
side_paths Left Left m [] = refl
side_paths Left Left m (x ∷ xs) = ap (λ ps. x ∷ ps) (side_paths Left Left m xs)
side_paths Left Right m [] = refl
side_paths Left Right m (x ∷ xs) = side_paths Left Right m xs
side_paths Right Left m [] = refl
side_paths Right Left m (x ∷ xs) = side_paths Right Left m xs
side_paths Right Right m [] = refl
side_paths Right Right m (x ∷ xs) = ap (λ ps. x ∷ ps) (side_paths Right Right m xs)

both_or_none : (b : Bool) (xs ys : List Path) → cond b xs [] ++ cond b ys [] ≡ cond b (xs ++ ys) []
both_or_none true xs ys = refl
both_or_none false xs ys = refl

group_paths : (V : View) (from k : Side) (p : Path)
    → paths_on k (changes V from p)
    ≡ cond (side_eq (other from) k) (reverse (going V from p) ++ p ∷ coming V from p) []
group_paths V from k p =
    paths_on-append k (map (λ q. change (other from) q mark.Absent) (reverse (going V from p)))
    (map (λ q. change (other from) q (V.mark from q)) (p ∷ coming V from p))
    ∙ ((λ i. side_paths (other from) k (λ _. mark.Absent) (reverse (going V from p)) i
    ++ side_paths (other from) k (V.mark from) (p ∷ coming V from p) i)
    ∙ both_or_none (side_eq (other from) k) (reverse (going V from p)) (p ∷ coming V from p))

abbrev is_to : Side → Fate → Bool
is_to k (To side) = side_eq side k
is_to k (Skip why) = false

never_both : {X : Type 0} (a b : Bool) (x y : X) → y ≡ cond (a && (b && false)) x y
never_both true true x y = refl
never_both true false x y = refl
never_both false b x y = refl

always_both : {X : Type 0} (a b : Bool) (x y : X) → cond (a && b) x y ≡ cond (a && (b && true)) x y
always_both true true x y = refl
always_both true false x y = refl
always_both false b x y = refl

either_cond : {X : Type 0} (r t u : Bool) (x y : X)
    → cond (r && u) x (cond (r && t) x y) ≡ cond (r && (t || u)) x y
either_cond false t u x y = refl
either_cond true true true x y = refl
either_cond true true false x y = refl
either_cond true false true x y = refl
either_cond true false false x y = refl

nothing_touched : {X : Type 0} (r : Bool) (x y : X) → y ≡ cond (r && false) x y
nothing_touched true x y = refl
nothing_touched false x y = refl

untouched : {X : Type 0} (r o t : Bool) (x y : X) → o ≡ false → cond (r && (o && t)) x y ≡ y
untouched true o t x y e = ap (λ b. cond (b && t) x y) e
untouched false o t x y e = refl

no_some : {x : Path} → None ≡ Some x → ⊥
no_some e = cc

-- The changes of the items are those of their paths.
pub flat_items : (V : View) (ps : List Path)
    → flat_map (λ (i : Item). changes_by V i.path i.fate)
    (map (λ p. record { path = p; fate = fate V p }) ps) ≡ flat_map (λ x. changes_by V x (fate V x))
    ps
flat_items V [] = refl
flat_items V (p ∷ ps) = ap (λ cs. changes_by V p (fate V p) ++ cs) (flat_items V ps)

-- Some path of a list passes.
pub any_witness : (f : Path → Bool) (ps : List Path) → list_any f ps ≡ true → (x : Path)
    × (among x ps ≡ true) × (f x ≡ true)
any_witness f [] e = absurd (false≢true e)
any_witness f (p ∷ ps) e =
    elim (f p) as (λ b. f p ≡ b → (b || list_any f ps) ≡ true → (x : Path)
    × (among x (p ∷ ps) ≡ true) × (f x ≡ true)) [
      | true ↦ λ g h. (p, or_left _ (among p ps) (path_itself p), g)
      | false ↦ λ g h. let w = any_witness f ps h in
          (w.0, or_right (eq_by_cmp path_cmp w.0 p) _ w.1, w.2)
    ] refl e

pub any_from : (f : Path → Bool) (ps : List Path) (x : Path) → among x ps ≡ true → f x ≡ true
    → list_any f ps ≡ true
any_from f ps x e h =
    true_from_ne_false _ (λ none. false≢true (sym (none_at f ps x none e) ∙ h))

-- No path is below two of them.
abbrev pub Apart : List Path → Type 0
Apart [] = Unit {0}
Apart (x ∷ xs) =
    ((y q : Path) → among y xs ≡ true → is_over x q ≡ true → is_over y q ≡ true → ⊥) × Apart xs

pub passes-path : (p : Path) (o : Option Path) → some_passes (path_eq p) o ≡ true → o ≡ Some p
passes-path p None e = absurd (false≢true e)
passes-path p (Some x) e = ap (λ y. Some y) (sym (same_paths p x e))

pub over_itself : (V : View) (p : Path) → is_item V p ≡ true → item_over V p ≡ Some p
over_itself V p e = passes-path p (item_over V p) e

pub item_differs : (V : View) (p : Path) → is_item V p ≡ true → differs V p ≡ true
item_differs V p e = (least (differs V) p p (over_itself V p e)).passes

pub same_item : (V : View) (x y q : Path) → is_item V x ≡ true → is_item V y ≡ true
    → is_over x q ≡ true → is_over y q ≡ true → x ≡ y
same_item V x y q i j o u =
    same_Some x y (sym (find-longer (differs V) x q x o (over_itself V x i))
    ∙ find-longer (differs V) y q y u (over_itself V y j))

pub items_apart : (V : View) (ps : List Path) → IsStrictlySortedBy path_cmp ps
    → ((x : Path) → among x ps ≡ true → is_item V x ≡ true) → Apart ps
items_apart V [] sorted is = tt
items_apart V (x ∷ xs) sorted is = (
  λ y q e o u.
      let same : x ≡ y = same_item V x y q (is x (or_left _ (among x xs) (path_itself x)))
      (is y (or_right (eq_by_cmp path_cmp y x) _ e)) o u in
      let l : path_cmp x x ≡ Less = ap (path_cmp x) same ∙ behind [] xs x y sorted e in
      not_both x x l l,
  items_apart V xs (sorted_tail path_cmp x xs sorted)
      (λ y e. is y (or_right (eq_by_cmp path_cmp y x) _ e)),
)

module _ (P : Parts) (facts : IsProfile P) (A B : Replica) (O : Archive) (left : IsTree A)
    (right : IsTree B) where
  open scene P A B O use {replica as R, opposite as s, view as V}

  abbrev sets_of : Side → List Path → List (Path × Contents)
  sets_of k ps = each (s k) ps

  abbrev touched : Side → List Path → Path → Bool
  touched k ps q = list_any (λ x. is_over x q && is_to k (fate V x)) ps

  abbrev Leaves : Side → Replica → List Path → (Path → Bool) → Replica → Type 0
  Leaves k M ps f K = (sets M (sets_of k ps) ≡ Some K) × IsTree K
      × ((q : Path) → contents_at K q ≡ cond (reach P q && f q) (s k q) (contents_at M q))

  nothing_set : (k : Side) (p : Path) (M : Replica) (ps : List Path) → IsTree M → ps ≡ []
      → Leaves k M ps (λ q. is_over p q && false) M
  nothing_set k p M ps t e = (
    ap (λ xs. sets M (sets_of k xs)) e,
    t,
    λ q. never_both (reach P q) (is_over p q) (s k q) (contents_at M q),
  )

  all_set : (k : Side) (p : Path) (M : Replica) (ps : List Path) → differs V p ≡ true → Goes V p k
      → IsTree M
      → ((q : Path) → is_over p q ≡ true → contents_at M q ≡ contents_at (R k) q)
      → contents_at M (parent p) ≡ contents_at (R k) (parent p)
      → ps ≡ reverse (going V (other k) p) ++ p ∷ coming V (other k) p → (K : Replica)
      × Leaves k M ps (λ q. is_over p q && true) K
  all_set k p M ps d g t same above e =
      let w = step P facts A B O left right k p d g M t same above in (
        w.0,
        (
          ap (λ xs. sets M (sets_of k xs)) e ∙ w.1.0,
          w.1.1,
          λ q. w.1.2 q
              ∙ always_both (reach P q) (is_over p q) (s k q) (contents_at M q),
        ),
      )

  one_item : (k : Side) (p : Path) (M : Replica) (f : Fate) → fate V p ≡ f → differs V p ≡ true
      → IsTree M
      → ((q : Path) → is_over p q ≡ true → contents_at M q ≡ contents_at (R k) q)
      → contents_at M (parent p) ≡ contents_at (R k) (parent p)
      → (K : Replica) × Leaves k M (paths_on k (changes_by V p f)) (λ q. is_over p q && is_to k f) K
  one_item k p M (Skip why) e d t same above = (M, nothing_set k p M [] t refl)
  one_item Left p M (To Left) e d t same above =
      all_set Left p M _ d (goes V p Left e) t same above (group_paths V Right Left p)
  one_item Right p M (To Right) e d t same above =
      all_set Right p M _ d (goes V p Right e) t same above (group_paths V Left Right p)
  one_item Left p M (To Right) e d t same above =
      (M, nothing_set Left p M _ t (group_paths V Left Left p))
  one_item Right p M (To Left) e d t same above =
      (M, nothing_set Right p M _ t (group_paths V Right Right p))

  abbrev all_changes : List Path → List Change
  all_changes ps = flat_map (λ x. changes_by V x (fate V x)) ps

  run : (k : Side) (ps : List Path) (M : Replica) → IsTree M → Apart ps
      → ((x : Path) → among x ps ≡ true → differs V x ≡ true)
      → ((x q : Path) → among x ps ≡ true → is_over x q ≡ true
      → contents_at M q ≡ contents_at (R k) q)
      → ((x : Path) → among x ps ≡ true → contents_at M (parent x) ≡ contents_at (R k) (parent x))
      → (K : Replica) × Leaves k M (paths_on k (all_changes ps)) (touched k ps) K
  run k [] M t apart d same above =
      (M, (refl, t, λ q. nothing_touched (reach P q) (s k q) (contents_at M q)))
  run k (p ∷ ps) M t apart d same above =
      let first : among p (p ∷ ps) ≡ true = or_left _ (among p ps) (path_itself p) in
      let later : (x : Path) → among x ps ≡ true
      → among x (p ∷ ps) ≡ true = λ x e. or_right (eq_by_cmp path_cmp x p) _ e in
      let w = one_item k p M (fate V p) refl (d p first) t (λ q o. same p q first o) (above p first)
      in
      let kept : (x q : Path) → among x ps ≡ true → is_over x q ≡ true
      → contents_at w.0 q ≡ contents_at M q =
      λ x q e o. w.1.2 q ∙ untouched (reach P q) (is_over p q) (is_to k (fate V p)) (s k q)
      (contents_at M q) (false_from_ne_true (is_over p q) (λ u. apart.0 x q e u o)) in
      let kept_up : (x : Path) → among x ps ≡ true
      → contents_at w.0 (parent x) ≡ contents_at M (parent x) =
      λ x e. w.1.2 (parent x)
      ∙ untouched (reach P (parent x)) (is_over p (parent x)) (is_to k (fate V p)) (s k (parent x))
      (contents_at M (parent x))
      (false_from_ne_true (is_over p (parent x))
      (λ u. apart.0 x x e (is_over-transitive p (parent x) x u (is_over-parent x))
      (is_over-reflexive x))) in
      let v = run k ps w.0 w.1.1 apart.1 (λ x e. d x (later x e)) (λ x q e o. kept x q e o
      ∙ same x q (later x e) o) (λ x e. kept_up x e ∙ above x (later x e)) in (
        v.0,
        (
          ap (λ xs. sets M (sets_of k xs))
              (paths_on-append k (changes_by V p (fate V p)) (all_changes ps))
              ∙ (ap (sets M)
              (each-append (s k) (paths_on k (changes_by V p (fate V p)))
              (paths_on k (all_changes ps)))
              ∙ (sets-append M (sets_of k (paths_on k (changes_by V p (fate V p))))
              (sets_of k (paths_on k (all_changes ps)))
              ∙ (ap (option_and_then (λ K. sets K (sets_of k (paths_on k (all_changes ps))))) w.1.0
              ∙ v.1.0))),
          v.1.1,
          λ q. v.1.2 q ∙ (ap (cond (reach P q && touched k ps q) (s k q)) (w.1.2 q)
              ∙ either_cond (reach P q) (is_over p q && is_to k (fate V p)) (touched k ps q) (s k q)
              (contents_at M q)),
        ),
      )

  -- The items.
  abbrev pub all_items : List Path
  all_items = filter (is_item V) V.paths

  pub of_items : (x : Path) → among x all_items ≡ true → is_item V x ≡ true
  of_items x e =
      (and_parts (is_item V x) (among x V.paths) (sym (among_filter x (is_item V) V.paths) ∙ e)).0

  there : (x : Path) → differs V x ≡ true → (b : Bool) → is_absent (contents_at A x) ≡ b
      → among x V.paths ≡ true
  there x d true e =
      in_paths P A B O Right x (differ P facts A B O left right x d).0
      (sym (ap (λ b. b && is_absent (contents_at B x)) e)
      ∙ one_present P facts A B O left right Left x d)
  there x d false e = in_paths P A B O Left x (differ P facts A B O left right x d).0 e

  in_items : (x q : Path) → item_over V q ≡ Some x → (is_over x q ≡ true) × (is_item V x ≡ true)
      × (among x all_items ≡ true)
  in_items x q e =
      let w = least (differs V) q x e in
      let is : is_item V x ≡ true = ap (some_passes (path_eq x)) w.itself ∙ paths_same x in (
        w.over,
        is,
        among_filter x (is_item V) V.paths
            ∙ and_from (is_item V x) _ is (there x w.passes (is_absent (contents_at A x)) refl),
      )

  given : (k : Side) (q : Path) (f : Fate) (b : Bool) → b ≡ is_to k f
      → cond b (s k q) (contents_at (R k) q) ≡ contents_at (R (giver k (Some f))) q
  given k q (Skip why) b e = ap (λ b. cond b (s k q) (contents_at (R k) q)) e
  given Left q (To Left) b e = ap (λ b. cond b (s Left q) (contents_at A q)) e
  given Left q (To Right) b e = ap (λ b. cond b (s Left q) (contents_at A q)) e
  given Right q (To Left) b e = ap (λ b. cond b (s Right q) (contents_at B q)) e
  given Right q (To Right) b e = ap (λ b. cond b (s Right q) (contents_at B q)) e

  touched_by : (k : Side) (q : Path) (o : Option Path) → item_over V q ≡ o
      → cond (touched k all_items q) (s k q) (contents_at (R k) q) ≡ contents_at
      (R (giver k (option_map (fate V) o))) q
  touched_by k q None e =
      let none : touched k all_items q ≡ false = false_from_ne_true _ (λ h.
      let w = any_witness (λ x. is_over x q && is_to k (fate V x)) all_items h in
      let two = and_parts (is_over w.0 q) (is_to k (fate V w.0)) w.2 in
      no_some (sym e
      ∙ find-longer (differs V) w.0 q w.0 two.0 (over_itself V w.0 (of_items w.0 w.1))))
      in
      ap (λ b. cond b (s k q) (contents_at (R k) q)) none
  touched_by k q (Some x) e =
      let is = in_items x q e in
      let as_fate : touched k all_items q ≡ is_to k (fate V x) = both_ways _ _
      (λ h.
      let w = any_witness (λ x. is_over x q && is_to k (fate V x)) all_items h in
      let two = and_parts (is_over w.0 q) (is_to k (fate V w.0)) w.2 in
      ap (λ y. is_to k (fate V y)) (same_item V x w.0 q is.1 (of_items w.0 w.1) is.0 two.0) ∙ two.1)
      (λ h. any_from (λ x. is_over x q && is_to k (fate V x)) all_items x is.2
      (and_from (is_over x q) _ is.0 h)) in
      given k q (fate V x) (touched k all_items q) as_fate

  at_last : (k : Side) (q : Path) (b : Bool)
      → cond (b && touched k all_items q) (s k q) (contents_at (R k) q)
      ≡ cond b (contents_at (R (giver k (fate_over V q))) q) (contents_at (R k) q)
  at_last k q true = touched_by k q (item_over V q) refl
  at_last k q false = refl

  -- The Sets of a side's changes go through, and leave what is defined.
  pub synced : (k : Side) → (K : Replica)
      × (sets (R k) (each (contents_at (R (other k))) (paths_on k (plan V))) ≡ Some K) × IsTree K
      × ((q : Path) → contents_at K q ≡ synced_contents P A B O k q)
  unfolding plan items
  synced k =
      let w = run k all_items (R k) (trees P A B O left right k)
      (items_apart V all_items
      (IsStrictlySortedBy-filter path_cmp (is_item V) V.paths (paths_sorted P A B O)) of_items)
      (λ x e. item_differs V x (of_items x e)) (λ x q e o. refl) (λ x e. refl) in (
        w.0,
        ap (λ cs. sets (R k) (each (s k) (paths_on k cs))) (flat_items V all_items) ∙ w.1.0,
        w.1.1,
        λ q. w.1.2 q ∙ at_last k q (reach P q),
      )

-- In the plan for two replicas no path changes twice, and each change is allowed.
use Rattle.std.proofs.Common.{◌≡◌, inl, inr, true, false, cond, not, ◌&&◌, ◌||◌, List, [], ◌∷◌, ◌++◌, map, refl, ap, sym, ◌∙◌, subst}
use Rattle.std.specs.Prelude.{◌⊎◌, filter, reverse}
use Rattle.std.specs.List.{list_any, flat_map}
use Rattle.std.specs.List.Sorted.{IsStrictlySortedBy}
use Rattle.std.specs.Ordering.{eq_by_cmp}
use Rattle.std.proofs.lemmas.Bool.{false≢true, and_parts, or_cases, or_left, or_right, or_parts, or_from, false_from_ne_true, not-false, not-true}
use Rattle.std.proofs.lemmas.List.{map-append, reverse-append}
use Rattle.std.proofs.lemmas.List.Folds.{list_any-append}
use Rattle.std.proofs.lemmas.List.Kept.{IsStrictlySortedBy-filter}
use Rattle.std.proofs.lemmas.Map.Keys.{sorted_tail}
use Rattle.hub_path.specs.laws.General.{is_over-reflexive}
use Rattle.hub_path.specs.Path.{Path, path_cmp, path_eq, is_over}
use Rattle.hub_path.specs.declared.side.Side.{Side}
use Rattle.hub_profile.specs.Parts.{Parts, IsProfile}
use Rattle.hub_reach.specs.Reach.{reach}
use Rattle.hub_tree.specs.Below.{is_below}
use Rattle.hub_tree.specs.Tree.{Replica, Archive, IsTree}
use Rattle.hub_tree.specs.declared.contents.Mark.{Mark}
use Rattle.hub_tree.specs.declared.contents.Mark.TheVariants as mark
use Rattle.hub_tree.specs.laws.Between.{among, among_middle, among_filter, among_reverse, behind, not_both}
use Rattle.hub_tree.specs.laws.Children.{path_eq-cmp}
use Rattle.hub_tree.specs.laws.Order.{same_path, path_itself}
use Rattle.hub_reconcile.specs.View.{View, is_present}
use Rattle.hub_reconcile.specs.Items.{other, is_item, is_allowed, changes, change, changes_by, going, coming, below, fate, items, plan}
use Rattle.hub_reconcile.specs.Sides.{side_eq, paths_on}
use Rattle.hub_reconcile.specs.Sync.{view_of}
use Rattle.hub_reconcile.specs.declared.change.Change.{Change}
use Rattle.hub_reconcile.specs.declared.item.Fate.{Fate}
use Rattle.hub_reconcile.specs.declared.item.Fate.TheVariants.{To, Skip}
use Rattle.hub_reconcile.specs.laws.Views.{paths_same, paths_sorted}
use Rattle.hub_reconcile.specs.laws.Below.{goes, below_of}
use Rattle.hub_reconcile.specs.laws.Steps.{differ}
use Rattle.hub_reconcile.specs.laws.Synced.{Apart, items_apart, all_items, of_items, item_differs, flat_items}
use Rattle.hub_reconcile.specs.laws.Each.{Each, each-back, each-map, each-flat_map}

-- Lists without repetition.
abbrev Distinct : List Path → Type 0
Distinct [] = Unit {0}
Distinct (x ∷ xs) = (among x xs ≡ false) × Distinct xs

distinct_sorted : (xs : List Path) → IsStrictlySortedBy path_cmp xs → Distinct xs
distinct_sorted [] s = tt
distinct_sorted (x ∷ xs) s = (false_from_ne_true (among x xs) (λ e. let l = behind [] xs x x s e in not_both x x l l), distinct_sorted xs (sorted_tail path_cmp x xs s))

distinct_append : (xs ys : List Path) → Distinct xs → Distinct ys → ((q : Path) → among q xs ≡ true → among q ys ≡ true → ⊥) → Distinct (xs ++ ys)
distinct_append [] ys d f apart = f
distinct_append (x ∷ xs) ys d f apart = (
  list_any-append (eq_by_cmp path_cmp x) xs ys
      ∙ or_from (among x xs) (among x ys) d.0 (false_from_ne_true (among x ys) (λ e. apart x (or_left (eq_by_cmp path_cmp x x) (among x xs) (path_itself x)) e)),
  distinct_append xs ys d.1 f (λ q e. apart q (or_right (eq_by_cmp path_cmp q x) (among q xs) e)),
)

only_this : (q x : Path) → among q (x ∷ []) ≡ true → q ≡ x
only_this q x e = elim (or_cases (eq_by_cmp path_cmp q x) false e) [ inl h ↦ same_path q x h | inr h ↦ absurd (false≢true h) ]

distinct_reverse : (xs : List Path) → Distinct xs → Distinct (reverse xs)
distinct_reverse [] d = tt
distinct_reverse (x ∷ xs) d =
    subst Distinct (sym (reverse-append (x ∷ []) xs))
    (distinct_append (reverse xs) (x ∷ []) (distinct_reverse xs d.1) (refl, tt)
    (λ q e h. false≢true (sym d.0 ∙ (ap (λ y. among y xs) (sym (only_this q x h)) ∙ (sym (among_reverse q xs) ∙ e)))))

distinct_middle : (xs : List Path) (x : Path) (ys : List Path) → Distinct (xs ++ x ∷ ys) → among x xs ≡ false
distinct_middle [] x ys d = refl
distinct_middle (w ∷ xs) x ys d =
    or_from (eq_by_cmp path_cmp x w) (among x xs)
    (false_from_ne_true (eq_by_cmp path_cmp x w) (λ e. false≢true (sym d.0 ∙ (ap (λ y. among y (xs ++ x ∷ ys)) (sym (same_path x w e)) ∙ among_middle x xs ys))))
    (distinct_middle xs x ys d.1)

-- The paths of changes.
abbrev paths_of : List Change → List Path
paths_of cs = map (λ (c : Change). c.path) cs

same_paths_of : (side : Side) (m : Path → Mark) (xs : List Path) → paths_of (map (λ q. change side q (m q)) xs) ≡ xs
same_paths_of side m [] = refl
same_paths_of side m (x ∷ xs) = ap (λ ps. x ∷ ps) (same_paths_of side m xs)

group_paths : (V : View) (from : Side) (p : Path) → paths_of (changes V from p) ≡ reverse (going V from p) ++ p ∷ coming V from p
group_paths V from p =
    map-append (λ (c : Change). c.path) (map (λ q. change (other from) q mark.Absent) (reverse (going V from p))) (change (other from) p (V.mark from p) ∷ map (λ q. change (other from) q (V.mark from q)) (coming V from p))
    ∙ (ap (λ ps. ps ++ p ∷ paths_of (map (λ q. change (other from) q (V.mark from q)) (coming V from p))) (same_paths_of (other from) (λ _. mark.Absent) (reverse (going V from p)))
    ∙ ap (λ ps. reverse (going V from p) ++ p ∷ ps) (same_paths_of (other from) (V.mark from) (coming V from p)))

in_going : (V : View) (from : Side) (p q : Path) → among q (going V from p) ≡ true → (is_present (V.mark from q) ≡ false) × (among q (below V p) ≡ true)
in_going V from p q e =
    let two = and_parts (is_present (V.mark (other from) q) && not (is_present (V.mark from q))) (among q (below V p))
    (sym (among_filter q (λ q. is_present (V.mark (other from) q) && not (is_present (V.mark from q))) (below V p)) ∙ e) in
    let marks = and_parts (is_present (V.mark (other from) q)) (not (is_present (V.mark from q))) two.0 in
    (not-true (is_present (V.mark from q)) marks.1, two.1)

in_coming : (V : View) (from : Side) (p q : Path) → among q (coming V from p) ≡ true → (is_present (V.mark from q) ≡ true) × (among q (below V p) ≡ true)
in_coming V from p q e = and_parts (is_present (V.mark from q)) (among q (below V p)) (sym (among_filter q (λ q. is_present (V.mark from q)) (below V p)) ∙ e)

-- A path of an item's changes is the item, or below it.
group_of : (V : View) (from : Side) (p q : Path) → among q (paths_of (changes V from p)) ≡ true → (q ≡ p) ⊎ (among q (below V p) ≡ true)
group_of V from p q e =
    let all : (among q (reverse (going V from p)) || among q (p ∷ coming V from p)) ≡ true =
    sym (list_any-append (eq_by_cmp path_cmp q) (reverse (going V from p)) (p ∷ coming V from p)) ∙ (ap (among q) (sym (group_paths V from p)) ∙ e) in
    elim (or_cases (among q (reverse (going V from p))) (among q (p ∷ coming V from p)) all) [
      | inl g ↦ inr (in_going V from p q (sym (among_reverse q (going V from p)) ∙ g)).1
      | inr h ↦ elim (or_cases (eq_by_cmp path_cmp q p) (among q (coming V from p)) h) [
        | inl s ↦ inl (same_path q p s)
        | inr i ↦ inr (in_coming V from p q i).1
      ]
    ]

changed_of : (V : View) (p q : Path) (f : Fate) → among q (paths_of (changes_by V p f)) ≡ true → (q ≡ p) ⊎ (among q (below V p) ≡ true)
changed_of V p q (To side) e = group_of V (other side) p q e
changed_of V p q (Skip why) e = absurd (false≢true e)

-- A path of the changes of some items is one of the changes of one of them.
flat_of : (V : View) (ps : List Path) (q : Path) → among q (paths_of (flat_map (λ (x : Path). changes_by V x (fate V x)) ps)) ≡ true
    → (x : Path) × (among x ps ≡ true) × (among q (paths_of (changes_by V x (fate V x))) ≡ true)
flat_of V [] q e = absurd (false≢true e)
flat_of V (p ∷ ps) q e =
    let rest = flat_map (λ (x : Path). changes_by V x (fate V x)) ps in
    let all : (among q (paths_of (changes_by V p (fate V p))) || among q (paths_of rest)) ≡ true =
    sym (list_any-append (eq_by_cmp path_cmp q) (paths_of (changes_by V p (fate V p))) (paths_of rest))
    ∙ (ap (among q) (sym (map-append (λ (c : Change). c.path) (changes_by V p (fate V p)) rest)) ∙ e) in
    elim (or_cases (among q (paths_of (changes_by V p (fate V p)))) (among q (paths_of rest)) all) [
      | inl h ↦ (p, or_left (eq_by_cmp path_cmp p p) (among p ps) (path_itself p), h)
      | inr h ↦ let w = flat_of V ps q h in (w.0, or_right (eq_by_cmp path_cmp w.0 p) (among w.0 ps) w.1, w.2)
    ]

-- What is set on a side is among the paths of the changes.
on_among : (k : Side) (q : Path) (cs : List Change) → list_any (path_eq q) (paths_on k cs) ≡ true → among q (paths_of cs) ≡ true
on_among k q [] e = e
on_among k q (c ∷ cs) e =
    elim (side_eq c.side k) as (λ b. list_any (path_eq q) (map (λ c. c.path) (cond b (c ∷ filter (λ c. side_eq c.side k) cs) (filter (λ c. side_eq c.side k) cs))) ≡ true → among q (paths_of (c ∷ cs)) ≡ true) [
      | true ↦ λ h. elim (or_cases (path_eq q c.path) (list_any (path_eq q) (paths_on k cs)) h) [
        | inl s ↦ or_left (eq_by_cmp path_cmp q c.path) (among q (paths_of cs)) (sym (path_eq-cmp q c.path) ∙ s)
        | inr s ↦ or_right (eq_by_cmp path_cmp q c.path) (among q (paths_of cs)) (on_among k q cs s)
      ]
      | false ↦ λ h. or_right (eq_by_cmp path_cmp q c.path) (among q (paths_of cs)) (on_among k q cs h)
    ] e

-- Each change of a plan is allowed.
each_allowed : (V : View) (cs : List Change) → list_any (λ c. not (is_allowed V c)) cs ≡ false → Each (λ (c : Change). is_allowed V c ≡ true) cs
each_allowed V [] e = tt
each_allowed V (c ∷ cs) e =
    let two = or_parts (not (is_allowed V c)) (list_any (λ c. not (is_allowed V c)) cs) e in
    (not-false (is_allowed V c) two.0, each_allowed V cs two.1)

fate_allowed : (V : View) (p : Path) (f : Fate) → fate V p ≡ f → Each (λ (c : Change). is_allowed V c ≡ true) (changes_by V p f)
fate_allowed V p (To k) e = each_allowed V (changes V (other k) p) (goes V p k e).allowed
fate_allowed V p (Skip why) e = tt

each_of : {X : Type 0} (f : X → Type 0) (xs : List X) → ((x : X) → f x) → Each f xs
each_of f [] h = tt
each_of f (x ∷ xs) h = (h x, each_of f xs h)

plan_allowed : (V : View) → Each (λ (c : Change). is_allowed V c ≡ true) (plan V)
unfolding plan items
plan_allowed V =
    each-flat_map (λ (c : Change). is_allowed V c ≡ true) (λ i. changes_by V i.path i.fate) (items V)
    (each-map (λ i. Each (λ (c : Change). is_allowed V c ≡ true) (changes_by V i.path i.fate)) (λ p. record { path = p; fate = fate V p }) (filter (is_item V) V.paths)
    (each_of (λ p. Each (λ (c : Change). is_allowed V c ≡ true) (changes_by V p (fate V p))) (filter (is_item V) V.paths) (λ p. fate_allowed V p (fate V p) refl)))

pub change_allowed : (V : View) (done todo : List Change) (c : Change) → plan V ≡ done ++ c ∷ todo → is_allowed V c ≡ true
change_allowed V done todo c whole =
    (each-back (λ (c : Change). is_allowed V c ≡ true) done (c ∷ todo) (subst (λ (cs : List Change). Each (λ (c : Change). is_allowed V c ≡ true) cs) whole (plan_allowed V))).0

module _ (P : Parts) (facts : IsProfile P) (A B : Replica) (O : Archive) (left : IsTree A) (right : IsTree B) where
  abbrev V : View
  V = view_of P A B O

  below_over : (p q : Path) → among q (below V p) ≡ true → is_over p q ≡ true
  below_over p q e = (and_parts (is_over p q) (not (path_eq p q)) (below_of P A B O left right p q e).0).0

  not_itself : (p : Path) → among p (below V p) ≡ true → ⊥
  not_itself p e = false≢true (sym (not-true (path_eq p p) (and_parts (is_over p p) (not (path_eq p p)) (below_of P A B O left right p p e).0).1) ∙ paths_same p)

  over_of : (p q : Path) → (q ≡ p) ⊎ (among q (below V p) ≡ true) → is_over p q ≡ true
  over_of p q (inl e) = ap (is_over p) e ∙ is_over-reflexive p
  over_of p q (inr e) = below_over p q e

  reached_of : (p q : Path) → is_item V p ≡ true → (q ≡ p) ⊎ (among q (below V p) ≡ true) → reach P q ≡ true
  reached_of p q is (inl e) = ap (reach P) e ∙ (differ P facts A B O left right p (item_differs V p is)).0
  reached_of p q is (inr e) = (below_of P A B O left right p q e).1

  below_sorted : (p : Path) → IsStrictlySortedBy path_cmp (below V p)
  below_sorted p = IsStrictlySortedBy-filter path_cmp (is_below p) V.paths (paths_sorted P A B O)

  group_distinct : (from : Side) (p : Path) → Distinct (paths_of (changes V from p))
  group_distinct from p =
      subst Distinct (sym (group_paths V from p))
      (distinct_append (reverse (going V from p)) (p ∷ coming V from p)
      (distinct_reverse (going V from p) (distinct_sorted (going V from p) (IsStrictlySortedBy-filter path_cmp (λ q. is_present (V.mark (other from) q) && not (is_present (V.mark from q))) (below V p) (below_sorted p)))) (
        false_from_ne_true (among p (coming V from p)) (λ e. not_itself p (in_coming V from p p e).1),
        distinct_sorted (coming V from p) (IsStrictlySortedBy-filter path_cmp (λ q. is_present (V.mark from q)) (below V p) (below_sorted p)),
      )
      (λ q e h.
      let goes = in_going V from p q (sym (among_reverse q (going V from p)) ∙ e) in
      elim (or_cases (eq_by_cmp path_cmp q p) (among q (coming V from p)) h) [
        | inl s ↦ not_itself p (ap (λ x. among x (below V p)) (sym (same_path q p s)) ∙ goes.1)
        | inr i ↦ false≢true (sym goes.0 ∙ (in_coming V from p q i).0)
      ]))

  changed_distinct : (p : Path) (f : Fate) → Distinct (paths_of (changes_by V p f))
  changed_distinct p (To k) = group_distinct (other k) p
  changed_distinct p (Skip why) = tt

  flat_distinct : (ps : List Path) → Apart ps → Distinct (paths_of (flat_map (λ (x : Path). changes_by V x (fate V x)) ps))
  flat_distinct [] apart = tt
  flat_distinct (p ∷ ps) apart =
      let rest = flat_map (λ (x : Path). changes_by V x (fate V x)) ps in
      subst Distinct (sym (map-append (λ (c : Change). c.path) (changes_by V p (fate V p)) rest))
      (distinct_append (paths_of (changes_by V p (fate V p))) (paths_of rest) (changed_distinct p (fate V p)) (flat_distinct ps apart.1)
      (λ q e h.
      let w = flat_of V ps q h in
      apart.0 w.0 q w.1 (over_of p q (changed_of V p q (fate V p) e)) (over_of w.0 q (changed_of V w.0 q (fate V w.0) w.2))))

  plan_is : plan V ≡ flat_map (λ (x : Path). changes_by V x (fate V x)) (all_items P facts A B O left right)
  unfolding plan items
  plan_is = flat_items V (all_items P facts A B O left right)

  plan_distinct : Distinct (paths_of (plan V))
  plan_distinct =
      let ps = all_items P facts A B O left right in
      subst (λ (cs : List Change). Distinct (paths_of cs)) (sym plan_is)
      (flat_distinct ps (items_apart V ps (IsStrictlySortedBy-filter path_cmp (is_item V) V.paths (paths_sorted P A B O)) (of_items P facts A B O left right)))

  pub not_before : (done todo : List Change) (c : Change) (k : Side) → plan V ≡ done ++ c ∷ todo → list_any (path_eq c.path) (paths_on k done) ≡ false
  not_before done todo c k whole =
      let all : Distinct (paths_of done ++ c.path ∷ paths_of todo) =
      subst Distinct (map-append (λ (c : Change). c.path) done (c ∷ todo)) (subst (λ (cs : List Change). Distinct (paths_of cs)) whole plan_distinct) in
      false_from_ne_true (list_any (path_eq c.path) (paths_on k done)) (λ e. false≢true (sym (distinct_middle (paths_of done) c.path (paths_of todo) all) ∙ on_among k c.path done e))

  pub change_reached : (done todo : List Change) (c : Change) → plan V ≡ done ++ c ∷ todo → reach P c.path ≡ true
  change_reached done todo c whole =
      let there : among c.path (paths_of (flat_map (λ (x : Path). changes_by V x (fate V x)) (all_items P facts A B O left right))) ≡ true =
      ap (λ (cs : List Change). among c.path (paths_of cs)) (sym plan_is ∙ whole)
      ∙ (ap (among c.path) (map-append (λ (c : Change). c.path) done (c ∷ todo)) ∙ among_middle c.path (paths_of done) (paths_of todo)) in
      let w = flat_of V (all_items P facts A B O left right) c.path there in
      reached_of w.0 c.path (of_items P facts A B O left right w.0 w.1) (changed_of V w.0 c.path (fate V w.0) w.2)

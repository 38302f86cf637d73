-- What the changes of one item leave.
use Rattle.std.proofs.Common.{◌≡◌, ◌<◌, Bool, true, false, cond, not, ◌&&◌, ◌||◌, List, [], ◌∷◌, ◌++◌, length, Some, refl, ap, sym, ◌∙◌, subst, arith}
use Rattle.std.specs.Prelude.{◌==◌, filter, reverse}
use Rattle.std.proofs.lemmas.Bool.{false≢true, and_parts, and_from, or_left, or_right, not-true, not-false, false_from_ne_true}
use Rattle.hub_path.specs.laws.General.{path_eq-turned, is_over-reflexive, is_over-transitive, is_over-length, is_place-over}
use Rattle.hub_path.specs.Path.{Path, path_cmp, path_eq, is_over, is_path, is_place, parent}
use Rattle.hub_path.specs.declared.side.Side.{Side}
use Rattle.hub_path.specs.declared.side.Side.TheVariants.{Left, Right}
use Rattle.hub_profile.specs.Parts.{Parts, IsProfile}
use Rattle.hub_reach.specs.Reach.{reach}
use Rattle.hub_reach.specs.laws.General.{reach-is_path, reach-below}
use Rattle.hub_reach.specs.laws.Between.{reach-between}
use Rattle.std.specs.List.{list_any}
use Rattle.hub_tree.specs.Below.{is_below, under}
use Rattle.hub_tree.specs.Sets.{sets, each}
use Rattle.hub_tree.specs.Tree.{Replica, Archive, IsTree, contents_at, mark_of, is_absent, is_directory}
use Rattle.hub_tree.specs.declared.contents.Contents.{Contents}
use Rattle.hub_tree.specs.declared.contents.Contents.TheVariants as contents
use Rattle.hub_tree.specs.laws.Between.{among, among_reverse, under_sorted, in_under, of_under, absent_of}
use Rattle.hub_tree.specs.laws.Order.{path_itself}
use Rattle.hub_tree.specs.laws.Beneath.{below_over, is_a_directory}
use Rattle.hub_tree.specs.laws.Children.{one_item}
use Rattle.hub_tree.specs.laws.Replacing.{item_goes, item_comes}
use Rattle.std.specs.Ordering.{eq_by_cmp}
use Rattle.hub_reconcile.specs.View.{mark_eq, is_folder}
use Rattle.hub_reconcile.specs.Items.{other, differs, going, coming, has_parent}
use Rattle.hub_reconcile.specs.laws.Ascend.{same_list}
use Rattle.hub_reconcile.specs.laws.Views.{scene, same_paths, mark_here, folder_seen, reach-names}
use Rattle.hub_reconcile.specs.laws.Below.{Goes, trees, nothing_below, all_reached, going_all, coming_is, none_under, none_going}

-- Contents whose marks differ.
apart_absent : (c d : Contents) → mark_eq (mark_of c) (mark_of d) ≡ false
    → (is_absent c && is_absent d) ≡ false
apart_absent (contents.File bytes) d e = refl
apart_absent contents.Directory d e = refl
apart_absent contents.Absent (contents.File bytes) e = refl
apart_absent contents.Absent contents.Directory e = refl
apart_absent contents.Absent contents.Absent e = absurd (false≢true (sym e))

apart_left : (c d : Contents) → mark_eq (mark_of c) (mark_of d) ≡ false → is_directory d ≡ true
    → is_directory c ≡ false
apart_left (contents.File bytes) d e h = refl
apart_left contents.Directory (contents.File bytes) e h = absurd (false≢true h)
apart_left contents.Directory contents.Directory e h = absurd (false≢true (sym e))
apart_left contents.Directory contents.Absent e h = absurd (false≢true h)
apart_left contents.Absent d e h = refl

swap_and : (a b : Bool) → (a && b) ≡ false → (b && a) ≡ false
swap_and true true e = e
swap_and true false e = refl
swap_and false true e = refl
swap_and false false e = refl

apart_right : (c d : Contents) → mark_eq (mark_of c) (mark_of d) ≡ false → is_directory c ≡ true
    → is_directory d ≡ false
apart_right c (contents.File bytes) e h = refl
apart_right (contents.File bytes) contents.Directory e h = absurd (false≢true h)
apart_right contents.Directory contents.Directory e h = absurd (false≢true (sym e))
apart_right contents.Absent contents.Directory e h = absurd (false≢true h)
apart_right c contents.Absent e h = refl

-- What is where, after an item went or came.
after_going : (o e r : Bool) (sp sq mq : Contents)
    → (e ≡ true → (o ≡ true) × (r ≡ true) × (sp ≡ sq))
    → (o ≡ true → e ≡ false → r ≡ true → sq ≡ contents.Absent)
    → (o ≡ true → e ≡ false → r ≡ false → mq ≡ contents.Absent)
    → cond e sp (cond (o && not e) contents.Absent mq) ≡ cond (r && o) sq mq
after_going o true r sp sq mq f g h =
    let w = f refl in w.2 ∙ sym (ap (λ b. cond b sq mq) (and_from r o w.1 w.0))
after_going false false true sp sq mq f g h = refl
after_going false false false sp sq mq f g h = refl
after_going true false true sp sq mq f g h = sym (g refl refl refl)
after_going true false false sp sq mq f g h = sym (h refl refl refl)

after_coming : (o e r : Bool) (sq mq : Contents)
    → (e ≡ true → (o ≡ true) × (r ≡ true) × (contents.Directory ≡ sq))
    → cond ((o && not e) && r) sq (cond e contents.Directory mq) ≡ cond (r && o) sq mq
after_coming true true r sq mq f =
    let w = f refl in w.2 ∙ sym (ap (λ b. cond (b && true) sq mq) w.1)
after_coming false true r sq mq f = absurd (false≢true (f refl).0)
after_coming true false true sq mq f = refl
after_coming true false false sq mq f = refl
after_coming false false true sq mq f = refl
after_coming false false false sq mq f = refl

pub each-append : (f : Path → Contents) (xs ys : List Path)
    → each f (xs ++ ys) ≡ each f xs ++ each f ys
each-append f [] ys = refl
each-append f (x ∷ xs) ys = ap (λ cs. (x, f x) ∷ cs) (each-append f xs ys)

each_alike : (f g : Path → Contents) (xs : List Path) → ((q : Path) → among q xs ≡ true → f q ≡ g q)
    → each f xs ≡ each g xs
each_alike f g [] same = refl
each_alike f g (x ∷ xs) same =
    let here : f x ≡ g x = same x (ap (λ b. b || among x xs) (path_itself x)) in
    let more : each f xs ≡ each g xs = each_alike f g xs
    (λ q e. same q (or_right (eq_by_cmp path_cmp q x) (among q xs) e)) in
    ap (λ c. (x, c) ∷ each f xs) here ∙ ap (λ cs. (x, g x) ∷ cs) more

-- A path is over another one: it is it, or the other one is below it.
below_or : (p q : Path) → is_below p q ≡ (is_over p q && not (path_eq q p))
below_or p q = ap (λ b. is_over p q && not b) (path_eq-turned p q)

over_below : (p q : Path) → is_over p q ≡ true → path_eq q p ≡ false → is_below p q ≡ true
over_below p q o e = below_or p q ∙ and_from (is_over p q) _ o (ap not e)

kept_over : (ss : List Path) (p x : Path) → list_any (λ s. is_over s p) ss ≡ true
    → is_over p x ≡ true → list_any (λ s. is_over s x) ss ≡ true
kept_over [] p x h o = h
kept_over (s ∷ ss) p x h o =
    elim (is_over s p) as (λ b. is_over s p ≡ b → (b || list_any (λ s. is_over s p) ss) ≡ true
    → list_any (λ s. is_over s x) (s ∷ ss) ≡ true) [
      | true ↦ λ e g. or_left (is_over s x) _ (is_over-transitive s p x e o)
      | false ↦ λ e g. or_right (is_over s x) _ (kept_over ss p x g o)
    ] refl h

longer_names : (p x : Path) → is_over p x ≡ true → 0 < length p → not (length x == 0) ≡ true
longer_names p [] o l = absurd (omega (arith, is_over-length p [] o))
longer_names p (n ∷ x) o l = ap not (one_item n x)

path_over : (P : Parts) (p x y : Path) → reach P p ≡ true → is_over p x ≡ true → is_over x y ≡ true
    → reach P y ≡ true → is_path x ≡ true
path_over P p x y h over o g =
    and_from _ (is_place x) (longer_names p x over (reach-names P p h))
    (is_place-over x y (and_parts (not (length y == 0)) (is_place y) (reach-is_path P y g)).1 o)

module _ (P : Parts) (facts : IsProfile P) (A B : Replica) (O : Archive) (left : IsTree A)
    (right : IsTree B) where
  open scene P A B O use {replica as R, opposite as s, view as V}

  pub differ : (p : Path) → differs V p ≡ true → (reach P p ≡ true)
      × (mark_eq (mark_of (contents_at A p)) (mark_of (contents_at B p)) ≡ false)
  differ p d =
      let two = and_parts (reach P p) (not (mark_eq (V.mark Left p) (V.mark Right p))) d in (
        two.0,
        sym (ap (λ m. mark_eq m (V.mark Right p)) (mark_here P A B O Left p two.0)
            ∙ ap (λ m. mark_eq (mark_of (contents_at A p)) m) (mark_here P A B O Right p two.0))
            ∙ not-true _ two.1,
      )

  pub one_present : (k : Side) (p : Path) → differs V p ≡ true
      → (is_absent (contents_at (R k) p) && is_absent (contents_at (R (other k)) p)) ≡ false
  one_present Left p d = apart_absent (contents_at A p) (contents_at B p) (differ p d).1
  one_present Right p d = swap_and (is_absent (contents_at A p)) (is_absent (contents_at B p))
      (apart_absent (contents_at A p) (contents_at B p) (differ p d).1)

  pub one_directory : (k : Side) (p : Path) → differs V p ≡ true
      → is_directory (contents_at (R (other k)) p) ≡ true
      → is_directory (contents_at (R k) p) ≡ false
  one_directory Left p d h = apart_left (contents_at A p) (contents_at B p) (differ p d).1 h
  one_directory Right p d h = apart_right (contents_at A p) (contents_at B p) (differ p d).1 h

  -- What is reached is closed between an item and what is reached below it.
  closed : (k : Side) (p : Path) → reach P p ≡ true → (x y : Path) → is_below p x ≡ true
      → is_below x y ≡ true → is_absent (contents_at (R k) y) ≡ false → reach P y ≡ true
      → reach P x ≡ true
  closed k p h x y b c there g =
      let o = below_over x y c in
      let over = below_over p x b in
      reach-between P x y facts g o (kept_over P.paths p x (reach-below P p h) over)
      (path_over P p x y h over o g)

  by_parent : (k : Side) (u : Path) → (length u == 0 || is_folder (V.mark k u)) ≡ true
      → is_directory (contents_at (R k) u) ≡ true
  by_parent k [] h = refl
  by_parent k (n ∷ u) h =
      folder_seen P A B O k (n ∷ u)
      (ap (λ b. b || is_folder (V.mark k (n ∷ u))) (sym (one_item n u)) ∙ h)

  parent_there : (k : Side) (p : Path) → has_parent V k p ≡ true
      → is_directory (contents_at (R k) (parent p)) ≡ true
  parent_there k p h = by_parent k (parent p) h

  abbrev group : Side → Path → List Path
  group k p = reverse (going V (other k) p) ++ p ∷ coming V (other k) p

  module _ (k : Side) (p : Path) (d : differs V p ≡ true) (goes : Goes V p k) (M : Replica)
      (t : IsTree M)
      (same : (q : Path) → is_over p q ≡ true → contents_at M q ≡ contents_at (R k) q)
      (above : contents_at M (parent p) ≡ contents_at (R k) (parent p)) where
    reached : reach P p ≡ true
    reached = (differ p d).0

    up : is_directory (contents_at M (parent p)) ≡ true
    up = ap is_directory above ∙ parent_there k p goes.parent

    here : contents_at M p ≡ contents_at (R k) p
    here = same p (is_over-reflexive p)

    under_alike : under M p ≡ under (R k) p
    under_alike =
        same_list (under M p) (under (R k) p) (under_sorted M p) (under_sorted (R k) p)
        (λ q e. let w = of_under M p q e in
        in_under (R k) p q w.0 (ap is_absent (sym (same q (below_over p q w.0))) ∙ w.1))
        (λ q e. let w = of_under (R k) p q e in
        in_under M p q w.0 (ap is_absent (same q (below_over p q w.0)) ∙ w.1))

    abbrev Left_by : Replica → Type 0
    Left_by K = (sets M (each (s k) (group k p)) ≡ Some K) × IsTree K
        × ((q : Path) → contents_at K q ≡ cond (reach P q && is_over p q) (s k q) (contents_at M q))

    itself : (q : Path) → path_eq q p ≡ true → (is_over p q ≡ true) × (reach P q ≡ true)
        × (s k p ≡ s k q)
    itself q e =
        let is : p ≡ q = sym (same_paths q p e) in (
          subst (λ x. is_over p x ≡ true) is (is_over-reflexive p),
          subst (λ x. reach P x ≡ true) is reached,
          ap (s k) is,
        )

    goes_step : is_directory (contents_at (R (other k)) p) ≡ false → (K : Replica) × Left_by K
    goes_step none =
        let w = item_goes M p (s k p) t (reach-names P p reached) up
        (ap (λ c. is_absent c && is_absent (s k p)) here ∙ one_present k p d) in
        let none_there : (q : Path) → is_below p q ≡ true
        → s k q ≡ contents.Absent =
        λ q b. absent_of (s k q) (nothing_below P A B O left right (other k) p q none b) in
        let gone : going V (other k) p ≡ under M p = going_all P A B O left right k p reached goes
        none ∙ sym under_alike in
        let come : coming V (other k) p ≡ [] = coming_is P A B O left right (other k) p
        ∙ ap (filter (reach P)) (none_under P A B O left right (other k) p none) in
        let one : group k p ≡ reverse (under M p) ++ p
        ∷ [] = ap (λ xs. reverse xs ++ p ∷ coming V (other k) p) gone
        ∙ ap (λ ys. reverse (under M p) ++ p ∷ ys) come in
        let two : each (s k) (group k p) ≡ each (λ _. contents.Absent) (reverse (under M p))
        ++ (p, s k p) ∷ [] =
        ap (each (s k)) one ∙ (each-append (s k) (reverse (under M p)) (p ∷ [])
        ∙ ap (λ cs. cs ++ (p, s k p) ∷ [])
        (each_alike (s k) (λ _. contents.Absent) (reverse (under M p))
        (λ q e. none_there q (of_under M p q (sym (among_reverse q (under M p)) ∙ e)).0))) in (
          w.0,
          (
            ap (sets M) two ∙ w.1,
            w.2,
            λ q. w.3 q ∙ (ap
                (λ b. cond (path_eq q p) (s k p) (cond b contents.Absent (contents_at M q)))
                (below_or p q)
                ∙ after_going (is_over p q) (path_eq q p) (reach P q) (s k p) (s k q)
                (contents_at M q) (itself q)
                (λ o e r. none_there q (over_below p q o e))
                (λ o e r. same q o
                ∙ absent_of (contents_at (R k) q)
                (not-false _
                (false_from_ne_true _
                (λ there. false≢true (sym r
                ∙ all_reached P A B O left right k p reached goes none q (over_below p q o e)
                (not-true _ there))))))),
          ),
        )

    comes_step : is_directory (contents_at (R (other k)) p) ≡ true → (K : Replica) × Left_by K
    comes_step dir =
        let none = one_directory k p d dir in
        let it : contents.Directory ≡ s k p = sym (is_a_directory (s k p) dir) in
        let w = item_comes M (R (other k)) p (reach P) t (trees P A B O left right (other k))
        (reach-names P p reached) up (ap is_directory here ∙ none) (closed (other k) p reached) in
        let one : group k p ≡ p ∷ filter (reach P) (under (R (other k)) p) =
        ap (λ xs. reverse xs ++ p ∷ coming V (other k) p) (none_going P A B O left right k p none)
        ∙ ap (λ ys. p ∷ ys) (coming_is P A B O left right (other k) p) in
        let two : each (s k) (group k p) ≡ (p, contents.Directory)
        ∷ each (s k) (filter (reach P) (under (R (other k)) p)) =
        ap (each (s k)) one
        ∙ ap (λ c. (p, c) ∷ each (s k) (filter (reach P) (under (R (other k)) p))) (sym it) in (
          w.0,
          (
            ap (sets M) two ∙ w.1,
            w.2,
            λ q. w.3 q ∙ (ap
                (λ b. cond (b && reach P q) (s k q)
                (cond (path_eq q p) contents.Directory (contents_at M q))) (below_or p q)
                ∙ after_coming (is_over p q) (path_eq q p) (reach P q) (s k q) (contents_at M q)
                (λ e. let i = itself q e in (i.0, i.1, it ∙ i.2))),
          ),
        )

    step_by : (b : Bool) → is_directory (contents_at (R (other k)) p) ≡ b → (K : Replica)
        × Left_by K
    step_by true e = comes_step e
    step_by false e = goes_step e

    pub step : (K : Replica) × Left_by K
    step = step_by (is_directory (contents_at (R (other k)) p)) refl

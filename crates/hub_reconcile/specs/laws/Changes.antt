-- What holds of each change of the plan for two replicas.
use Rattle.std.proofs.Common.{◌≡◌, true, false, cond, ◌||◌, List, [], ◌∷◌, ◌++◌, map, Option, Some, None, refl, ap, sym, ◌∙◌, subst}
use Rattle.std.specs.Prelude.{filter, reverse, option_map}
use Rattle.std.specs.List.{list_any}
use Rattle.std.proofs.lemmas.Bool.{false≢true, and_parts, false_from_ne_true}
use Rattle.hub_path.specs.laws.General.{is_over-reflexive}
use Rattle.hub_path.specs.Path.{Path, path_eq, is_over}
use Rattle.hub_path.specs.declared.side.Side.{Side}
use Rattle.hub_path.specs.declared.side.Side.TheVariants.{Left, Right}
use Rattle.hub_profile.specs.Parts.{Parts, IsProfile}
use Rattle.hub_tree.specs.Tree.{Replica, Archive, IsTree, contents_at, mark_of}
use Rattle.hub_tree.specs.declared.contents.Mark.{Mark}
use Rattle.hub_tree.specs.declared.contents.Mark.TheVariants as mark
use Rattle.hub_tree.specs.laws.Beneath.{below_over}
use Rattle.hub_tree.specs.laws.Between.{among, among_reverse, among_filter, absent_of}
use Rattle.hub_reconcile.specs.View.{is_present}
use Rattle.hub_reconcile.specs.Items.{other, differs, is_item, changes, change, changes_by, going, coming, below, fate, items, plan}
use Rattle.hub_reconcile.specs.Sides.{side_eq, paths_on}
use Rattle.hub_reconcile.specs.Sync.{fate_over}
use Rattle.hub_reconcile.specs.declared.change.Change.{Change}
use Rattle.hub_reconcile.specs.declared.item.Fate.{Fate}
use Rattle.hub_reconcile.specs.declared.item.Fate.TheVariants.{To, Skip}
use Rattle.hub_reconcile.specs.laws.Over.{find-longer}
use Rattle.hub_reconcile.specs.laws.Views.{scene, mark_here, same_paths}
use Rattle.hub_reconcile.specs.laws.Below.{of_going, below_of}
use Rattle.hub_reconcile.specs.laws.Steps.{differ}
use Rattle.hub_reconcile.specs.laws.Synced.{over_itself, item_differs, flat_items, of_items, all_items}
use Rattle.hub_reconcile.specs.laws.Each.{Each, Each-append, each-map, each-flat_map, each-among}

pub same_side : (a b : Side) → side_eq a b ≡ true → a ≡ b
same_side Left Left e = refl
same_side Right Right e = refl
same_side Left Right e = absurd (false≢true e)
same_side Right Left e = absurd (false≢true e)

module _ (P : Parts) (facts : IsProfile P) (A B : Replica) (O : Archive) (left : IsTree A)
    (right : IsTree B) where
  open scene P A B O use {replica as R, view as V}

  -- Its mark is that of the other side's contents; and the item over it goes to its side.
  abbrev pub IsGood : Change → Type 0
  IsGood c = (c.mark ≡ mark_of (contents_at (R (other c.side)) c.path))
      × (fate_over V c.path ≡ Some (To c.side))

  abbrev IsGoodAt : Side → Path → Mark → Type 0
  IsGoodAt k q m = (m ≡ mark_of (contents_at (R (other k)) q)) × (fate_over V q ≡ Some (To k))

  module _ (k : Side) (p : Path) (is : is_item V p ≡ true) (to : fate V p ≡ To k) where
    fated : (q : Path) → is_over p q ≡ true → fate_over V q ≡ Some (To k)
    fated q o = ap (option_map (fate V)) (find-longer (differs V) p q p o (over_itself V p is))
        ∙ ap (λ f. Some f) to

    item_good : IsGoodAt k p (V.mark (other k) p)
    item_good = (
      mark_here P A B O (other k) p (differ P facts A B O left right p (item_differs V p is)).0,
      fated p (is_over-reflexive p),
    )

    going_good : (q : Path) → among q (going V (other k) p) ≡ true → IsGoodAt k q mark.Absent
    going_good q e =
        let w = of_going P A B O left right k p q e in
        let none = absent_of (contents_at (R (other k)) q) w.3 in
        (sym (ap mark_of none), fated q (below_over p q w.0))

    coming_good : (q : Path) → among q (coming V (other k) p) ≡ true
        → IsGoodAt k q (V.mark (other k) q)
    coming_good q e =
        let two = and_parts (is_present (V.mark (other k) q)) (among q (below V p))
        (sym (among_filter q (λ q. is_present (V.mark (other k) q)) (below V p)) ∙ e) in
        let place = below_of P A B O left right p q two.1 in
        (mark_here P A B O (other k) q place.1, fated q (below_over p q place.0))

    group_parts : Each IsGood
        (map (λ q. change k q mark.Absent) (reverse (going V (other k) p))
        ++ change k p (V.mark (other k) p)
        ∷ map (λ q. change k q (V.mark (other k) q)) (coming V (other k) p))
    group_parts =
        Each-append IsGood (map (λ q. change k q mark.Absent) (reverse (going V (other k) p))) _
        (each-map IsGood (λ q. change k q mark.Absent) (reverse (going V (other k) p))
        (each-among (λ q. IsGoodAt k q mark.Absent) (reverse (going V (other k) p))
        (λ q e. going_good q (sym (among_reverse q (going V (other k) p)) ∙ e)))) (
          item_good,
          each-map IsGood (λ q. change k q (V.mark (other k) q)) (coming V (other k) p)
              (each-among (λ q. IsGoodAt k q (V.mark (other k) q)) (coming V (other k) p)
              coming_good),
        )

  group_good : (k : Side) (p : Path) → is_item V p ≡ true → fate V p ≡ To k
      → Each IsGood (changes V (other k) p)
  group_good Left p is to = group_parts Left p is to
  group_good Right p is to = group_parts Right p is to

  item_changes_good : (p : Path) (f : Fate) → is_item V p ≡ true → fate V p ≡ f
      → Each IsGood (changes_by V p f)
  item_changes_good p (To k) is to = group_good k p is to
  item_changes_good p (Skip why) is to = tt

  pub plan_good : Each IsGood (plan V)
  unfolding plan items
  plan_good =
      subst (λ (cs : List Change). Each IsGood cs)
      (sym (flat_items V (all_items P facts A B O left right)))
      (each-flat_map IsGood (λ x. changes_by V x (fate V x)) (all_items P facts A B O left right)
      (each-among (λ x. Each IsGood (changes_by V x (fate V x)))
      (all_items P facts A B O left right)
      (λ x e. item_changes_good x (fate V x) (of_items P facts A B O left right x e) refl)))

  receiver_of : Side → Option Fate → Side
  receiver_of k None = k
  receiver_of k (Some (Skip why)) = k
  receiver_of k (Some (To side)) = side

  same_receiver : (a b : Side) → Some (To a) ≡ Some (To b) → a ≡ b
  unfolding receiver_of
  same_receiver a b e = ap (receiver_of a) e

  not_other : (k : Side) → other k ≡ k → ⊥
  not_other Left e = cc
  not_other Right e = cc

  -- A path that changes on a side changes on the other one nowhere.
  pub apart_on : (k : Side) (q : Path) (cs : List Change) → Each IsGood cs
      → fate_over V q ≡ Some (To k) → list_any (path_eq q) (paths_on (other k) cs) ≡ false
  apart_on k q [] good e = refl
  apart_on k q (c ∷ cs) good e =
      elim (side_eq c.side (other k)) as (λ b. side_eq c.side (other k) ≡ b
      → list_any (path_eq q)
      (map (λ c. c.path)
      (cond b (c ∷ filter (λ c. side_eq c.side (other k)) cs)
      (filter (λ c. side_eq c.side (other k)) cs))) ≡ false) [
        | true ↦ λ g.
            let away : path_eq q c.path ≡ false = false_from_ne_true _ (λ h.
            let is : q ≡ c.path = same_paths q c.path h in
            let two : Some (To c.side) ≡ Some (To k) = sym good.0.1
            ∙ (ap (fate_over V) (sym is) ∙ e) in
            not_other k (sym (same_side c.side (other k) g) ∙ same_receiver c.side k two)) in
            ap (λ b. b || list_any (path_eq q) (paths_on (other k) cs)) away
            ∙ apart_on k q cs good.1 e
        | false ↦ λ g. apart_on k q cs good.1 e
      ] refl

-- What stands right below a path, told by contents.
use Rattle.std.proofs.Common.{◌≡◌, Bool, true, false, not, ◌&&◌, [], ◌∷◌, ◌++◌, Option, Some, None, refl, ap, sym, ◌∙◌, subst}
use Rattle.std.specs.FinMap as fin
use Rattle.std.specs.List.{filter, list_any}
use Rattle.std.specs.List.Sorted.{IsStrictlySortedBy}
use Rattle.std.proofs.lemmas.List.Kept.{IsStrictlySortedBy-filter}
use Rattle.hub_path.specs.Path.{Path, path_cmp, path_eq, last_name}
use Rattle.std.specs.Option.{is_some, unwrap_or}
use Rattle.std.proofs.Math.Bool.{and-false}
use Rattle.hub_tree.specs.Below.{is_below, under}
use Rattle.hub_tree.specs.Tree.{Replica, IsTree, contents_at, is_absent, is_child, children}
use Rattle.hub_tree.specs.declared.contents.Contents.{Contents}
use Rattle.hub_tree.specs.declared.contents.Contents.TheVariants as contents
use Rattle.hub_tree.specs.laws.Beneath.{below_from}
use Rattle.hub_tree.specs.laws.Order.{path_total, path_antisymmetric}
use Rattle.hub_tree.specs.laws.Children.{same_sorted, sorted_keys, child_of, any_children-push, child_names}
use Rattle.hub_tree.specs.laws.Between.{among, any_equal, among_filter, under_sorted}
use Rattle.hub_tree.specs.laws.Contented.{shown_contents}

abbrev stands_below : Replica → Path → Path → Bool
stands_below m d q = is_child d q && not (is_absent (contents_at m q))

among_children_by : (m : Replica) (d q : Path) (b : Bool) → is_child d q ≡ b → among q (children m d) ≡ (b && not (is_absent (contents_at m q)))
among_children_by m d q true e =
    let is = child_of d q e in
    subst (λ x. among x (children m d) ≡ not (is_absent (contents_at m x))) (sym is)
    (any_children-push m d (last_name q) ∙ shown_contents m (d ++ last_name q ∷ []) (child_names d (last_name q)))
among_children_by m d q false e =
    among_filter q (stands_below m d) (fin.keys m) ∙ ap (λ b. (b && not (is_absent (contents_at m q))) && among q (fin.keys m)) e

children_sorted : (m : Replica) (d : Path) → IsStrictlySortedBy path_cmp (children m d)
children_sorted m d = IsStrictlySortedBy-filter path_cmp (stands_below m d) (fin.keys m) (sorted_keys path_cmp (fin.entries m) (fin.entries_sorted m))

alike_at : (f b : Bool) (x y : Bool) → (b ≡ true → f ≡ true → x ≡ y) → (f && (b && x)) ≡ (f && (b && y))
alike_at true true x y e = e refl refl
alike_at true false x y e = refl
alike_at false b x y e = refl

pub children_alike : (m k : Replica) (d : Path) (f : Path → Bool) → ((q : Path) → is_child d q ≡ true → f q ≡ true → contents_at m q ≡ contents_at k q)
    → filter f (children m d) ≡ filter f (children k d)
children_alike m k d f same =
    same_sorted path_cmp path_total path_antisymmetric (filter f (children m d)) (filter f (children k d))
    (IsStrictlySortedBy-filter path_cmp f (children m d) (children_sorted m d))
    (IsStrictlySortedBy-filter path_cmp f (children k d) (children_sorted k d))
    (λ q. among_filter q f (children m d) ∙ ap (λ b. f q && b) (among_children_by m d q (is_child d q) refl)
    ∙ alike_at (f q) (is_child d q) _ _ (λ e g. ap (λ c. not (is_absent c)) (same q e g))
    ∙ sym (among_filter q f (children k d) ∙ ap (λ b. f q && b) (among_children_by k d q (is_child d q) refl)))

pub children_members : (m : Replica) (d q : Path) → list_any (path_eq q) (children m d) ≡ (is_child d q && not (is_absent (contents_at m q)))
children_members m d q = any_equal q (children m d) ∙ among_children_by m d q (is_child d q) refl

-- All that a replica has is under its top.
no_some : (c : Contents) → ◌≡◌ {A = Option Contents} None (Some c) → ⊥
no_some c e = cc

present_of : (m : Replica) (p : Path) (c : Contents) → IsTree m → fin.get m p ≡ Some c → is_absent c ≡ false
present_of m p (contents.File bytes) t e = refl
present_of m p contents.Directory t e = refl
present_of m p contents.Absent t e = absurd (t.present p e)

top_at : (m : Replica) (q : Path) (o : Option Contents) → IsTree m → fin.get m q ≡ o → ((is_below [] q && not (is_absent (contents_at m q))) && is_some o) ≡ is_some o
top_at m q None t e = and-false _
top_at m [] (Some c) t e = absurd (no_some c (sym t.no_top ∙ e))
top_at m (n ∷ p) (Some c) t e =
    rw (below_from [] n p, ap (λ o. is_absent (unwrap_or o contents.Absent)) e ∙ present_of m (n ∷ p) c t e) refl

pub under_top : (m : Replica) → IsTree m → under m [] ≡ fin.keys m
under_top m t =
    same_sorted path_cmp path_total path_antisymmetric (under m []) (fin.keys m) (under_sorted m []) (sorted_keys path_cmp (fin.entries m) (fin.entries_sorted m))
    (λ q. among_filter q (λ p. is_below [] p && not (is_absent (contents_at m p))) (fin.keys m)
    ∙ ap (λ b. (is_below [] q && not (is_absent (contents_at m q))) && b) (sym (fin.contains_key-keys m q))
    ∙ (top_at m q (fin.get m q) t refl ∙ fin.contains_key-keys m q))

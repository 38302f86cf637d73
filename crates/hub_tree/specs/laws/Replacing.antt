-- What an item of a reconciliation does to a replica: what is below a path goes and the path is
-- set, or the path becomes a directory and what is below it comes. And what any run of Sets keeps.
use Rattle.std.proofs.Common.{◌≡◌, ◌<◌, Bool, true, false, cond, not, ◌&&◌, List, [], ◌∷◌, ◌++◌, length, Option, Some, None, refl, ap, sym, ◌∙◌, subst}
use Rattle.std.specs.Prelude.{if◌then◌else◌, reverse}
use Rattle.std.specs.Option.{is_some, option_and_then}
use Rattle.std.specs.List.{filter, list_any}
use Rattle.std.specs.declared.cmp.Ordering.TheVariants.{Less}
use Rattle.std.proofs.lemmas.Bool.{false≢true, or_parts, false_from_ne_true}
use Rattle.std.proofs.Math.Bool.{and-false}
use Rattle.hub_path.specs.laws.General.{path_eq-decides}
use Rattle.hub_path.specs.Path.{Path, path_cmp, path_eq, parent}
use Rattle.hub_tree.specs.Below.{is_below, under}
use Rattle.hub_tree.specs.Sets.{sets, each}
use Rattle.hub_tree.specs.Tree.{Replica, IsTree, contents_at, is_absent, is_directory, set_fault, with_contents}
use Rattle.hub_tree.specs.declared.contents.Contents.{Contents}
use Rattle.hub_tree.specs.declared.contents.Contents.TheVariants as contents
use Rattle.hub_tree.specs.declared.fault.SetFault.{SetFault}
use Rattle.hub_tree.specs.laws.Order.{path_itself}
use Rattle.hub_tree.specs.laws.Children.{path_eq-cmp, some_length}
use Rattle.hub_tree.specs.laws.Beneath.{below_from, below_rest, below_order, above_directory}
use Rattle.hub_tree.specs.laws.Between.{not_both, not_below_itself, parent_order, nothing_under}
use Rattle.hub_tree.specs.laws.Contented.{MayBeSet, no_fault, no_fault-from, some_names, contents_by_eq-after, absent_childless, IsTree-after}
use Rattle.hub_tree.specs.laws.Runs.{all_down, all_up, sets-append, IsClosed}

-- What an optional replica is, and what it has.
abbrev IsTreeOf : Option Replica → Type 0
IsTreeOf None = Unit {0}
IsTreeOf (Some m) = IsTree m

abbrev contents_or : Replica → Option Replica → Path → Contents
contents_or m None q = contents_at m q
contents_or m (Some k) q = contents_at k q

after_it : (p q : Path) → is_below p q ≡ true → path_cmp p q ≡ Less
after_it p q b = let w = below_rest p q b in ap (path_cmp p) w.2 ∙ below_order p w.0 w.1

-- The parent isn't below, nor is the path itself.
pub parent_not_below : (p : Path) → 0 < length p → is_below p (parent p) ≡ false
parent_not_below p l =
    false_from_ne_true _ (λ b. not_both p (parent p) (after_it p (parent p) b) (parent_order p l))

pub itself_not_below : (p : Path) → is_below p p ≡ false
itself_not_below p = false_from_ne_true _ (λ b. not_below_itself p b)

-- A Set isn't refused: said by the contents of the parent, of the path and of the paths right below
-- it.
pub goes_through : (m : Replica) (p : Path) (c : Contents) → 0 < length p
    → is_directory (contents_at m (parent p)) ≡ true
    → ((q : Path) → is_below p q ≡ true → contents_at m q ≡ contents.Absent)
    → (is_absent (contents_at m p) && is_absent c) ≡ false → MayBeSet m p c
goes_through m p c l up bare there = record {
  names = some_length p l;
  parent = up;
  bare =
      ap (λ b. is_directory (contents_at m p) && not (is_directory c) && not b)
      (absent_childless m p (λ n. ap is_absent (bare (p ++ n ∷ []) (below_from p n []))))
      ∙ and-false (is_directory (contents_at m p) && not (is_directory c));
  there = there;
}

one_set : (k : Replica) (p : Path) (c : Contents) → set_fault k p c ≡ None
    → sets k ((p, c) ∷ []) ≡ Some (with_contents k p c)
one_set k p c free = ap (λ o. if is_some o then None else Some (with_contents k p c)) free

pub item_goes : (m : Replica) (p : Path) (c : Contents) → IsTree m → 0 < length p
    → is_directory (contents_at m (parent p)) ≡ true
    → (is_absent (contents_at m p) && is_absent c) ≡ false
    → (k : Replica) × (sets m (each (λ _. contents.Absent) (reverse (under m p)) ++ (p, c) ∷ [])
    ≡ Some k) × IsTree k
    × ((q : Path) → contents_at k q ≡ (if path_eq q p then c
    else (if is_below p q then contents.Absent else contents_at m q)))
item_goes m p c t l up there =
    let w = all_down m p t in
    let at_parent : contents_at w.0 (parent p) ≡ contents_at m (parent p) =
    w.3 (parent p) ∙ ap (λ b. cond b contents.Absent (contents_at m (parent p)))
    (parent_not_below p l) in
    let at_it : contents_at w.0 p ≡ contents_at m p =
    w.3 p ∙ ap (λ b. cond b contents.Absent (contents_at m p)) (itself_not_below p) in
    let free = no_fault-from w.0 p c (goes_through w.0 p c l (ap is_directory at_parent ∙ up)
    (λ q b. w.3 q ∙ ap (λ d. cond d contents.Absent (contents_at m q)) b)
    (ap (λ d. is_absent d && is_absent c) at_it ∙ there)) in (
      with_contents w.0 p c,
      sets-append m (each (λ _. contents.Absent) (reverse (under m p))) ((p, c) ∷ [])
          ∙ ap (option_and_then (λ k. sets k ((p, c) ∷ []))) w.1 ∙ one_set w.0 p c free,
      IsTree-after w.0 p c w.2 free,
      λ q. contents_by_eq-after w.0 p q c l ∙ ap (λ d. if path_eq q p then c else d) (w.3 q),
    )

absent_or : (m : Replica) (p q : Path) (a : Bool) (c : Contents) → IsTree m
    → is_directory (contents_at m p) ≡ false → is_below p q ≡ true → contents_at m q ≡ c
    → is_absent c ≡ a → contents_at m q ≡ contents.Absent
absent_or m p q a (contents.File bytes) t none b e f =
    absurd (false≢true (sym none ∙ ap is_directory (above_directory m p q t b (ap is_absent e))))
absent_or m p q a contents.Directory t none b e f =
    absurd (false≢true (sym none ∙ ap is_directory (above_directory m p q t b (ap is_absent e))))
absent_or m p q a contents.Absent t none b e f = e

not_equal : (p q : Path) → is_below p q ≡ true → path_eq q p ≡ false
not_equal p q b =
    false_from_ne_true _ (λ e. not_below_itself p
    (subst (λ x. is_below p x ≡ true) ((path_eq-decides q p).0 e) b))

pub item_comes : (m s : Replica) (p : Path) (f : Path → Bool) → IsTree m → IsTree s → 0 < length p
    → is_directory (contents_at m (parent p)) ≡ true → is_directory (contents_at m p) ≡ false
    → IsClosed s p f
    → (k : Replica) × (sets m ((p, contents.Directory)
    ∷ each (contents_at s) (filter f (under s p))) ≡ Some k) × IsTree k
    × ((q : Path) → contents_at k q ≡ (if is_below p q && f q then contents_at s q
    else (if path_eq q p then contents.Directory else contents_at m q)))
item_comes m s p f t u l up none closed =
    let bare : (q : Path) → is_below p q ≡ true → contents_at m q ≡ contents.Absent =
    λ q b. absent_or m p q (is_absent (contents_at m q)) (contents_at m q) t none b refl refl in
    let free = no_fault-from m p contents.Directory
    (goes_through m p contents.Directory l up bare (and-false (is_absent (contents_at m p)))) in
    let k = with_contents m p contents.Directory in
    let at : (q : Path) → contents_at k q
    ≡ (if path_eq q p then contents.Directory else contents_at m q) =
    λ q. contents_by_eq-after m p q contents.Directory l in
    let it : contents_at k p ≡ contents.Directory =
    at p ∙ ap (λ b. cond b contents.Directory (contents_at m p))
    (path_eq-cmp p p ∙ path_itself p) in
    let empty : under k p ≡ [] = (nothing_under k p).1
    (λ q b. at q ∙ ap (λ d. cond d contents.Directory (contents_at m q)) (not_equal p q b)
    ∙ bare q b) in
    let w = all_up k s p f (IsTree-after m p contents.Directory t free) u it empty closed in (
      w.0,
      ap (λ o. if is_some o then None else sets k
          (each (contents_at s) (filter f (under s p)))) free ∙ w.1,
      w.2,
      λ q. w.3 q ∙ ap (cond (is_below p q && f q) (contents_at s q)) (at q),
    )

-- Runs of Sets.
by_fault : (o : Option SetFault) (x : Option Replica) (k : Replica)
    → (if is_some o then None else x) ≡ Some k → (o ≡ None) × (x ≡ Some k)
by_fault None x k e = (refl, e)
by_fault (Some f) x k e = cc

pub sets_keep_trees : (m k : Replica) (cs : List (Path × Contents)) → IsTree m → sets m cs ≡ Some k
    → IsTree k
sets_keep_trees m k [] t e = subst IsTreeOf e t
sets_keep_trees m k (c ∷ cs) t e =
    let w = by_fault (set_fault m c.0 c.1) (sets (with_contents m c.0 c.1) cs) k e in
    sets_keep_trees (with_contents m c.0 c.1) k cs (IsTree-after m c.0 c.1 t w.0) w.1

some_same : (m k : Replica) → Some m ≡ Some k → (q : Path) → contents_at k q ≡ contents_at m q
some_same m k e q = sym (ap (λ o. contents_or m o q) e)

pub sets_keep_the_rest : (m k : Replica) (cs : List (Path × Contents)) (q : Path)
    → sets m cs ≡ Some k → list_any (λ c. path_eq q c.0) cs ≡ false
    → contents_at k q ≡ contents_at m q
sets_keep_the_rest m k [] q e h = some_same m k e q
sets_keep_the_rest m k (c ∷ cs) q e h =
    let w = by_fault (set_fault m c.0 c.1) (sets (with_contents m c.0 c.1) cs) k e in
    let two = or_parts (path_eq q c.0) (list_any (λ d. path_eq q d.0) cs) h in
    sets_keep_the_rest (with_contents m c.0 c.1) k cs q w.1 two.1
    ∙ contents_by_eq-after m c.0 q c.1 (some_names c.0 (no_fault m c.0 c.1 w.0).names)
    ∙ ap (λ b. cond b c.1 (contents_at m q)) two.0

by_first : (o : Option Replica) (ds : List (Path × Contents)) (k : Replica)
    → option_and_then (λ j. sets j ds) o ≡ Some k
    → (j : Replica) × (o ≡ Some j) × (sets j ds ≡ Some k)
by_first None ds k e = cc
by_first (Some j) ds k e = (j, refl, e)

pub sets_begin : (m k : Replica) (cs ds : List (Path × Contents)) → sets m (cs ++ ds) ≡ Some k
    → (j : Replica) × (sets m cs ≡ Some j) × (sets j ds ≡ Some k)
sets_begin m k cs ds e = by_first (sets m cs) ds k (sym (sets-append m cs ds) ∙ e)

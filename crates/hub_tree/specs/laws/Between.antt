-- The paths below a path, in order: what comes before one of them, and what after it.
use Rattle.std.proofs.Common.{◌≡◌, ◌<◌, Bool, true, false, not, ◌&&◌, ◌||◌, List, [], ◌∷◌, ◌++◌, length, Option, Some, None, refl, ap, sym, ◌∙◌, arith, append_assoc, length-append}
use Rattle.std.specs.Prelude.{◌↔◌, reverse}
use Rattle.std.specs.FinMap as fin
use Rattle.std.specs.Option.{is_some, unwrap_or}
use Rattle.std.specs.List.{list_any, filter, AllByRecursion}
use Rattle.std.specs.List.Sorted.{IsStrictlySortedBy}
use Rattle.std.specs.Ordering.{eq_by_cmp, ordering_reverse}
use Rattle.std.specs.declared.cmp.Ordering.TheVariants.{Less, Greater}
use Rattle.std.proofs.lemmas.Bool.{false≢true, and_parts, not-true}
use Rattle.std.proofs.lemmas.Grind.{reverse_onto}
use Rattle.std.proofs.lemmas.List.{reverse-reverse, reverse-append}
use Rattle.std.proofs.lemmas.List.Folds.{list_any-append}
use Rattle.std.proofs.lemmas.List.Kept.{IsStrictlySortedBy-filter}
use Rattle.std.proofs.lemmas.List.Sorted.{list_any-IsPermutation, IsPermutation-reverse}
use Rattle.std.proofs.lemmas.Map.Keys.{sorted_head, sorted_tail}
use Rattle.std.proofs.lemmas.Map.Views.{any-filter_same}
use Rattle.std.proofs.Math.Bool.{or-true}
use Rattle.hub_path.specs.laws.General.{parent-last_name, parent-push}
use Rattle.hub_path.specs.Path.{Name, Path, path_cmp, path_eq, parent, last_name}
use Rattle.hub_tree.specs.Below.{is_below, under}
use Rattle.hub_tree.specs.Tree.{Replica, contents_at, is_absent}
use Rattle.hub_tree.specs.declared.contents.Contents.{Contents}
use Rattle.hub_tree.specs.declared.contents.Contents.TheVariants as contents
use Rattle.hub_tree.specs.laws.Order.{path_total, same_path, path_itself}
use Rattle.hub_tree.specs.laws.Children.{sorted_keys, path_eq-cmp}
use Rattle.hub_tree.specs.laws.Beneath.{below_from, below_rest, below_order}

-- whether a path is in a list
abbrev pub among : Path → List Path → Bool
among p ps = list_any (eq_by_cmp path_cmp p) ps

pub any_equal : (q : Path) (ps : List Path) → list_any (path_eq q) ps ≡ among q ps
any_equal q [] = refl
any_equal q (p ∷ ps) = rw (path_eq-cmp q p, any_equal q ps) refl

pub among_middle : (q : Path) (front rest : List Path) → among q (front ++ q ∷ rest) ≡ true
among_middle q front rest =
    list_any-append (eq_by_cmp path_cmp q) front (q ∷ rest)
    ∙ ap (λ b. among q front || (b || among q rest)) (path_itself q) ∙ or-true (among q front)

pub among_reverse : (q : Path) (ps : List Path) → among q (reverse ps) ≡ among q ps
among_reverse q ps =
    sym (list_any-IsPermutation (eq_by_cmp path_cmp q) ps (reverse ps) (IsPermutation-reverse ps))

pub among_filter : (q : Path) (f : Path → Bool) (ps : List Path)
    → among q (filter f ps) ≡ (f q && among q ps)
among_filter q f ps =
    any-filter_same (eq_by_cmp path_cmp q) f (f q) (λ k e. ap f (sym (same_path q k e))) ps

none_of : (a b c : Bool) → (a ≡ true → ⊥) → (b ≡ true → ⊥) → (c ≡ true → ⊥)
    → (a || (b || c)) ≡ true → ⊥
none_of true b c f g h e = f refl
none_of false true c f g h e = g refl
none_of false false c f g h e = h e

-- A path that is in a list is before this one, is this one, or is after it.
pub among-none : (x q : Path) (front rest : List Path) → (among x front ≡ true → ⊥) → (x ≡ q → ⊥)
    → (among x rest ≡ true → ⊥) → among x (front ++ q ∷ rest) ≡ true → ⊥
among-none x q front rest before here after e =
    none_of (among x front) (eq_by_cmp path_cmp x q) (among x rest) before
    (λ e. here (same_path x q e)) after
    (sym (list_any-append (eq_by_cmp path_cmp x) front (q ∷ rest)) ∙ e)

pub turned : (front rest ps : List Path) (q : Path) → front ++ q ∷ rest ≡ reverse ps
    → reverse rest ++ q ∷ reverse front ≡ ps
turned front rest ps q e =
    sym (ap (λ s. s ++ reverse front) (reverse_onto rest q [])
    ∙ append_assoc (reverse rest) (q ∷ []) (reverse front))
    ∙ sym (reverse-append front (q ∷ rest)) ∙ ap reverse e ∙ reverse-reverse ps

-- the order of two paths
pub not_both : (x y : Path) → path_cmp x y ≡ Less → path_cmp y x ≡ Less → ⊥
not_both x y h g =
    let e : Less ≡ Greater = sym h ∙ path_total.antisymm x y ∙ ap ordering_reverse g in cc

one_less : (k x p : Path) (b r : Bool) → eq_by_cmp path_cmp x p ≡ b → path_cmp k p ≡ Less
    → (r ≡ true → path_cmp k x ≡ Less) → (b || r) ≡ true → path_cmp k x ≡ Less
one_less k x p true r e h rest g = ap (path_cmp k) (same_path x p e) ∙ h
one_less k x p false r e h rest g = rest g

each_less : (k x : Path) (ps : List Path) → AllByRecursion (λ y. path_cmp k y ≡ Less) ps
    → among x ps ≡ true → path_cmp k x ≡ Less
each_less k x [] h e = absurd (false≢true e)
each_less k x (p ∷ ps) h e =
    one_less k x p (eq_by_cmp path_cmp x p) (among x ps) refl h.0 (λ g. each_less k x ps h.1 g) e

one_before : (x p q : Path) (b r : Bool) → eq_by_cmp path_cmp x p ≡ b → path_cmp p q ≡ Less
    → (r ≡ true → path_cmp x q ≡ Less) → (b || r) ≡ true → path_cmp x q ≡ Less
one_before x p q true r e h rest g = ap (λ y. path_cmp y q) (same_path x p e) ∙ h
one_before x p q false r e h rest g = rest g

pub before : (front rest : List Path) (q x : Path)
    → IsStrictlySortedBy path_cmp (front ++ q ∷ rest) → among x front ≡ true → path_cmp x q ≡ Less
before [] rest q x s e = absurd (false≢true e)
before (p ∷ front) rest q x s e =
    one_before x p q (eq_by_cmp path_cmp x p) (among x front) refl
    (each_less p q (front ++ q ∷ rest) (sorted_head path_cmp p (front ++ q ∷ rest) s)
    (among_middle q front rest))
    (λ g. before front rest q x (sorted_tail path_cmp p (front ++ q ∷ rest) s) g) e

pub behind : (front rest : List Path) (q x : Path)
    → IsStrictlySortedBy path_cmp (front ++ q ∷ rest) → among x rest ≡ true → path_cmp q x ≡ Less
behind [] rest q x s e = each_less q x rest (sorted_head path_cmp q rest s) e
behind (p ∷ front) rest q x s e =
    behind front rest q x (sorted_tail path_cmp p (front ++ q ∷ rest) s) e

-- what is below a path
pub below_names : (p q : Path) → is_below p q ≡ true → 0 < length q
below_names p q h =
    let w = below_rest p q h in omega (arith, ap length w.2, length-append p (w.0 ∷ w.1))

pub not_below_itself : (p : Path) → is_below p p ≡ true → ⊥
not_below_itself p h =
    let w = below_rest p p h in absurd (omega (arith, ap length w.2, length-append p (w.0 ∷ w.1)))

pub below_child : (p q : Path) (n : Name) → is_below p q ≡ true → is_below p (q ++ n ∷ []) ≡ true
below_child p q n h =
    let w = below_rest p q h in
    ap (is_below p) (ap (λ q. q ++ n ∷ []) w.2 ∙ append_assoc p (w.0 ∷ w.1) (n ∷ []))
    ∙ below_from p w.0 (w.1 ++ n ∷ [])

pub under_sorted : (m : Replica) (p : Path) → IsStrictlySortedBy path_cmp (under m p)
under_sorted m p =
    IsStrictlySortedBy-filter path_cmp (λ q. is_below p q && not (is_absent (contents_at m q)))
    (fin.keys m) (sorted_keys path_cmp (fin.entries m) (fin.entries_sorted m))

some_there : (o : Option Contents) → is_absent (unwrap_or o contents.Absent) ≡ false
    → is_some o ≡ true
some_there None h = absurd (false≢true (sym h))
some_there (Some c) h = refl

pub among_keys : (m : Replica) (q : Path) → is_absent (contents_at m q) ≡ false → 0 < length q
    → among q (fin.keys m) ≡ true
among_keys m [] h l = absurd (omega arith)
among_keys m (n ∷ q) h l = sym (fin.contains_key-keys m (n ∷ q)) ∙ some_there (fin.get m (n ∷ q)) h

pub in_under : (m : Replica) (p q : Path) → is_below p q ≡ true
    → is_absent (contents_at m q) ≡ false → among q (under m p) ≡ true
in_under m p q b h =
    among_filter q (λ q. is_below p q && not (is_absent (contents_at m q))) (fin.keys m)
    ∙ rw (b, h, among_keys m q h (below_names p q b)) refl

pub of_under : (m : Replica) (p q : Path) → among q (under m p) ≡ true
    → (is_below p q ≡ true) × (is_absent (contents_at m q) ≡ false)
of_under m p q e =
    let two = and_parts (is_below p q && not (is_absent (contents_at m q))) (among q (fin.keys m))
    (sym (among_filter q (λ q. is_below p q && not (is_absent (contents_at m q))) (fin.keys m))
    ∙ e) in
    let one = and_parts (is_below p q) (not (is_absent (contents_at m q))) two.0 in
    (one.0, not-true (is_absent (contents_at m q)) one.1)

pub absent_of : (c : Contents) → is_absent c ≡ true → c ≡ contents.Absent
absent_of (contents.File bytes) e = absurd (false≢true e)
absent_of contents.Directory e = absurd (false≢true e)
absent_of contents.Absent e = refl

by_absence : (c : Contents) (b h : Bool) → (is_absent c ≡ false → h ≡ true) → h ≡ false
    → is_absent c ≡ b → c ≡ contents.Absent
by_absence c true h f e g = absent_of c g
by_absence c false h f e g = absurd (false≢true (sym e ∙ f g))

-- Nothing is at a path below that isn't among them.
pub not_under : (m : Replica) (p q : Path) → is_below p q ≡ true → among q (under m p) ≡ false
    → contents_at m q ≡ contents.Absent
not_under m p q b h =
    by_absence (contents_at m q) (is_absent (contents_at m q)) (among q (under m p))
    (in_under m p q b) h refl

-- the parent of a path below
parent-append : (p : Path) (n k : Name) (r : Path)
    → parent (p ++ n ∷ k ∷ r) ≡ p ++ n ∷ parent (k ∷ r)
parent-append [] n k r = refl
parent-append (a ∷ []) n k r = refl
parent-append (a ∷ b ∷ p) n k r = ap (λ q. a ∷ q) (parent-append (b ∷ p) n k r)

last_of : (q : Path) → 0 < length q → parent q ++ last_name q ∷ [] ≡ q
last_of [] l = absurd (omega arith)
last_of (n ∷ q) l = parent-last_name n q

by_rest : (p q : Path) (n : Name) (r : Path) (X : Type 0) → q ≡ p ++ n ∷ r → (parent q ≡ p → X)
    → (is_below p (parent q) ≡ true → X) → X
by_rest p q n [] X e top below = top (ap parent e ∙ parent-push p n)
by_rest p q n (k ∷ r) X e top below =
    below (ap (is_below p) (ap parent e ∙ parent-append p n k r) ∙ below_from p n (parent (k ∷ r)))

-- The parent of a path below p is p, or is below p too.
pub parent_below : (p q : Path) (X : Type 0) → is_below p q ≡ true → (parent q ≡ p → X)
    → (is_below p (parent q) ≡ true → X) → X
parent_below p q X h top below =
    let w = below_rest p q h in
    by_rest p q w.0 w.1 X w.2 top below

pub below_parent : (q : Path) → 0 < length q → is_below (parent q) q ≡ true
below_parent q l =
    ap (is_below (parent q)) (sym (last_of q l)) ∙ below_from (parent q) (last_name q) []

pub parent_order : (q : Path) → 0 < length q → path_cmp (parent q) q ≡ Less
parent_order q l =
    ap (path_cmp (parent q)) (sym (last_of q l)) ∙ below_order (parent q) (last_name q) []

-- a path below which nothing is
pub no_members : (ps : List Path) → ((q : Path) → among q ps ≡ true → ⊥) → ps ≡ []
no_members [] f = refl
no_members (p ∷ ps) f = absurd (f p (among_middle p [] ps))

pub nothing_under : (m : Replica) (p : Path)
    → (under m p ≡ []) ↔ ((q : Path) → is_below p q ≡ true → contents_at m q ≡ contents.Absent)
nothing_under m p = (
  λ e q b. not_under m p q b (ap (among q) e),
  λ h. no_members (under m p) (λ q e. let w =
      of_under m p q e in false≢true (sym w.1 ∙ ap is_absent (h q w.0))),
)

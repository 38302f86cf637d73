-- The children of a path, as names.
use Rattle.std.proofs.Common.{◌≡◌, ◌<◌, Bool, true, false, cond, ◌&&◌, ◌||◌, not, T, List, [], ◌∷◌, ◌++◌, map, length, Option, Some, None, refl, ap, sym, ◌∙◌, subst, arith, length-append}
use Rattle.std.specs.Prelude.{◌==◌}
use Rattle.std.specs.FinMap as fin
use Rattle.std.specs.FinMap.Entries.{find, is_sorted, below_all}
use Rattle.std.specs.Option.{is_some}
use Rattle.std.specs.List.{list_any, AllByRecursion}
use Rattle.std.specs.List.Sorted.{IsStrictlySortedBy}
use Rattle.std.specs.Map.{keys_of}
use Rattle.std.specs.Cmp.{IsTotalOrder, tied_itself, both_ways}
use Rattle.std.specs.Cmp.Lexicographic.{slice_cmp, lists_ties, texts_ties}
use Rattle.std.specs.Ordering.{eq_by_cmp, is_lt, nat_cmp, ordering_then}
use Rattle.std.specs.declared.cmp.Ordering.{Ordering}
use Rattle.std.specs.declared.cmp.Ordering.TheVariants.{Less, Equal, Greater}
use Rattle.std.proofs.lemmas.Bool.Decides.{nat_tests}
use Rattle.std.proofs.lemmas.Bool.{false≢true, and_parts}
use Rattle.std.proofs.lemmas.List.Kept.{IsStrictlySortedBy-filter}
use Rattle.std.proofs.lemmas.Map.Views.{any-filter_same}
use Rattle.std.proofs.Math.Bool.{and-true, and-false, and_assoc, and-or_distrib_left}
use Rattle.hub_text.specs.laws.Test.{T-first, T-second, T-less}
pub use Rattle.hub_text.specs.laws.List.{some-item as one_item}
use Rattle.hub_path.specs.laws.General.{parent-last_name, parent-push, last_name-push}
use Rattle.hub_path.specs.Path.{Name, Path, path_cmp, name_cmp, path_eq, parent, last_name, children_named}
use Rattle.hub_tree.specs.Tree.{Replica, contents_at, is_absent, is_child, children}
use Rattle.hub_tree.specs.declared.contents.Contents.{Contents}
use Rattle.hub_tree.specs.laws.Order.{name_total, path_total, path_antisymmetric, same_path, same_name, path_itself, name_itself}
use Rattle.hub_tree.specs.laws.Ascending.{is_sorted-from}

-- two lists in order that have the same items
module _ {K X : Type 0} (R : K → K → Ordering) where
  all_above : (k : K) (es : List (K × X)) → T (below_all R k es)
      → AllByRecursion (λ y. R k y ≡ Less) (keys_of es)
  all_above k [] h = tt
  all_above k (e ∷ es) h = (
    T-less _ (T-first (is_lt (R k e.0)) (below_all R k es) h),
    all_above k es (T-second (is_lt (R k e.0)) (below_all R k es) h),
  )

  pub sorted_keys : (es : List (K × X)) → T (is_sorted R es) → IsStrictlySortedBy R (keys_of es)
  unfolding IsStrictlySortedBy
  sorted_keys [] h = tt
  sorted_keys (e ∷ es) h = (
    all_above e.0 es (T-first (below_all R e.0 es) (is_sorted R es) h),
    sorted_keys es (T-second (below_all R e.0 es) (is_sorted R es) h),
  )

module _ {K : Type 0} (R : K → K → Ordering) where
  marked : List K → List (K × Bool)
  marked ks = map (λ k. (k, true)) ks

  keys_of-marked : (ks : List K) → keys_of (marked ks) ≡ ks
  unfolding marked
  keys_of-marked [] = refl
  keys_of-marked (k ∷ ks) = ap (λ ks. k ∷ ks) (keys_of-marked ks)

  find-marked : (q : K) (ks : List K) → find R q (marked ks)
      ≡ cond (list_any (eq_by_cmp R q) ks) (Some true) None
  unfolding marked
  find-marked q [] = refl
  find-marked q (k ∷ ks) =
      elim (eq_by_cmp R q k) as (λ b. cond b (Some true) (find R q (map (λ k. (k, true)) ks))
      ≡ cond (b || list_any (eq_by_cmp R q) ks)
      (Some true) None) [ true ↦ refl | false ↦ find-marked q ks ]

  map_of : List K → fin.FinMap R Bool
  map_of ks = fin.from_sorted (marked ks)

  keys-map_of : (ks : List K) → IsStrictlySortedBy R ks → fin.keys (map_of ks) ≡ ks
  unfolding map_of
  keys-map_of ks h =
      ap keys_of (fin.entries-from_sorted R (marked ks)
      (is_sorted-from R (marked ks) (subst (λ (ks : List K). IsStrictlySortedBy R ks)
      (sym (keys_of-marked ks)) h))) ∙ keys_of-marked ks

  get-map_of : (ks : List K) (q : K) → IsStrictlySortedBy R ks
      → fin.get (map_of ks) q ≡ cond (list_any (eq_by_cmp R q) ks) (Some true) None
  unfolding map_of
  get-map_of ks q h =
      fin.get-from_sorted R (marked ks) q
      (is_sorted-from R (marked ks) (subst (λ (ks : List K). IsStrictlySortedBy R ks)
      (sym (keys_of-marked ks)) h)) ∙ find-marked q ks

  pub same_sorted : IsTotalOrder R → fin.IsAntisymmetric R → (xs ys : List K)
      → IsStrictlySortedBy R xs → IsStrictlySortedBy R ys
      → ((q : K) → list_any (eq_by_cmp R q) xs ≡ list_any (eq_by_cmp R q) ys) → xs ≡ ys
  same_sorted o same xs ys g h is =
      sym (keys-map_of xs g)
      ∙ ap (λ m. fin.keys m) (fin.same_map o same (map_of xs) (map_of ys)
      (λ q. get-map_of xs q g ∙ ap (λ b. cond b (Some true) None) (is q)
      ∙ sym (get-map_of ys q h)))
      ∙ keys-map_of ys h

-- a path and its last name
pub some_length : (p : Path) → 0 < length p → (length p == 0) ≡ false
some_length p l = grind (arith, nat_tests)

pub path_eq-cmp : (p q : Path) → path_eq p q ≡ eq_by_cmp path_cmp p q
path_eq-cmp p q = lists_ties (slice_cmp nat_cmp) texts_ties p q

pub child_names : (d : Path) (n : Name) → 0 < length (d ++ n ∷ [])
child_names d n = omega (arith, length-append d (n ∷ []))

pub is_child-push : (d : Path) (n : Name) → is_child d (d ++ n ∷ []) ≡ true
is_child-push d n =
    rw (
      some_length (d ++ n ∷ []) (child_names d n),
      parent-push d n,
      path_eq-cmp d d,
      path_itself d,
    ) refl

pub child_of : (d q : Path) → is_child d q ≡ true → q ≡ d ++ last_name q ∷ []
child_of d [] h = cc
child_of d (n ∷ p) h =
    let same : parent (n ∷ p) ≡ d = same_path (parent (n ∷ p)) d
    (sym (path_eq-cmp (parent (n ∷ p)) d)
    ∙ (and_parts (not (length (n ∷ p) == 0)) (path_eq (parent (n ∷ p)) d) h).1) in
    sym (parent-last_name n p) ∙ ap (λ e. e ++ last_name (n ∷ p) ∷ []) same

-- which paths are children
-- whether contents are there, of what a map has
abbrev pub is_there : Option Contents → Bool
is_there None = false
is_there (Some c) = not (is_absent c)

shown_at : (m : Replica) (n : Name) (p : Path) (o : Option Contents) → fin.get m (n ∷ p) ≡ o
    → (not (is_absent (contents_at m (n ∷ p))) && is_some (fin.get m (n ∷ p))) ≡ is_there o
shown_at m n p None e = rw e refl
shown_at m n p (Some c) e = rw e (and-true (not (is_absent c)))

any-children : (m : Replica) (d q : Path)
    → list_any (eq_by_cmp path_cmp q) (children m d)
    ≡ (is_child d q && (not (is_absent (contents_at m q)) && is_some (fin.get m q)))
any-children m d q =
    any-filter_same (eq_by_cmp path_cmp q) (λ p. is_child d p && not (is_absent (contents_at m p)))
    (is_child d q && not (is_absent (contents_at m q)))
    (λ k e. ap (λ p. is_child d p && not (is_absent (contents_at m p))) (sym (same_path q k e)))
    (fin.keys m)
    ∙ ap (λ b. (is_child d q && not (is_absent (contents_at m q))) && b)
    (sym (fin.contains_key-keys m q))
    ∙ and_assoc (is_child d q) _ _

names_shown : (m : Replica) (p : Path) → 0 < length p
    → (not (is_absent (contents_at m p)) && is_some (fin.get m p)) ≡ is_there (fin.get m p)
names_shown m [] l = absurd (omega arith)
names_shown m (n ∷ p) l = shown_at m n p (fin.get m (n ∷ p)) refl

pub any_children-push : (m : Replica) (d : Path) (n : Name)
    → list_any (eq_by_cmp path_cmp (d ++ n ∷ [])) (children m d)
    ≡ is_there (fin.get m (d ++ n ∷ []))
any_children-push m d n =
    any-children m d (d ++ n ∷ [])
    ∙ ap (λ b. b && (not (is_absent (contents_at m (d ++ n ∷ [])))
    && is_some (fin.get m (d ++ n ∷ [])))) (is_child-push d n)
    ∙ names_shown m (d ++ n ∷ []) (child_names d n)

-- a path without children
pub no_items : {X : Type 0} (xs : List X) → (length xs == 0) ≡ true → xs ≡ []
no_items [] h = refl
no_items (x ∷ xs) h = absurd (false≢true (sym (one_item x xs) ∙ h))

pub childless_none : (m : Replica) (d : Path) → (length (children m d) == 0) ≡ true → (n : Name)
    → is_there (fin.get m (d ++ n ∷ [])) ≡ false
childless_none m d h =
    λ n. sym (any_children-push m d n) ∙ ap (list_any (eq_by_cmp path_cmp (d ++ n ∷ [])))
    (no_items (children m d) h)

is_childless : (m : Replica) (d : Path) (ps : List Path)
    → ((q : Path) → list_any (eq_by_cmp path_cmp q) ps
    ≡ (is_child d q && (not (is_absent (contents_at m q)) && is_some (fin.get m q))))
    → ((n : Name) → is_there (fin.get m (d ++ n ∷ [])) ≡ false) → (length ps == 0) ≡ true
is_childless m d [] h none = refl
is_childless m d (q ∷ ps) h none =
    let found : list_any (eq_by_cmp path_cmp q) (q ∷ ps) ≡ true =
    ap (λ b. b || list_any (eq_by_cmp path_cmp q) ps) (path_itself q) in
    let two = and_parts (is_child d q) (not (is_absent (contents_at m q)) && is_some (fin.get m q))
    (sym (h q) ∙ found) in
    let is : q ≡ d ++ last_name q ∷ [] = child_of d q two.0 in
    let there : is_there (fin.get m (d ++ last_name q ∷ [])) ≡ true =
    sym (names_shown m (d ++ last_name q ∷ []) (child_names d (last_name q)))
    ∙ ap (λ p. not (is_absent (contents_at m p)) && is_some (fin.get m p)) (sym is) ∙ two.1 in
    absurd (false≢true (sym (none (last_name q)) ∙ there))

pub none_childless : (m : Replica) (d : Path)
    → ((n : Name) → is_there (fin.get m (d ++ n ∷ [])) ≡ false)
    → (length (children m d) == 0) ≡ true
none_childless m d none = is_childless m d (children m d) (any-children m d) none

pub same_childless : (m n : Replica) (d e : Path)
    → ((k : Name) → fin.get m (d ++ k ∷ []) ≡ fin.get n (e ++ k ∷ []))
    → (length (children m d) == 0) ≡ (length (children n e) == 0)
same_childless m n d e h =
    both_ways _ _
    (λ s. none_childless n e (λ k. ap is_there (sym (h k)) ∙ childless_none m d s k))
    (λ s. none_childless m d (λ k. ap is_there (h k) ∙ childless_none n e s k))

then_equal : (r : Ordering) → ordering_then r Equal ≡ r
then_equal Less = refl
then_equal Equal = refl
then_equal Greater = refl

cmp-pushed : (d : Path) (a b : Name) → path_cmp (d ++ a ∷ []) (d ++ b ∷ []) ≡ name_cmp a b
cmp-pushed [] a b = then_equal (name_cmp a b)
cmp-pushed (n ∷ d) a b =
    ap (λ r. ordering_then r (path_cmp (d ++ a ∷ []) (d ++ b ∷ []))) (tied_itself name_total n)
    ∙ cmp-pushed d a b

above_pushed : (d : Path) (n : Name) (ns : List Name)
    → AllByRecursion (λ k. name_cmp n k ≡ Less) ns
    → AllByRecursion (λ q. path_cmp (d ++ n ∷ []) q ≡ Less) (children_named d ns)
above_pushed d n [] h = tt
above_pushed d n (k ∷ ns) h = (cmp-pushed d n k ∙ h.0, above_pushed d n ns h.1)

sorted_pushed : (d : Path) (ns : List Name) → IsStrictlySortedBy name_cmp ns
    → IsStrictlySortedBy path_cmp (children_named d ns)
unfolding IsStrictlySortedBy
sorted_pushed d [] h = tt
sorted_pushed d (n ∷ ns) h = (above_pushed d n ns h.0, sorted_pushed d ns h.1)

is_pushed : (d q : Path) (k : Name) → eq_by_cmp path_cmp q (d ++ k ∷ [])
    ≡ (is_child d q && eq_by_cmp name_cmp (last_name q) k)
is_pushed d q k =
    both_ways _ _
    (λ e. let is : q ≡ d ++ k ∷ [] = same_path q (d ++ k ∷ []) e in
    ap (λ p. is_child d p && eq_by_cmp name_cmp (last_name p) k) is
    ∙ rw (is_child-push d k, last_name-push d k, name_itself k) refl)
    (λ e. let two = and_parts (is_child d q) (eq_by_cmp name_cmp (last_name q) k) e in
    let is : q ≡ d ++ k ∷ [] = child_of d q two.0
    ∙ ap (λ n. d ++ n ∷ []) (same_name (last_name q) k two.1) in
    ap (λ p. eq_by_cmp path_cmp p (d ++ k ∷ [])) is ∙ path_itself (d ++ k ∷ []))

any-pushed : (d q : Path) (ns : List Name)
    → list_any (eq_by_cmp path_cmp q) (children_named d ns)
    ≡ (is_child d q && list_any (eq_by_cmp name_cmp (last_name q)) ns)
any-pushed d q [] = sym (and-false (is_child d q))
any-pushed d q (k ∷ ns) =
    ap (λ b. b || list_any (eq_by_cmp path_cmp q) (children_named d ns)) (is_pushed d q k)
    ∙ ap (λ b. (is_child d q && eq_by_cmp name_cmp (last_name q) k) || b) (any-pushed d q ns)
    ∙ sym (and-or_distrib_left (is_child d q) _ _)

where_child : (m : Replica) (d q : Path) (ns : List Name)
    → ((n : Name) → is_there (fin.get m (d ++ n ∷ [])) ≡ list_any (eq_by_cmp name_cmp n) ns)
    → (b : Bool) → is_child d q ≡ b
    → (b && (not (is_absent (contents_at m q)) && is_some (fin.get m q)))
    ≡ (b && list_any (eq_by_cmp name_cmp (last_name q)) ns)
where_child m d q ns h false e = refl
where_child m d q ns h true e =
    let is : q ≡ d ++ last_name q ∷ [] = child_of d q e in
    ap (λ p. not (is_absent (contents_at m p)) && is_some (fin.get m p)) is
    ∙ names_shown m (d ++ last_name q ∷ []) (child_names d (last_name q)) ∙ h (last_name q)

-- where these names in order are those of the children
pub children-pushed : (m : Replica) (d : Path) (ns : List Name) → IsStrictlySortedBy name_cmp ns
    → ((n : Name) → is_there (fin.get m (d ++ n ∷ [])) ≡ list_any (eq_by_cmp name_cmp n) ns)
    → children m d ≡ children_named d ns
children-pushed m d ns s h =
    same_sorted path_cmp path_total path_antisymmetric (children m d) (children_named d ns)
    (IsStrictlySortedBy-filter path_cmp (λ p. is_child d p && not (is_absent (contents_at m p)))
    (fin.keys m) (sorted_keys path_cmp (fin.entries m) (fin.entries_sorted m)))
    (sorted_pushed d ns s)
    (λ q. any-children m d q ∙ where_child m d q ns h (is_child d q) refl ∙ sym (any-pushed d q ns))

last_names-pushed : (d : Path) (ns : List Name) → map last_name (children_named d ns) ≡ ns
last_names-pushed d [] = refl
last_names-pushed d (n ∷ ns) = λ i. last_name-push d n i ∷ last_names-pushed d ns i

pub names-children : (m : Replica) (d : Path) (ns : List Name) → IsStrictlySortedBy name_cmp ns
    → ((n : Name) → is_there (fin.get m (d ++ n ∷ [])) ≡ list_any (eq_by_cmp name_cmp n) ns)
    → map last_name (children m d) ≡ ns
names-children m d ns s h = ap (map last_name) (children-pushed m d ns s h) ∙ last_names-pushed d ns

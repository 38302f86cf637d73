-- What several Sets leave, and when none of them is refused.
use Rattle.std.proofs.Common.{◌≡◌, ◌<◌, Bool, true, false, cond, not, ◌&&◌, ◌||◌, List, [], ◌∷◌, ◌++◌, length, Option, Some, None, refl, ap, sym, ◌∙◌, subst, append_assoc, append-nil}
use Rattle.std.specs.Prelude.{◌==◌, if◌then◌else◌, reverse}
use Rattle.std.specs.Option.{is_some, option_and_then}
use Rattle.std.specs.List.{filter}
use Rattle.std.specs.List.Sorted.{IsStrictlySortedBy}
use Rattle.std.specs.Ordering.{eq_by_cmp}
use Rattle.std.specs.declared.cmp.Ordering.TheVariants.{Less}
use Rattle.std.proofs.lemmas.Bool.{false≢true, and_parts, true_from_ne_false, false_from_ne_true}
use Rattle.std.proofs.lemmas.List.Folds.{list_any-append}
use Rattle.std.proofs.lemmas.List.Kept.{IsStrictlySortedBy-filter}
use Rattle.std.proofs.Math.Bool.{and-false}
use Rattle.hub_tree.specs.laws.Children.{some_length}
use Rattle.hub_path.specs.Path.{Name, Path, path_cmp, parent}
use Rattle.hub_tree.specs.Below.{is_below, under}
use Rattle.hub_tree.specs.Sets.{sets, each}
use Rattle.hub_tree.specs.Tree.{Replica, IsTree, contents_at, is_absent, is_directory, children, set_fault, with_contents}
use Rattle.hub_tree.specs.declared.contents.Contents.{Contents}
use Rattle.hub_tree.specs.declared.contents.Contents.TheVariants as contents
use Rattle.hub_tree.specs.laws.Order.{same_path}
use Rattle.hub_tree.specs.laws.Beneath.{below_order, is_a_directory}
use Rattle.hub_tree.specs.laws.Between.{among, among_middle, among_reverse, among_filter, among-none, turned, not_both, before, behind, below_names, not_below_itself, below_child, under_sorted, in_under, of_under, not_under, parent_below, below_parent, parent_order}
use Rattle.hub_tree.specs.laws.Contented.{MayBeSet, no_fault-from, some_names, contents-after, absent_childless, IsTree-after}

-- f at these paths, and as before elsewhere
abbrev pub IsChanged : Replica → (Path → Contents) → List Path → Replica → Type 0
IsChanged m f ps k = (x : Path) → contents_at k x ≡ cond (among x ps) (f x) (contents_at m x)

merged : (b d : Bool) (u v w : Contents) → (b ≡ true → u ≡ v)
    → cond b u (cond d v w) ≡ cond (d || (b || false)) v w
merged true true u v w e = e refl
merged true false u v w e = e refl
merged false true u v w e = refl
merged false false u v w e = refl

changed_more : (m k : Replica) (f : Path → Contents) (done : List Path) (q : Path) → 0 < length q
    → IsChanged m f done k → IsChanged m f (done ++ q ∷ []) (with_contents k q (f q))
changed_more m k f done q l a = λ x.
    contents-after k q x (f q) l
    ∙ ap (cond (eq_by_cmp path_cmp x q) (f q)) (a x)
    ∙ merged (eq_by_cmp path_cmp x q) (among x done) (f q) (f x) (contents_at m x)
    (λ e. ap f (sym (same_path x q e)))
    ∙ ap (λ b. cond b (f x) (contents_at m x))
    (sym (list_any-append (eq_by_cmp path_cmp x) done (q ∷ [])))

-- No Set is refused, whatever was done before it.
abbrev pub MayAllBeSet : Replica → (Path → Contents) → List Path → Type 0
MayAllBeSet m f ps =
    (front : List Path) (q : Path) (rest : List Path) (k : Replica) → front ++ q ∷ rest ≡ ps
    → IsTree k → IsChanged m f front k → MayBeSet k q (f q)

run : (m : Replica) (f : Path → Contents) (done todo : List Path) (k : Replica) → IsTree k
    → IsChanged m f done k → MayAllBeSet m f (done ++ todo)
    → (n : Replica) × (sets k (each f todo) ≡ Some n) × IsTree n × IsChanged m f (done ++ todo) n
run m f done [] k t a goes = (
  k,
  refl,
  t,
  λ x. a x ∙ ap (λ ps. cond (among x ps) (f x) (contents_at m x))
      (sym (append-nil done)),
)
run m f done (q ∷ todo) k t a goes =
    let may = goes done q todo k refl t a in
    let free = no_fault-from k q (f q) may in
    let whole = append_assoc done (q ∷ []) todo in
    let w = run m f (done ++ q ∷ []) todo (with_contents k q (f q)) (IsTree-after k q (f q) t free)
    (changed_more m k f done q (some_names q may.names) a)
    (λ front r rest j e. goes front r rest j (e ∙ whole)) in (
      w.0,
      ap (λ o. if is_some o then None else sets (with_contents k q (f q)) (each f todo)) free ∙ w.1,
      w.2,
      λ x. w.3 x ∙ ap (λ ps. cond (among x ps) (f x) (contents_at m x)) whole,
    )

pub all_set : (m : Replica) (f : Path → Contents) (ps : List Path) → IsTree m → MayAllBeSet m f ps
    → (n : Replica) × (sets m (each f ps) ≡ Some n) × IsTree n × IsChanged m f ps n
all_set m f ps t goes = run m f [] ps m t (λ x. refl) goes

kept_at : (m k : Replica) (f : Path → Contents) (ps : List Path) (q : Path) → IsChanged m f ps k
    → among q ps ≡ false → contents_at k q ≡ contents_at m q
kept_at m k f ps q a e = a q ∙ ap (λ b. cond b (f q) (contents_at m q)) e

new_at : (m k : Replica) (f : Path → Contents) (ps : List Path) (q : Path) → IsChanged m f ps k
    → among q ps ≡ true → contents_at k q ≡ f q
new_at m k f ps q a e = a q ∙ ap (λ b. cond b (f q) (contents_at m q)) e

-- down
gone_or : (b : Bool) (c : Contents) → (b ≡ false → is_absent c ≡ true)
    → is_absent (cond b contents.Absent c) ≡ true
gone_or true c f = refl
gone_or false c f = f refl

-- A child of the last path of a list in order isn't before it.
child_gone : (m : Replica) (p q : Path) (n : Name) (front done : List Path)
    → front ++ q ∷ reverse done ≡ under m p → is_below p q ≡ true
    → among (q ++ n ∷ []) done ≡ false → is_absent (contents_at m (q ++ n ∷ [])) ≡ true
child_gone m p q n front done whole b e =
    let s : IsStrictlySortedBy path_cmp (front ++ q ∷ reverse done) =
    subst (λ (ps : List Path). IsStrictlySortedBy path_cmp ps) (sym whole) (under_sorted m p) in
    true_from_ne_false _ (λ h. among-none (q ++ n ∷ []) q front (reverse done)
    (λ g. not_both q (q ++ n ∷ []) (below_order q n [])
    (before front (reverse done) q (q ++ n ∷ []) s g))
    (λ g. let l : path_cmp q q ≡ Less = ap (path_cmp q) (sym g) ∙ below_order q n []
    in not_both q q l l)
    (λ g. false≢true (sym e ∙ sym (among_reverse (q ++ n ∷ []) done) ∙ g))
    (ap (among (q ++ n ∷ [])) whole ∙ in_under m p (q ++ n ∷ []) (below_child p q n b) h))

down_step : (m k : Replica) (p q : Path) (front done : List Path)
    → front ++ q ∷ reverse done ≡ under m p → IsTree k → IsChanged m (λ _. contents.Absent) done k
    → MayBeSet k q contents.Absent
down_step m k p q front done whole t a =
    let s : IsStrictlySortedBy path_cmp (front ++ q ∷ reverse done) =
    subst (λ (ps : List Path). IsStrictlySortedBy path_cmp ps) (sym whole) (under_sorted m p) in
    let is = of_under m p q (ap (among q) (sym whole) ∙ among_middle q front (reverse done)) in
    let new : among q done ≡ false = false_from_ne_true _
    (λ e. let l = behind front (reverse done) q q s (among_reverse q done ∙ e)
    in not_both q q l l) in
    let there : is_absent (contents_at k q) ≡ false =
    ap is_absent (kept_at m k (λ _. contents.Absent) done q a new) ∙ is.1 in
    let childless : (length (children k q) == 0) ≡ true =
    absent_childless k q (λ n. ap is_absent (a (q ++ n ∷ []))
    ∙ gone_or (among (q ++ n ∷ []) done) (contents_at m (q ++ n ∷ []))
    (child_gone m p q n front done whole is.0)) in
    record {
      names = some_length q (below_names p q is.0);
      parent = t.parents q there;
      bare =
          ap (λ b. is_directory (contents_at k q) && not (is_directory contents.Absent)
          && not b) childless ∙ and-false (is_directory (contents_at k q) && true);
      there = ap (λ b. b && true) there;
    }

down_at : (m : Replica) (p q : Path) (b h : Bool) → is_below p q ≡ b → among q (under m p) ≡ h
    → cond h contents.Absent (contents_at m q) ≡ cond b contents.Absent (contents_at m q)
down_at m p q true true e f = refl
down_at m p q true false e f = not_under m p q e f
down_at m p q false true e f = absurd (false≢true (sym e ∙ (of_under m p q f).0))
down_at m p q false false e f = refl

pub all_down : (m : Replica) (p : Path) → IsTree m
    → (k : Replica) × (sets m (each (λ _. contents.Absent) (reverse (under m p))) ≡ Some k)
    × IsTree k
    × ((q : Path) → contents_at k q ≡ (if is_below p q then contents.Absent else contents_at m q))
all_down m p t =
    let w = all_set m (λ _. contents.Absent) (reverse (under m p)) t
    (λ front q rest k e. down_step m k p q (reverse rest) front
    (turned front rest (under m p) q e)) in (
      w.0,
      w.1,
      w.2,
      λ q. w.3 q ∙ ap (λ b. cond b contents.Absent (contents_at m q)) (among_reverse q (under m p))
          ∙ down_at m p q (is_below p q) (among q (under m p)) refl refl,
    )

-- up
abbrev pub IsClosed : Replica → Path → (Path → Bool) → Type 0
IsClosed s p f =
    (x y : Path) → is_below p x ≡ true → is_below x y ≡ true → is_absent (contents_at s y) ≡ false
    → f y ≡ true → f x ≡ true

-- The parent of the first path that isn't done is done, if it is below p.
parent_done : (s : Replica) (p q : Path) (f : Path → Bool) (done rest : List Path) → IsTree s
    → IsClosed s p f → done ++ q ∷ rest ≡ filter f (under s p)
    → is_below p q ≡ true → is_absent (contents_at s q) ≡ false → f q ≡ true
    → is_below p (parent q) ≡ true → among (parent q) done ≡ true
parent_done s p q f done rest t closed whole b h passes up =
    let l = below_names p q b in
    let o = parent_order q l in
    let sorted : IsStrictlySortedBy path_cmp (done ++ q ∷ rest) =
    subst (λ (ps : List Path). IsStrictlySortedBy path_cmp ps) (sym whole)
    (IsStrictlySortedBy-filter path_cmp f (under s p) (under_sorted s p)) in
    let there : is_absent (contents_at s (parent q)) ≡ false =
    ap is_absent (is_a_directory (contents_at s (parent q)) (t.parents q h)) in
    let in_list : among (parent q) (filter f (under s p)) ≡ true =
    among_filter (parent q) f (under s p)
    ∙ rw (
      closed (parent q) q up (below_parent q l) h passes,
      in_under s p (parent q) up there,
    ) refl in
    true_from_ne_false _ (λ e. among-none (parent q) q done rest
    (λ g. false≢true (sym e ∙ g))
    (λ g. let o2 : path_cmp q q ≡ Less = ap (λ x. path_cmp x q) (sym g) ∙ o in not_both q q o2 o2)
    (λ g. not_both (parent q) q o (behind done rest q (parent q) sorted g))
    (ap (among (parent q)) whole ∙ in_list))

among_front : (x q : Path) (front rest : List Path) → among x front ≡ true
    → among x (front ++ q ∷ rest) ≡ true
among_front x q front rest e =
    list_any-append (eq_by_cmp path_cmp x) front (q ∷ rest) ∙ ap (λ b. b || among x (q ∷ rest)) e

-- What is done is below p.
done_below : (s : Replica) (p q x : Path) (f : Path → Bool) (done rest : List Path)
    → done ++ q ∷ rest ≡ filter f (under s p) → among x done ≡ true → is_below p x ≡ true
done_below s p q x f done rest whole e =
    (of_under s p x (and_parts (f x) (among x (under s p))
    (sym (among_filter x f (under s p)) ∙ ap (among x) (sym whole)
    ∙ among_front x q done rest e)).1).0

up_step : (m s k : Replica) (p q : Path) (f : Path → Bool) (done rest : List Path) → IsTree s
    → contents_at m p ≡ contents.Directory → under m p ≡ [] → IsClosed s p f
    → done ++ q ∷ rest ≡ filter f (under s p) → IsChanged m (contents_at s) done k
    → MayBeSet k q (contents_at s q)
up_step m s k p q f done rest t top bare closed whole a =
    let sorted : IsStrictlySortedBy path_cmp (done ++ q ∷ rest) =
    subst (λ (ps : List Path). IsStrictlySortedBy path_cmp ps) (sym whole)
    (IsStrictlySortedBy-filter path_cmp f (under s p) (under_sorted s p)) in
    let two = and_parts (f q) (among q (under s p))
    (sym (among_filter q f (under s p)) ∙ ap (among q) (sym whole)
    ∙ among_middle q done rest) in
    let is = of_under s p q two.1 in
    let new : among q done ≡ false = false_from_ne_true _
    (λ e. let l = before done rest q q sorted e in not_both q q l l) in
    let here : contents_at k q ≡ contents.Absent =
    kept_at m k (contents_at s) done q a new ∙ not_under m p q is.0 (ap (among q) bare) in
    record {
      names = some_length q (below_names p q is.0);
      parent = parent_below p q (is_directory (contents_at k (parent q)) ≡ true) is.0
          (λ e. ap (λ x. is_directory (contents_at k x)) e
          ∙ ap is_directory (kept_at m k (contents_at s) done p a
          (false_from_ne_true _ (λ g. not_below_itself p
          (done_below s p q p f done rest whole g))) ∙ top))
          (λ up. ap is_directory (new_at m k (contents_at s) done (parent q) a
          (parent_done s p q f done rest t closed whole is.0 is.1 two.0 up))
          ∙ t.parents q is.1);
      bare =
          ap (λ c. is_directory c && not (is_directory (contents_at s q))
          && not (length (children k q) == 0)) here;
      there = ap (λ c. is_absent c && is_absent (contents_at s q)) here ∙ is.1;
    }

up_at : (m s : Replica) (p q : Path) (b g h : Bool) → under m p ≡ [] → is_below p q ≡ b
    → among q (under s p) ≡ h → cond (g && h) (contents_at s q) (contents_at m q)
    ≡ cond (b && g) (contents_at s q) (contents_at m q)
up_at m s p q true true true bare e f = refl
up_at m s p q true true false bare e f =
    not_under m p q e (ap (among q) bare) ∙ sym (not_under s p q e f)
up_at m s p q true false h bare e f = refl
up_at m s p q false g true bare e f = absurd (false≢true (sym e ∙ (of_under s p q f).0))
up_at m s p q false g false bare e f =
    ap (λ b. cond b (contents_at s q) (contents_at m q)) (and-false g)

pub all_up : (m s : Replica) (p : Path) (f : Path → Bool) → IsTree m → IsTree s
    → contents_at m p ≡ contents.Directory → under m p ≡ [] → IsClosed s p f
    → (k : Replica) × (sets m (each (contents_at s) (filter f (under s p))) ≡ Some k) × IsTree k
    × ((q : Path) → contents_at k q ≡ (if is_below p q && f q then contents_at s q
    else contents_at m q))
all_up m s p f t u top bare closed =
    let w = all_set m (contents_at s) (filter f (under s p)) t
    (λ front q rest k e _ a. up_step m s k p q f front rest u top bare closed e a) in (
      w.0,
      w.1,
      w.2,
      λ q. w.3 q ∙ ap (λ b. cond b (contents_at s q) (contents_at m q))
          (among_filter q f (under s p))
          ∙ up_at m s p q (is_below p q) (f q) (among q (under s p)) bare refl refl,
    )

-- one run after another
refused_or : {X Y : Type 0} (b : Bool) (x : Option Y) (y : Option X) (f : X → Option Y)
    → x ≡ option_and_then f y → (if b then None else x) ≡ option_and_then f (if b then None else y)
refused_or true x y f e = refl
refused_or false x y f e = e

pub sets-append : (m : Replica) (cs ds : List (Path × Contents))
    → sets m (cs ++ ds) ≡ option_and_then (λ k. sets k ds) (sets m cs)
sets-append m [] ds = refl
sets-append m (c ∷ cs) ds =
    refused_or (is_some (set_fault m c.0 c.1)) _ (sets (with_contents m c.0 c.1) cs)
    (λ k. sets k ds) (sets-append (with_contents m c.0 c.1) cs ds)

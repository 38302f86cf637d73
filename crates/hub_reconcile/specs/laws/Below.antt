-- What goes and what comes below an item.
use Rattle.std.proofs.Common.{◌≡◌, ◌↔◌, Bool, true, false, cond, not, ◌&&◌, ◌||◌, List, [], ◌∷◌, ◌++◌, length, map, Option, Some, None, refl, ap, sym, ◌∙◌, subst, append_assoc, append-nil}
use Rattle.std.specs.Prelude.{filter, reverse, drop}
use Rattle.std.specs.List.{list_any}
use Rattle.std.specs.List.Sorted.{IsStrictlySortedBy}
use Rattle.std.specs.Ordering.{eq_by_cmp}
use Rattle.std.proofs.lemmas.Bool.{false≢true, and_parts, and_from, or_left, or_right, not-true, not-false, false_from_ne_true, or_parts}
use Rattle.std.proofs.lemmas.List.Folds.{list_any-append}
use Rattle.std.proofs.lemmas.List.Kept.{IsStrictlySortedBy-filter}
use Rattle.hub_text.specs.laws.Test.{any-map}
use Rattle.hub_path.specs.laws.General.{is_over-rest, is_over-append, is_over-transitive, is_over-reflexive}
use Rattle.hub_path.specs.Path.{Name, Path, path_cmp, path_eq, is_over}
use Rattle.hub_path.specs.declared.side.Side.{Side}
use Rattle.hub_path.specs.declared.side.Side.TheVariants.{Left, Right}
use Rattle.hub_profile.specs.Parts.{Parts, at_side}
use Rattle.hub_reach.specs.Reach.{reach, write}
use Rattle.hub_tree.specs.Below.{is_below, under}
use Rattle.hub_tree.specs.Tree.{Replica, Archive, IsTree, contents_at, is_absent, is_directory, children}
use Rattle.hub_tree.specs.declared.contents.Mark.{Mark}
use Rattle.hub_tree.specs.declared.contents.Mark.TheVariants as mark
use Rattle.hub_tree.specs.laws.Order.{path_itself}
use Rattle.hub_tree.specs.laws.Children.{any_children-push, child_names}
use Rattle.hub_tree.specs.laws.Contented.{shown_contents}
use Rattle.hub_tree.specs.laws.Beneath.{below_from, below_over, above_directory, is_a_directory}
use Rattle.hub_tree.specs.laws.Between.{among, among_filter, among_reverse, under_sorted, in_under, of_under, no_members}
use Rattle.hub_reconcile.specs.View.{View, is_present, is_folder}
use Rattle.hub_reconcile.specs.Items.{other, changes, change, going, coming, below, is_allowed, blocks, has_parent, verb_of, fate_from, fate, source}
use Rattle.hub_reconcile.specs.Sync.{root_or_top, loses_children, LosesChildren}
use Rattle.hub_reconcile.specs.declared.item.Reason.{Reason}
use Rattle.hub_reconcile.specs.declared.item.Reason.TheVariants as reason
use Rattle.hub_reconcile.specs.declared.item.Fate.{Fate}
use Rattle.hub_reconcile.specs.declared.item.Fate.TheVariants.{To, Skip}
use Rattle.hub_reconcile.specs.declared.change.Change.{Change}
use Rattle.hub_reconcile.specs.laws.Ascend.{same_list}
use Rattle.hub_reconcile.specs.laws.Each.{none_at}
use Rattle.hub_reconcile.specs.laws.Views.{scene, same_paths, allowed-writes, present_here, folder_here, others_here, paths_sorted, of_paths, in_paths}

-- What no change of an item passes.
item_from : (V : View) (from : Side) (p : Path) (f : Change → Bool)
    → list_any f (changes V from p) ≡ false → f (change (other from) p (V.mark from p)) ≡ false
item_from V from p f e =
    (or_parts (f (change (other from) p (V.mark from p))) _
    (or_parts _ _ (sym (list_any-append f
    (map (λ q. change (other from) q mark.Absent) (reverse (going V from p))) _) ∙ e)).1).0

at_item : (V : View) (k : Side) (p : Path) (f : Change → Bool)
    → list_any f (changes V (other k) p) ≡ false → f (change k p (V.mark (other k) p)) ≡ false
at_item V Left p f e = item_from V Right p f e
at_item V Right p f e = item_from V Left p f e

going_from : (V : View) (from : Side) (p q : Path) (f : Change → Bool)
    → list_any f (changes V from p) ≡ false → among q (going V from p) ≡ true
    → f (change (other from) q mark.Absent) ≡ false
going_from V from p q f e h =
    none_at (λ x. f (change (other from) x mark.Absent)) (reverse (going V from p)) q
    (any-map f (λ x. change (other from) x mark.Absent) (reverse (going V from p))
    ∙ (or_parts _ _ (sym (list_any-append f
    (map (λ q. change (other from) q mark.Absent) (reverse (going V from p))) _) ∙ e)).0)
    (among_reverse q (going V from p) ∙ h)

at_going : (V : View) (k : Side) (p q : Path) (f : Change → Bool)
    → list_any f (changes V (other k) p) ≡ false → among q (going V (other k) p) ≡ true
    → f (change k q mark.Absent) ≡ false
at_going V Left p q f e h = going_from V Right p q f e h
at_going V Right p q f e h = going_from V Left p q f e h

-- What holds of an item that goes to a side.
pub record Goes (V : View) (p : Path) (k : Side) : Type 0 where
  pub allowed : list_any (λ c. not (is_allowed V c)) (changes V (other k) p) ≡ false
  pub free : list_any (blocks V) (changes V (other k) p) ≡ false
  pub parent : has_parent V k p ≡ true

receiver_or : Side → Fate → Side
receiver_or k (To side) = side
receiver_or k (Skip why) = k

goes_by : (from k : Side) (b c d : Bool)
    → cond b (Skip reason.Barred)
    (cond c (Skip reason.Blocked) (cond d (To (other from)) (Skip reason.NoParent))) ≡ To k
    → (b ≡ false) × (c ≡ false) × (d ≡ true) × (other from ≡ k)
unfolding receiver_or
goes_by from k true c d e = cc
goes_by from k false true d e = cc
goes_by from k false false true e = (refl, refl, refl, ap (receiver_or k) e)
goes_by from k false false false e = cc

goes_from : (V : View) (p : Path) (k : Side) (o : Option Side) → fate_from V p o ≡ To k → Goes V p k
goes_from V p k None e = cc
goes_from V p k (Some Left) e =
    let w = goes_by Left k (list_any (λ c. not (is_allowed V c)) (changes V Left p))
    (list_any (blocks V) (changes V Left p)) (has_parent V Right p) e in
    subst (λ j. Goes V p j) w.3 (record { allowed = w.0; free = w.1; parent = w.2 })
goes_from V p k (Some Right) e =
    let w = goes_by Right k (list_any (λ c. not (is_allowed V c)) (changes V Right p))
    (list_any (blocks V) (changes V Right p)) (has_parent V Left p) e in
    subst (λ j. Goes V p j) w.3 (record { allowed = w.0; free = w.1; parent = w.2 })

pub goes : (V : View) (p : Path) (k : Side) → fate V p ≡ To k → Goes V p k
goes V p k e = goes_from V p k (source V p) e

-- What holds of an item that is blocked.
abbrev is_blocked_by : Reason → Bool
is_blocked_by reason.Conflict = false
is_blocked_by reason.Barred = false
is_blocked_by reason.Blocked = true
is_blocked_by reason.NoParent = false

abbrev is_blocked : Fate → Bool
is_blocked (To side) = false
is_blocked (Skip why) = is_blocked_by why

blocked_by : (k : Side) (b c d : Bool)
    → cond b (Skip reason.Barred)
    (cond c (Skip reason.Blocked) (cond d (To k) (Skip reason.NoParent))) ≡ Skip reason.Blocked
    → (b ≡ false) × (c ≡ true)
blocked_by k true c d e = absurd (false≢true (ap is_blocked e))
blocked_by k false true d e = (refl, refl)
blocked_by k false false true e = absurd (false≢true (ap is_blocked e))
blocked_by k false false false e = absurd (false≢true (ap is_blocked e))

abbrev HasBlocking : View → Path → Side → Type 0
HasBlocking V p from =
    (list_any (λ c. not (is_allowed V c)) (changes V from p) ≡ false)
    × (list_any (blocks V) (changes V from p) ≡ true)

blocked_from : (V : View) (p : Path) (o : Option Side) → fate_from V p o ≡ Skip reason.Blocked
    → (from : Side) × (o ≡ Some from) × (HasBlocking V p from)
blocked_from V p None e = absurd (false≢true (ap is_blocked e))
blocked_from V p (Some from) e = (
  from,
  refl,
  blocked_by (other from) (list_any (λ c. not (is_allowed V c)) (changes V from p))
      (list_any (blocks V) (changes V from p)) (has_parent V (other from) p) e,
)

from_blocking : (V : View) (p : Path) (from : Side) (o : Option Side) → o ≡ Some from
    → HasBlocking V p from → fate_from V p o ≡ Skip reason.Blocked
from_blocking V p from o e h =
    let rest : Fate = cond (has_parent V (other from) p) (To (other from)) (Skip reason.NoParent) in
    ap (fate_from V p) e
    ∙ (ap (λ b. cond b (Skip reason.Barred)
    (cond (list_any (blocks V) (changes V from p)) (Skip reason.Blocked) rest)) h.0
    ∙ ap (λ b. cond b (Skip reason.Blocked) rest) h.1)

-- Tests that are the same for what two other tests don't pass.
same_any : (f g u v : Change → Bool) (cs : List Change)
    → ((c : Change) → u c ≡ false → v c ≡ false → f c ≡ g c) → list_any u cs ≡ false
    → list_any v cs ≡ false → list_any f cs ≡ list_any g cs
same_any f g u v [] h a b = refl
same_any f g u v (c ∷ cs) h a b =
    let x = or_parts (u c) (list_any u cs) a in
    let y = or_parts (v c) (list_any v cs) b in
    ap (λ t. t || list_any f cs) (h c x.0 y.0) ∙ ap (λ t. g c || t) (same_any f g u v cs h x.1 y.1)

none_if : (f : Path → Bool) (ps : List Path) → ((q : Path) → among q ps ≡ true → f q ≡ false)
    → list_any f ps ≡ false
none_if f [] h = refl
none_if f (p ∷ ps) h =
    ap (λ b. b || list_any f ps) (h p (or_left _ (among p ps) (path_itself p)))
    ∙ none_if f ps (λ q e. h q (or_right (eq_by_cmp path_cmp q p) _ e))

third : (a b c : Bool) → a ≡ true → b ≡ false → (a && not b && c) ≡ false → c ≡ false
third true true c e f h = absurd (false≢true (sym f))
third true false c e f h = h
third false b c e f h = absurd (false≢true e)

second : (a c : Bool) → a ≡ true → (a && c) ≡ false → c ≡ false
second true c e h = h
second false c e h = absurd (false≢true e)

module _ (P : Parts) (A B : Replica) (O : Archive) (left : IsTree A) (right : IsTree B) where
  open scene P A B O use {replica as R, view as V}

  abbrev root : Side → Path
  root k = root_or_top (at_side P.roots k)

  pub trees : (k : Side) → IsTree (R k)
  trees Left = left
  trees Right = right

  -- A directory that is taken away, or replaced, holds nothing that isn't reached.
  holds_none : (k : Side) (x : Path) (m : Mark) → reach P x ≡ true
      → is_directory (contents_at (R k) x) ≡ true → is_folder m ≡ false
      → not (is_allowed V (change k x m)) ≡ false → blocks V (change k x m) ≡ false
      → list_any (λ q. not (reach P q)) (children (R k) x) ≡ false
  holds_none k x m h d f a b =
      let w : write P (root k) x ≡ true = allowed-writes P k x (verb_of (V.mark k x) m)
      (not-false (is_allowed V (change k x m)) a) h in
      let none : V.others k x ≡ false = third (is_folder (V.mark k x)) (is_folder m) (V.others k x)
      (folder_here P A B O k x h ∙ d) f b in
      second (write P (root k) x) (list_any (λ q. not (reach P q)) (children (R k) x)) w
      (sym (others_here P A B O k x h) ∙ none)

  child_reached : (k : Side) (x : Path) (n : Name)
      → list_any (λ q. not (reach P q)) (children (R k) x) ≡ false
      → is_absent (contents_at (R k) (x ++ n ∷ [])) ≡ false → reach P (x ++ n ∷ []) ≡ true
  child_reached k x n none there =
      not-false _ (none_at (λ q. not (reach P q)) (children (R k) x) (x ++ n ∷ []) none
      (any_children-push (R k) x n
      ∙ (shown_contents (R k) (x ++ n ∷ []) (child_names x n) ∙ ap not there)))

  -- The paths that go.
  abbrev is_going : Side → Path → Bool
  is_going k q = is_present (V.mark k q) && not (is_present (V.mark (other k) q))

  going_on : (k : Side) (p : Path) → going V (other k) p ≡ filter (is_going k) (below V p)
  going_on Left p = refl
  going_on Right p = refl

  pub below_of : (p q : Path) → among q (below V p) ≡ true → (is_below p q ≡ true)
      × (reach P q ≡ true)
  below_of p q e =
      let two = and_parts (is_below p q) (among q V.paths)
      (sym (among_filter q (is_below p) V.paths) ∙ e) in
      (two.0, of_paths P A B O q two.1)

  in_below : (k : Side) (p q : Path) → is_below p q ≡ true → reach P q ≡ true
      → is_absent (contents_at (R k) q) ≡ false → among q (below V p) ≡ true
  in_below k p q b h there = among_filter q (is_below p) V.paths
      ∙ and_from (is_below p q) _ b (in_paths P A B O k q h there)

  pub of_going : (k : Side) (p q : Path) → among q (going V (other k) p) ≡ true
      → (is_below p q ≡ true) × (reach P q ≡ true) × (is_absent (contents_at (R k) q) ≡ false)
      × (is_absent (contents_at (R (other k)) q) ≡ true)
  of_going k p q e =
      let two = and_parts (is_going k q) (among q (below V p))
      (sym (among_filter q (is_going k) (below V p)) ∙ (ap (among q) (sym (going_on k p)) ∙ e)) in
      let place = below_of p q two.1 in
      let marks = and_parts (is_present (V.mark k q)) (not (is_present (V.mark (other k) q))) two.0
      in (
        place.0,
        place.1,
        not-true _ (sym (present_here P A B O k q place.1) ∙ marks.0),
        not-false _ (sym (present_here P A B O (other k) q place.1) ∙ not-true _ marks.1),
      )

  in_going : (k : Side) (p q : Path) → is_below p q ≡ true → reach P q ≡ true
      → is_absent (contents_at (R k) q) ≡ false → is_absent (contents_at (R (other k)) q) ≡ true
      → among q (going V (other k) p) ≡ true
  in_going k p q b h there gone =
      ap (among q) (going_on k p) ∙ (among_filter q (is_going k) (below V p)
      ∙ and_from (is_going k q) _
      (and_from (is_present (V.mark k q)) _ (present_here P A B O k q h ∙ ap not there)
      (ap not (present_here P A B O (other k) q h ∙ ap not gone)))
      (in_below k p q b h there))

  going_sorted : (k : Side) (p : Path) → IsStrictlySortedBy path_cmp (going V (other k) p)
  going_sorted Left p =
      IsStrictlySortedBy-filter path_cmp (is_going Left) (below V p)
      (IsStrictlySortedBy-filter path_cmp (is_below p) V.paths (paths_sorted P A B O))
  going_sorted Right p =
      IsStrictlySortedBy-filter path_cmp (is_going Right) (below V p)
      (IsStrictlySortedBy-filter path_cmp (is_below p) V.paths (paths_sorted P A B O))

  -- Below what is no directory is nothing.
  pub nothing_below : (k : Side) (p q : Path) → is_directory (contents_at (R k) p) ≡ false
      → is_below p q ≡ true → is_absent (contents_at (R k) q) ≡ true
  nothing_below k p q none b =
      not-false _ (false_from_ne_true _
      (λ h. false≢true (sym none
      ∙ ap is_directory (above_directory (R k) p q (trees k) b (not-true _ h)))))

  -- What is above something is something.
  pub present_front : (k : Side) (r x : Path) → is_absent (contents_at (R k) (x ++ r)) ≡ false
      → is_absent (contents_at (R k) x) ≡ false
  present_front k [] x there = ap (λ y. is_absent (contents_at (R k) y)) (sym (append-nil x))
      ∙ there
  present_front k (n ∷ r) x there =
      ap is_absent (above_directory (R k) x (x ++ n ∷ r) (trees k) (below_from x n r) there)

  not_path_eq : (p x : Path) → path_eq p x ≡ false → is_over p x ≡ true → is_below p x ≡ true
  not_path_eq p x e o = and_from (is_over p x) (not (path_eq p x)) o (ap not e)

  -- What blocks an item: a change that takes away a directory with a child that isn't reached.
  blocks_is : (c : Change) → reach P c.path ≡ true → not (is_allowed V c) ≡ false
      → blocks V c ≡ loses_children P A B c
  blocks_is c h a =
      let k = c.side in
      let lost : Bool = list_any (λ q. not (reach P q)) (children (R k) c.path) in
      let w : write P (root k) c.path ≡ true = allowed-writes P k c.path
      (verb_of (V.mark k c.path) c.mark) (not-false (is_allowed V c) a) h in
      ap (λ b. b && not (is_folder c.mark) && V.others k c.path) (folder_here P A B O k c.path h)
      ∙ ap (λ b. is_directory (contents_at (R k) c.path) && not (is_folder c.mark) && b)
      (others_here P A B O k c.path h ∙ ap (λ b. b && lost) w)

  going_reached : (from : Side) (p q : Path) → among q (going V from p) ≡ true → reach P q ≡ true
  going_reached from p q e =
      let goes : Path → Bool = λ q. is_present (V.mark (other from) q)
      && not (is_present (V.mark from q)) in
      (below_of p q (and_parts (goes q) (among q (below V p)) (sym (among_filter q goes (below V p))
      ∙ e)).1).1

  coming_reached : (from : Side) (p q : Path) → among q (coming V from p) ≡ true → reach P q ≡ true
  coming_reached from p q e =
      let comes : Path → Bool = λ q. is_present (V.mark from q) in
      (below_of p q
      (and_parts (comes q) (among q (below V p)) (sym (among_filter q comes (below V p)) ∙ e)).1).1

  none_unreached : (from : Side) (p : Path) → reach P p ≡ true
      → list_any (λ c. not (reach P c.path)) (changes V from p) ≡ false
  none_unreached from p h =
      let out : Change → Bool = λ c. not (reach P c.path) in
      let gone : Path → Change = λ q. change (other from) q mark.Absent in
      let made : Path → Change = λ q. change (other from) q (V.mark from q) in
      let there : list_any out (map made (coming V from p)) ≡ false =
      sym (any-map out made (coming V from p))
      ∙ none_if (λ q. not (reach P q)) (coming V from p) (λ q e. ap not (coming_reached from p q e))
      in
      let away : list_any out (map gone (reverse (going V from p))) ≡ false =
      sym (any-map out gone (reverse (going V from p)))
      ∙ none_if (λ q. not (reach P q)) (reverse (going V from p))
      (λ q e. ap not (going_reached from p q (sym (among_reverse q (going V from p)) ∙ e))) in
      list_any-append out (map gone (reverse (going V from p)))
      (made p ∷ map made (coming V from p))
      ∙ (ap (λ b. b || (not (reach P p) || list_any out (map made (coming V from p)))) away
      ∙ (ap (λ b. not b || list_any out (map made (coming V from p))) h ∙ there))

  same_blocks : (from : Side) (p : Path) → reach P p ≡ true
      → list_any (λ c. not (is_allowed V c)) (changes V from p) ≡ false
      → list_any (blocks V) (changes V from p) ≡ list_any (loses_children P A B) (changes V from p)
  same_blocks from p h allowed =
      same_any (blocks V) (loses_children P A B) (λ c. not (is_allowed V c))
      (λ c. not (reach P c.path)) (changes V from p)
      (λ c a r. blocks_is c (not-false (reach P c.path) r) a) allowed (none_unreached from p h)

  pub blocked : (p : Path) → reach P p ≡ true
      → (fate V p ≡ Skip reason.Blocked) ↔ LosesChildren P A B O p
  blocked p h = (
    λ e. let w = blocked_from V p (source V p) e in
        (w.0, w.1, w.2.0, sym (same_blocks w.0 p h w.2.0) ∙ w.2.1),
    λ w. from_blocking V p w.0 (source V p) w.1 (w.2, same_blocks w.0 p h w.2 ∙ w.3),
  )

  module _ (k : Side) (p : Path) (h : reach P p ≡ true) (facts : Goes V p k) where
    -- The source has no directory at the item: then each directory of the receiver at it or below
    -- it goes, so it holds nothing that isn't reached.
    module _ (none : is_directory (contents_at (R (other k)) p) ≡ false) where
      bare_by : (x : Path) (b : Bool) → path_eq p x ≡ b → is_over p x ≡ true → reach P x ≡ true
          → is_directory (contents_at (R k) x) ≡ true
          → list_any (λ q. not (reach P q)) (children (R k) x) ≡ false
      bare_by x true e o g d =
          let same : p ≡ x = same_paths p x e in
          subst (λ y. list_any (λ q. not (reach P q)) (children (R k) y) ≡ false) same
          (holds_none k p (V.mark (other k) p) h (ap (λ y. is_directory (contents_at (R k) y)) same
          ∙ d) (folder_here P A B O (other k) p h ∙ none)
          (at_item V k p (λ c. not (is_allowed V c)) facts.allowed)
          (at_item V k p (blocks V) facts.free))
      bare_by x false e o g d =
          let b = not_path_eq p x e o in
          let member = in_going k p x b g (ap is_absent (is_a_directory (contents_at (R k) x) d))
          (nothing_below (other k) p x none b) in
          holds_none k x mark.Absent g d refl
          (at_going V k p x (λ c. not (is_allowed V c)) facts.allowed member)
          (at_going V k p x (blocks V) facts.free member)

      walk : (r x : Path) → is_over p x ≡ true → reach P x ≡ true
          → is_absent (contents_at (R k) (x ++ r)) ≡ false → reach P (x ++ r) ≡ true
      walk [] x o g there = ap (reach P) (append-nil x) ∙ g
      walk (n ∷ r) x o g there =
          let whole : (x ++ n ∷ []) ++ r ≡ x ++ n ∷ r = append_assoc x (n ∷ []) r in
          let d : is_directory (contents_at (R k) x) ≡ true = ap is_directory
          (above_directory (R k) x (x ++ n ∷ r) (trees k) (below_from x n r) there) in
          let child_there : is_absent (contents_at (R k) (x ++ n ∷ [])) ≡ false = present_front k r
          (x ++ n ∷ []) (ap (λ y. is_absent (contents_at (R k) y)) whole ∙ there) in
          let more : is_over p (x ++ n ∷ []) ≡ true = is_over-transitive p x (x ++ n ∷ []) o
          (is_over-append x (n ∷ [])) in
          ap (reach P) (sym whole)
          ∙ walk r (x ++ n ∷ []) more
          (child_reached k x n (bare_by x (path_eq p x) refl o g d) child_there)
          (ap (λ y. is_absent (contents_at (R k) y)) whole ∙ there)

      -- All that is below is reached.
      pub all_reached : (q : Path) → is_below p q ≡ true → is_absent (contents_at (R k) q) ≡ false
          → reach P q ≡ true
      all_reached q b there =
          let o : is_over p q ≡ true = below_over p q b in
          let whole : q ≡ p ++ drop (length p) q = is_over-rest p q o in
          ap (reach P) whole
          ∙ walk (drop (length p) q) p (is_over-reflexive p) h
          (ap (λ y. is_absent (contents_at (R k) y)) (sym whole) ∙ there)

      -- All that is below goes.
      pub going_all : going V (other k) p ≡ under (R k) p
      going_all =
          same_list (going V (other k) p) (under (R k) p) (going_sorted k p) (under_sorted (R k) p)
          (λ q e. let w = of_going k p q e in in_under (R k) p q w.0 w.2)
          (λ q e. let w = of_under (R k) p q e in
          in_going k p q w.0 (all_reached q w.0 w.1) w.1 (nothing_below (other k) p q none w.0))

  -- The paths that come.
  pub coming_is : (k : Side) (p : Path) → coming V k p ≡ filter (reach P) (under (R k) p)
  coming_is k p =
      same_list (coming V k p) (filter (reach P) (under (R k) p))
      (IsStrictlySortedBy-filter path_cmp (λ q. is_present (V.mark k q)) (below V p)
      (IsStrictlySortedBy-filter path_cmp (is_below p) V.paths (paths_sorted P A B O)))
      (IsStrictlySortedBy-filter path_cmp (reach P) (under (R k) p) (under_sorted (R k) p))
      (λ q e.
      let two = and_parts (is_present (V.mark k q)) (among q (below V p))
      (sym (among_filter q (λ q. is_present (V.mark k q)) (below V p)) ∙ e) in
      let place = below_of p q two.1 in
      among_filter q (reach P) (under (R k) p)
      ∙ and_from (reach P q) _ place.1
      (in_under (R k) p q place.0 (not-true _ (sym (present_here P A B O k q place.1) ∙ two.0))))
      (λ q e.
      let two = and_parts (reach P q) (among q (under (R k) p))
      (sym (among_filter q (reach P) (under (R k) p)) ∙ e) in
      let place = of_under (R k) p q two.1 in
      among_filter q (λ q. is_present (V.mark k q)) (below V p)
      ∙ and_from (is_present (V.mark k q)) _ (present_here P A B O k q two.0 ∙ ap not place.1)
      (in_below k p q place.0 two.0 place.1))

  -- Under what is no directory is nothing.
  pub none_under : (k : Side) (p : Path) → is_directory (contents_at (R k) p) ≡ false
      → under (R k) p ≡ []
  none_under k p none =
      no_members (under (R k) p) (λ q e. let w = of_under (R k) p q e in
      false≢true (sym w.1 ∙ nothing_below k p q none w.0))

  pub none_going : (k : Side) (p : Path) → is_directory (contents_at (R k) p) ≡ false
      → going V (other k) p ≡ []
  none_going k p none =
      no_members (going V (other k) p) (λ q e. let w = of_going k p q e in
      false≢true (sym w.2 ∙ nothing_below k p q none w.0))

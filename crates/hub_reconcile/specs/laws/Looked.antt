-- Where all needed Looks are made, they tell the view of the two replicas.
use Rattle.std.proofs.Common.{◌≡◌, Bool, true, false, cond, not, ◌&&◌, ◌||◌, List, [], ◌∷◌, ◌++◌, length, map, drop, Option, Some, None, refl, ap, sym, ◌∙◌, subst, arith, append_assoc, append-nil}
use Rattle.std.specs.Prelude.{◌==◌, if◌then◌else◌, filter}
use Rattle.std.specs.List.{list_any, list_all, flat_map}
use Rattle.std.specs.Option.{is_some, unwrap_or}
use Rattle.std.specs.FinMap as fin
use Rattle.std.specs.Ordering.{eq_by_cmp}
use Rattle.std.proofs.lemmas.Bool.{false≢true, and_parts, and_from, or_left, or_right, not-true, not-false, false_from_ne_true}
use Rattle.std.proofs.lemmas.List.Folds.{list_any-append}
use Rattle.std.proofs.lemmas.List.Kept.{IsStrictlySortedBy-filter}
use Rattle.std.proofs.Math.Bool.{and-false}
use Rattle.hub_path.specs.laws.General.{is_over-rest, is_over-append, is_over-reflexive, is_over-transitive, is_over-length, is_over-continued, is_place-over, last_name-push}
use Rattle.hub_path.specs.Path.{Name, Path, path_cmp, path_eq, is_over, is_path, is_place, parent, ascending}
use Rattle.hub_path.specs.declared.side.Side.{Side}
use Rattle.hub_path.specs.declared.side.Side.TheVariants.{Left, Right}
use Rattle.hub_profile.specs.Parts.{Parts, IsProfile, at_side}
use Rattle.hub_reach.specs.Reach.{reach, write}
use Rattle.hub_reach.specs.laws.General.{reach-is_path, reach-below}
use Rattle.hub_reach.specs.laws.Between.{reach-between}
use Rattle.hub_tree.specs.Tree.{Replica, Archive, IsTree, contents_at, mark_of, is_absent, is_directory, children}
use Rattle.hub_tree.specs.declared.contents.Mark.{Mark}
use Rattle.hub_tree.specs.declared.contents.Mark.TheVariants as mark
use Rattle.hub_tree.specs.laws.Children.{any_children-push, one_item, no_items, child_names}
use Rattle.hub_tree.specs.laws.Contented.{shown_contents, absent_childless}
use Rattle.hub_tree.specs.laws.Beneath.{below_from}
use Rattle.hub_tree.specs.laws.Between.{among, any_equal, among_filter, absent_of}
use Rattle.hub_reconcile.specs.Sight.{Sight, sight, is_kept_value, is_kept_parent, directory_or_absent, reached_names}
use Rattle.hub_reconcile.specs.View.{View, counts, mark_seen, is_present}
use Rattle.hub_reconcile.specs.Picture.{sight_in, view_by, first_looks, needed, was_seen}
use Rattle.hub_reconcile.specs.Sync.{of_side, root_or_top, view_of, sights_of}
use Rattle.hub_reconcile.specs.laws.Ascend.{ascending_sorted, among_ascending, same_list}
use Rattle.hub_reconcile.specs.laws.Views.{same_paths, sight_if, sight_unless, key_of, present_here}
use Rattle.hub_reconcile.specs.laws.Below.{nothing_below, present_front}
use Rattle.hub_reconcile.specs.laws.Synced.{any_witness, any_from}
use Rattle.hub_reconcile.specs.laws.Each.{all_at}
use Rattle.hub_reconcile.specs.laws.Looks.{seen_told, told_at, untold_at, told_paths, listed_below, among_listed, among_names, first_kept, first_parent}

-- Sights.
others_either : (b : Bool) (s t : Sight) → s.others ≡ false → t.others ≡ false
    → (cond b s t).others ≡ false
others_either true s t e f = e
others_either false s t e f = f

pub not_reached_top : (P : Parts) → reach P [] ≡ false
not_reached_top P = false_from_ne_true _ (λ h. false≢true (reach-is_path P [] h))

pub old_among : (O : Archive) (q : Path) (o : Option Mark) → fin.get O q ≡ o
    → is_present (unwrap_or o mark.Absent) ≡ true → among q (fin.keys O) ≡ true
old_among O q None e h = absurd (false≢true h)
old_among O q (Some m) e h = sym (fin.contains_key-keys O q) ∙ ap is_some e

no_names : (s : Path) → is_over s [] ≡ true → s ≡ []
no_names [] o = refl
no_names (n ∷ s) o = absurd (omega (arith, is_over-length (n ∷ s) [] o))

-- What is over a reached path and has names is a path.
path_over : (P : Parts) (n : Name) (x y : Path) → is_over (n ∷ x) y ≡ true → reach P y ≡ true
    → is_path (n ∷ x) ≡ true
path_over P n x y o h =
    and_from _ (is_place (n ∷ x)) (ap not (one_item n x))
    (is_place-over (n ∷ x) y (and_parts (not (length y == 0)) (is_place y) (reach-is_path P y h)).1
    o)

pushed_path : (P : Parts) (x : Path) (n : Name) (y : Path) → is_over (x ++ n ∷ []) y ≡ true
    → reach P y ≡ true → is_path (x ++ n ∷ []) ≡ true
pushed_path P [] n y o h = path_over P n [] y o h
pushed_path P (m ∷ x) n y o h = path_over P m (x ++ n ∷ []) y o h

counts_by : (P : Parts) → IsProfile P → (p s : Path) → reach P p ≡ true → is_over s p ≡ true
    → among s P.paths ≡ true → (length s == 0 || reach P s) ≡ true
counts_by P facts p [] h o member = refl
counts_by P facts p (n ∷ s) h o member =
    or_right (length (n ∷ s) == 0) _
    (reach-between P (n ∷ s) p facts h o
    (any_from (λ t. is_over t (n ∷ s)) P.paths (n ∷ s) member (is_over-reflexive (n ∷ s)))
    (path_over P n s p o h))

-- A kept value that counts stands over each reached path.
pub kept_over : (P : Parts) → IsProfile P → (p : Path) → reach P p ≡ true → (s : Path)
    × (is_kept_value P s ≡ true) × (is_over s p ≡ true) × (among s P.paths ≡ true)
kept_over P facts p h =
    let w = any_witness (λ s. is_over s p) P.paths (reach-below P p h) in
    (w.0, and_from _ _ (any_equal w.0 P.paths ∙ w.1) (counts_by P facts p w.0 h w.2 w.1), w.2, w.1)

module _ (P : Parts) (facts : IsProfile P) (A B : Replica) (O : Archive) (left : IsTree A)
    (right : IsTree B) where
  abbrev R : Side → Replica
  R k = of_side A B k

  abbrev root : Side → Path
  root k = root_or_top (at_side P.roots k)

  abbrev S : Side → Path → Sight
  S k d = sight P (root k) (R k) d

  pub names_reached : (k : Side) (x : Path) → reach P x ≡ true
      → (S k x).names ≡ reached_names P (R k) x
  unfolding sight
  names_reached k x h = sight_if (λ s. s.names) (reach P x) _ _ h

  pub names_top : (k : Side) → is_kept_value P [] ≡ true → (S k []).names ≡ reached_names P (R k) []
  unfolding sight
  names_top k h =
      sight_unless (λ s. s.names) (reach P []) _ _ (not_reached_top P)
      ∙ sight_if (λ s. s.names) (is_kept_value P []) _ _ h

  names_over : (k : Side) (s x : Path) → is_kept_value P s ≡ true → among s P.paths ≡ true
      → is_over s x ≡ true → (length x == 0 || reach P x) ≡ true
      → (S k x).names ≡ reached_names P (R k) x
  names_over k s [] kept member o h =
      let is : s ≡ [] = no_names s o in
      names_top k (subst (λ t. is_kept_value P t ≡ true) is kept)
  names_over k s (n ∷ x) kept member o h =
      names_reached k (n ∷ x) (ap (λ b. b || reach P (n ∷ x)) (sym (one_item n x)) ∙ h)

  module _ (k : Side) (ps : List Path)
      (seen : (q : Path) → among q (needed P (sights_of P A B k ps)) ≡ true → among q ps ≡ true)
    where
      first_seen : (q : Path) → among q (first_looks P) ≡ true → among q ps ≡ true
      first_seen q e =
          seen q (among_ascending q (first_looks P ++ flat_map listed_below (sights_of P A B k ps))
          ∙ (list_any-append (eq_by_cmp path_cmp q) (first_looks P)
          (flat_map listed_below (sights_of P A B k ps)) ∙ or_left _ _ e))

      child_seen : (d q : Path) → among d ps ≡ true → among q (listed_below (d, S k d)) ≡ true
          → among q ps ≡ true
      child_seen d q e h =
          seen q (among_ascending q (first_looks P ++ flat_map listed_below (sights_of P A B k ps))
          ∙ (list_any-append (eq_by_cmp path_cmp q) (first_looks P)
          (flat_map listed_below (sights_of P A B k ps))
          ∙ or_right (among q (first_looks P)) _ (among_listed q d (S k) ps e h)))

      walk : (s : Path) → is_kept_value P s ≡ true → among s P.paths ≡ true → (r x : Path)
          → is_over s x ≡ true → (length x == 0 || reach P x) ≡ true → among x ps ≡ true
          → reach P (x ++ r) ≡ true
          → is_absent (contents_at (R k) (x ++ r)) ≡ false → among (x ++ r) ps ≡ true
      walk s kept member [] x o g e h there = ap (λ y. among y ps) (append-nil x) ∙ e
      walk s kept member (n ∷ r) x o g e h there =
          let y = x ++ n ∷ [] in
          let whole : y ++ r ≡ x ++ n ∷ r = append_assoc x (n ∷ []) r in
          let over : is_over y (x ++ n ∷ r) ≡ true = is_over-continued y (x ++ n ∷ r) r (sym whole)
          in
          let more : is_over s y ≡ true = is_over-transitive s x y o (is_over-append x (n ∷ [])) in
          let reached : reach P y ≡ true = reach-between P y (x ++ n ∷ r) facts h over
          (any_from (λ t. is_over t y) P.paths s member more)
          (pushed_path P x n (x ++ n ∷ r) over h)
          in
          let present : is_absent (contents_at (R k) y) ≡ false = present_front P A B O left right k
          r
          y (ap (λ z. is_absent (contents_at (R k) z)) whole ∙ there) in
          let child : among y (filter (reach P) (children (R k) x)) ≡ true =
          among_filter y (reach P) (children (R k) x)
          ∙ and_from (reach P y) _ reached (any_children-push (R k) x n
          ∙ (shown_contents (R k) y (child_names x n) ∙ ap not present)) in
          let named : among y (listed_below (x, S k x)) ≡ true =
          ap (λ ns. among y (map (λ n. x ++ n ∷ []) ns)) (names_over k s x kept member o g)
          ∙ among_names x y (filter (reach P) (children (R k) x)) child
          (ap (λ m. x ++ m ∷ []) (last_name-push x n)) in
          ap (λ z. among z ps) (sym whole)
          ∙ walk s kept member r y more (or_right (length y == 0) _ reached)
          (child_seen x y e named)
          (ap (reach P) whole ∙ h) (ap (λ z. is_absent (contents_at (R k) z)) whole ∙ there)

      -- What is reached and there was seen.
      pub there_seen : (p : Path) → reach P p ≡ true → is_absent (contents_at (R k) p) ≡ false
          → among p ps ≡ true
      there_seen p h there =
          let w = kept_over P facts p h in
          let whole : p ≡ w.0 ++ drop (length w.0) p = is_over-rest w.0 p w.2 in
          ap (λ y. among y ps) whole
          ∙ walk w.0 w.1 w.3 (drop (length w.0) p) w.0 (is_over-reflexive w.0)
          (and_parts (list_any (path_eq w.0) P.paths) (length w.0 == 0 || reach P w.0) w.1).1
          (first_seen w.0 (first_kept P w.0 w.1)) (ap (reach P) (sym whole) ∙ h)
          (ap (λ z. is_absent (contents_at (R k) z)) (sym whole) ∙ there)

      unseen_absent : (p : Path) → among p ps ≡ false → reach P p ≡ true
          → is_absent (contents_at (R k) p) ≡ true
      unseen_absent p e h =
          not-false _ (false_from_ne_true _
          (λ there. false≢true (sym e ∙ there_seen p h (not-true _ there))))

      no_kept_parent : (n : Name) (p : Path) → among (n ∷ p) ps ≡ false
          → is_kept_parent P (n ∷ p) ≡ false
      no_kept_parent n p e = false_from_ne_true _ (λ h.
          let w = any_witness (λ s. is_kept_value P s && path_eq (parent s) (n ∷ p)) P.paths h in
          let two = and_parts (is_kept_value P w.0) (path_eq (parent w.0) (n ∷ p)) w.2 in
          let is : parent w.0 ≡ n ∷ p = same_paths (parent w.0) (n ∷ p) two.1 in
          false≢true (sym e
          ∙ (ap (λ q. among q ps) (sym is)
          ∙ first_seen (parent w.0) (first_parent P w.0 n p two.0 is))))

      mark_unseen : (n : Name) (p : Path) (b : Bool) → reach P (n ∷ p) ≡ b
          → among (n ∷ p) ps ≡ false
          → mark.Absent ≡ (S k (n ∷ p)).mark
      unfolding sight
      mark_unseen n p true h e =
          sym (sight_if (λ s. s.mark) (reach P (n ∷ p)) _ _ h
          ∙ ap mark_of (absent_of _ (unseen_absent (n ∷ p) e h)))
      mark_unseen n p false h e =
          sym (sight_unless (λ s. s.mark) (reach P (n ∷ p)) _ _ h
          ∙ (sight_unless (λ s. s.mark) (length (n ∷ p) == 0 && is_kept_value P []) _ _
          (ap (λ b. b && is_kept_value P []) (one_item n p))
          ∙ ap (λ b. directory_or_absent (b && is_directory (contents_at (R k) (n ∷ p))))
          (no_kept_parent n p e)))

      mark_by : (n : Name) (p : Path) (b : Bool) → among (n ∷ p) ps ≡ b
          → (sight_in (sights_of P A B k ps) (n ∷ p)).mark ≡ (S k (n ∷ p)).mark
      mark_by n p true e = ap (λ (s : Sight). s.mark) (told_at (S k) ps (n ∷ p) e)
      mark_by n p false e = ap (λ (s : Sight). s.mark) (untold_at (S k) ps (n ∷ p) e)
          ∙ mark_unseen n p (reach P (n ∷ p)) refl e

      pub mark_alike : (p : Path)
          → (if length p == 0 then mark.Absent else (sight_in (sights_of P A B k ps) p).mark)
          ≡ (if length p == 0 then mark.Absent else (S k p).mark)
      mark_alike [] = refl
      mark_alike (n ∷ p) =
          ap (λ m. if length (n ∷ p) == 0 then mark.Absent else m)
          (mark_by n p (among (n ∷ p) ps) refl)

      others_unseen : (p : Path) (b : Bool) → reach P p ≡ b → among p ps ≡ false
          → false ≡ (S k p).others
      unfolding sight
      others_unseen p true h e =
          let gone = unseen_absent p e h in
          let none : is_directory (contents_at (R k) p) ≡ false = ap is_directory (absent_of _ gone)
          in
          let bare : children (R k) p ≡ [] = no_items (children (R k) p)
          (absent_childless (R k) p (λ n. nothing_below P A B O left right k p (p ++ n ∷ []) none
          (below_from p n []))) in
          sym (sight_if (λ s. s.others) (reach P p) _ _ h
          ∙ (ap (λ cs. write P (root k) p && list_any (λ q. not (reach P q)) cs) bare
          ∙ and-false (write P (root k) p)))
      others_unseen p false h e =
          sym (sight_unless (λ s. s.others) (reach P p) _ _ h
          ∙ others_either (length p == 0 && is_kept_value P []) _ _ refl refl)

      others_by : (p : Path) (b : Bool) → among p ps ≡ b
          → (sight_in (sights_of P A B k ps) p).others ≡ (S k p).others
      others_by p true e = ap (λ (s : Sight). s.others) (told_at (S k) ps p e)
      others_by p false e = ap (λ (s : Sight). s.others) (untold_at (S k) ps p e)
          ∙ others_unseen p (reach P p) refl e

      pub others_alike : (p : Path) → (sight_in (sights_of P A B k ps) p).others ≡ (S k p).others
      others_alike p = others_by p (among p ps) refl

  module _ (looks : Side → List Path)
      (seen : (k : Side) (q : Path) → among q (needed P (sights_of P A B k (looks k))) ≡ true
      → among q (looks k) ≡ true) where
    abbrev V : View
    V = view_of P A B O

    abbrev told : Side → List (Path × Sight)
    told k = sights_of P A B k (looks k)

    abbrev found : List Path
    found = map (λ (s : Path × Sight). s.0) (told Left) ++ map (λ (s : Path × Sight). s.0)
        (told Right) ++ fin.keys O

    abbrev candidates : List Path
    candidates = fin.keys A ++ fin.keys B ++ fin.keys O

    abbrev does_count : Path → Bool
    does_count q = counts (reach P) V.mark V.old q

    in_three : (q : Path) (xs ys zs : List Path) → (among q xs || among q ys || among q zs) ≡ true
        → among q (xs ++ ys ++ zs) ≡ true
    in_three q xs ys zs e =
        list_any-append (eq_by_cmp path_cmp q) (xs ++ ys) zs
        ∙ (ap (λ b. b || among q zs) (list_any-append (eq_by_cmp path_cmp q) xs ys) ∙ e)

    in_either : (a b c x y z : Bool) → (a ≡ true → x ≡ true) → (b ≡ true → y ≡ true)
        → (c ≡ true → z ≡ true) → (a || b || c) ≡ true → (x || y || z) ≡ true
    in_either true b c x y z f g h e = or_left _ z (or_left x y (f refl))
    in_either false true c x y z f g h e = or_left _ z (or_right x y (g refl))
    in_either false false true x y z f g h e = or_right (x || y) z (h refl)
    in_either false false false x y z f g h e = absurd (false≢true e)

    present_there : (k : Side) (q : Path) → reach P q ≡ true → is_present (V.mark k q) ≡ true
        → is_absent (contents_at (R k) q) ≡ false
    present_there k q h e = not-true _ (sym (present_here P A B O k q h) ∙ e)

    counted_candidate : (q : Path) → does_count q ≡ true → among q candidates ≡ true
    counted_candidate q e =
        let two = and_parts (reach P q) (is_present (V.mark Left q) || is_present (V.mark Right q)
        || is_present (V.old q)) e in
        in_three q (fin.keys A) (fin.keys B) (fin.keys O)
        (in_either (is_present (V.mark Left q)) (is_present (V.mark Right q)) (is_present (V.old q))
        (among q (fin.keys A)) (among q (fin.keys B)) (among q (fin.keys O))
        (λ h. key_of P A B O Left q two.0 (present_there Left q two.0 h))
        (λ h. key_of P A B O Right q two.0 (present_there Right q two.0 h))
        (λ h. old_among O q (fin.get O q) refl h) two.1)

    counted_found : (q : Path) → does_count q ≡ true → among q found ≡ true
    counted_found q e =
        let two = and_parts (reach P q) (is_present (V.mark Left q) || is_present (V.mark Right q)
        || is_present (V.old q)) e in
        in_three q (map (λ (s : Path × Sight). s.0) (told Left))
        (map (λ (s : Path × Sight). s.0) (told Right)) (fin.keys O)
        (in_either (is_present (V.mark Left q)) (is_present (V.mark Right q)) (is_present (V.old q))
        (among q (map (λ (s : Path × Sight). s.0) (told Left)))
        (among q (map (λ (s : Path × Sight). s.0) (told Right))) (among q (fin.keys O))
        (λ h. ap (among q) (told_paths (S Left) (looks Left))
        ∙ there_seen Left (looks Left) (seen Left) q two.0 (present_there Left q two.0 h))
        (λ h. ap (among q) (told_paths (S Right) (looks Right))
        ∙ there_seen Right (looks Right) (seen Right) q two.0 (present_there Right q two.0 h))
        (λ h. old_among O q (fin.get O q) refl h) two.1)

    counted_lists : (xs ys : List Path) → ((q : Path) → does_count q ≡ true → among q ys ≡ true)
        → (q : Path) → among q (filter does_count (ascending xs)) ≡ true
        → among q (filter does_count (ascending ys)) ≡ true
    counted_lists xs ys into q e =
        let c =
        (and_parts (does_count q) (among q (ascending xs))
        (sym (among_filter q does_count (ascending xs)) ∙ e)).0 in
        among_filter q does_count (ascending ys)
        ∙ and_from (does_count q) _ c (among_ascending q ys ∙ into q c)

    paths_alike : filter does_count (ascending found) ≡ filter does_count (ascending candidates)
    paths_alike =
        same_list (filter does_count (ascending found)) (filter does_count (ascending candidates))
        (IsStrictlySortedBy-filter path_cmp does_count (ascending found) (ascending_sorted found))
        (IsStrictlySortedBy-filter path_cmp does_count (ascending candidates)
        (ascending_sorted candidates))
        (counted_lists found candidates counted_candidate)
        (counted_lists candidates found counted_found)

    marks : mark_seen (λ side p. sight_in (told side) p) ≡ V.mark
    marks = λ i side p. mark_alike side (looks side) (seen side) p i

    -- The Looks tell the view.
    pub told_view : view_by P O told ≡ V
    told_view =
        let e = ap (λ m. filter (counts (reach P) m V.old) (ascending found)) marks ∙ paths_alike in
        λ i. record {
          reached = V.reached;
          force = V.force;
          prefer = V.prefer;
          allowed = V.allowed;
          mark = marks i;
          others = λ side p. others_alike side (looks side) (seen side) p i;
          old = V.old;
          paths = e i;
        }

pub looks_tell : (P : Parts) (A B : Replica) (O : Archive) (looks : Side → List Path) → IsProfile P
    → IsTree A → IsTree B
    → ((k : Side)
    → list_all (was_seen (sights_of P A B k (looks k))) (needed P (sights_of P A B k (looks k)))
    ≡ true)
    → view_by P O (λ k. sights_of P A B k (looks k)) ≡ view_of P A B O
looks_tell P A B O looks facts left right all =
    told_view P facts A B O left right looks
    (λ k q e. sym (seen_told (λ d. sight P (root_or_top (at_side P.roots k)) (of_side A B k) d)
    (looks k) q)
    ∙ all_at (was_seen (sights_of P A B k (looks k))) (needed P (sights_of P A B k (looks k)))
    q (all k) e)

-- What the view of two replicas says of them.
use Rattle.std.proofs.Common.{◌≡◌, ◌<◌, Bool, true, false, cond, not, ◌&&◌, ◌||◌, List, [], ◌∷◌, ◌++◌, length, Option, Some, None, refl, ap, sym, ◌∙◌, arith}
use Rattle.std.specs.Prelude.{◌==◌}
use Rattle.std.specs.List.{list_any}
use Rattle.std.specs.List.Sorted.{IsStrictlySortedBy}
use Rattle.std.specs.Option.{unwrap_or}
use Rattle.std.specs.FinMap as fin
use Rattle.std.specs.Ordering.{eq_by_cmp}
use Rattle.std.proofs.lemmas.Bool.{false≢true, and_parts, and_from, or_left, or_right, false_from_ne_true, cond-true, cond-false}
use Rattle.std.proofs.lemmas.List.Folds.{list_any-append}
use Rattle.std.proofs.lemmas.List.Kept.{IsStrictlySortedBy-filter}
use Rattle.std.specs.declared.cmp.Ordering.TheVariants.{Less}
use Rattle.hub_path.specs.Path.{Path, path_cmp, path_eq, ascending}
use Rattle.hub_path.specs.declared.side.Side.{Side}
use Rattle.hub_path.specs.declared.side.Side.TheVariants.{Left, Right}
use Rattle.hub_profile.specs.Parts.{Parts, at_side, some_passes}
use Rattle.hub_profile.specs.declared.verb.Verb.{Verb}
use Rattle.hub_profile.specs.declared.verb.Verb.TheVariants.{Create, Update, Delete}
use Rattle.hub_reach.specs.laws.General.{reach-is_path}
use Rattle.hub_reach.specs.Reach.{reach, may_at, write, has_root}
use Rattle.hub_tree.specs.Tree.{Replica, Archive, contents_at, mark_at, mark_of, is_absent, is_directory, children}
use Rattle.hub_tree.specs.declared.contents.Contents.{Contents}
use Rattle.hub_tree.specs.declared.contents.Contents.TheVariants as contents
use Rattle.hub_tree.specs.declared.contents.Mark.TheVariants as mark
use Rattle.hub_tree.specs.laws.Order.{same_path, path_itself}
use Rattle.hub_tree.specs.laws.Children.{path_eq-cmp, one_item}
use Rattle.hub_tree.specs.laws.Between.{among, among_filter, among_keys, not_both}
use Rattle.hub_reconcile.specs.Sight.{Sight, sight, is_kept_value, is_kept_parent, directory_or_absent}
use Rattle.hub_reconcile.specs.Items.{other}
use Rattle.hub_reconcile.specs.View.{View, counts, allowed_at, is_present, is_folder}
use Rattle.hub_reconcile.specs.Sync.{of_side, root_or_top, view_of}
use Rattle.hub_reconcile.specs.laws.Ascend.{ascending_sorted, among_ascending}

-- Equal paths, by either test.
pub same_paths : (p q : Path) → path_eq p q ≡ true → p ≡ q
same_paths p q e = same_path p q (sym (path_eq-cmp p q) ∙ e)

pub paths_same : (p : Path) → path_eq p p ≡ true
paths_same p = path_eq-cmp p p ∙ path_itself p

pub apart_from : (q p : Path) → path_cmp q p ≡ Less → path_eq q p ≡ false
apart_from q p l =
    false_from_ne_true (path_eq q p) (λ k. let w : path_cmp p p ≡ Less =
    ap (λ z. path_cmp z p) (sym (same_paths q p k)) ∙ l in not_both p p w w)

-- Marks and contents.
pub present-mark : (c : Contents) → is_present (mark_of c) ≡ not (is_absent c)
present-mark (contents.File bytes) = refl
present-mark contents.Directory = refl
present-mark contents.Absent = refl

pub folder-mark : (c : Contents) → is_folder (mark_of c) ≡ is_directory c
folder-mark (contents.File bytes) = refl
folder-mark contents.Directory = refl
folder-mark contents.Absent = refl

pub folder_if : (b : Bool) → is_folder (directory_or_absent b) ≡ true → b ≡ true
folder_if true e = refl
folder_if false e = absurd (false≢true e)

-- What one of two sights says.
pub sight_if : {X : Type 0} (g : Sight → X) (b : Bool) (s t : Sight) → b ≡ true
    → g (cond b s t) ≡ g s
sight_if g b s t e = ap g (cond-true b s t e)

pub sight_unless : {X : Type 0} (g : Sight → X) (b : Bool) (s t : Sight) → b ≡ false
    → g (cond b s t) ≡ g t
sight_unless g b s t e = ap g (cond-false b s t e)

pub some_verb : (P : Parts) (r q : Path) (verb : Verb) → may_at P r q verb ≡ true
    → (may_at P r q Create || may_at P r q Update || may_at P r q Delete) ≡ true
some_verb P r q Create e =
    or_left _ (may_at P r q Delete) (or_left (may_at P r q Create) (may_at P r q Update) e)
some_verb P r q Update e =
    or_left _ (may_at P r q Delete) (or_right (may_at P r q Create) (may_at P r q Update) e)
some_verb P r q Delete e =
    or_right (may_at P r q Create || may_at P r q Update) (may_at P r q Delete) e

root_among : (roots : List Path) (side : Side) (r : Path) → at_side roots side ≡ Some r
    → list_any (λ own. path_eq own r) roots ≡ true
root_among [] Left r e = cc
root_among [] Right r e = cc
root_among (a ∷ rs) Left r e =
    or_left _ _ (ap (path_eq a) (sym (ap (λ o. unwrap_or o a) e)) ∙ paths_same a)
root_among (a ∷ []) Right r e = cc
root_among (a ∷ b ∷ rs) Right r e =
    or_right (path_eq a r) _ (or_left _ _ (ap (path_eq b) (sym (ap (λ o. unwrap_or o b) e))
    ∙ paths_same b))

-- What is allowed at a side is written at its root.
writes_by : (P : Parts) (side : Side) (q : Path) (verb : Verb) (o : Option Path)
    → at_side P.roots side ≡ o → some_passes (λ r. may_at P r q verb) o ≡ true → reach P q ≡ true
    → write P (root_or_top o) q ≡ true
writes_by P side q verb None is e h = absurd (false≢true e)
writes_by P side q verb (Some r) is e h =
    and_from _ (reach P q)
    (and_from (has_root P r) _ (root_among P.roots side r is) (some_verb P r q verb e)) h

pub allowed-writes : (P : Parts) (side : Side) (q : Path) (verb : Verb)
    → allowed_at P side q verb ≡ true → reach P q ≡ true
    → write P (root_or_top (at_side P.roots side)) q ≡ true
allowed-writes P side q verb e h = writes_by P side q verb (at_side P.roots side) refl e h

pub reach-names : (P : Parts) (p : Path) → reach P p ≡ true → 0 < length p
reach-names P [] h = absurd (false≢true (reach-is_path P [] h))
reach-names P (n ∷ p) h = omega arith

-- Two replicas by side, what is at a path on the other side, and the view of both.
pub record Scene : Type 0 where
  pub replica : Side → Replica
  pub opposite : Side → Path → Contents
  pub view : View

abbrev pub scene : Parts → Replica → Replica → Archive → Scene
scene P A B O = record {
  replica = λ k. of_side A B k;
  opposite = λ k q. contents_at (of_side A B (other k)) q;
  view = view_of P A B O;
}

module _ (P : Parts) (A B : Replica) (O : Archive) where
  open scene P A B O use {replica as R, view as V}

  abbrev pub root : Side → Path
  root k = root_or_top (at_side P.roots k)

  -- The mark of a reached path, and whether it holds others.
  pub mark_here : (k : Side) (p : Path) → reach P p ≡ true → V.mark k p ≡ mark_at (R k) p
  unfolding sight
  mark_here k [] h = absurd (false≢true (reach-is_path P [] h))
  mark_here k (n ∷ p) h = ap (λ b. cond b mark.Absent (sight P (root k) (R k) (n ∷ p)).mark)
      (one_item n p) ∙ sight_if (λ s. s.mark) (reach P (n ∷ p)) _ _ h

  pub others_here : (k : Side) (p : Path) → reach P p ≡ true
      → V.others k p ≡ (write P (root k) p && list_any (λ q. not (reach P q)) (children (R k) p))
  unfolding sight
  others_here k p h = sight_if (λ s. s.others) (reach P p) _ _ h

  pub present_here : (k : Side) (p : Path) → reach P p ≡ true
      → is_present (V.mark k p) ≡ not (is_absent (contents_at (R k) p))
  present_here k p h = ap is_present (mark_here k p h) ∙ present-mark (contents_at (R k) p)

  pub folder_here : (k : Side) (p : Path) → reach P p ≡ true
      → is_folder (V.mark k p) ≡ is_directory (contents_at (R k) p)
  folder_here k p h = ap is_folder (mark_here k p h) ∙ folder-mark (contents_at (R k) p)

  -- A folder that is seen is a directory.
  folder_sight : (k : Side) (p : Path) (b d : Bool) → reach P p ≡ b
      → (length p == 0 && is_kept_value P []) ≡ d → (length p == 0) ≡ false
      → is_folder (sight P (root k) (R k) p).mark ≡ true → is_directory (contents_at (R k) p) ≡ true
  unfolding sight
  folder_sight k p true d e f l h = sym (folder-mark (contents_at (R k) p))
      ∙ (ap is_folder (sym (sight_if (λ s. s.mark) (reach P p) _ _ e)) ∙ h)
  folder_sight k p false true e f l h =
      absurd (false≢true (ap (λ b. b && is_kept_value P []) (sym l) ∙ f))
  folder_sight k p false false e f l h =
      (and_parts (is_kept_parent P p) (is_directory (contents_at (R k) p))
      (folder_if (is_kept_parent P p && is_directory (contents_at (R k) p))
      (ap is_folder (sym (sight_unless (λ s. s.mark) (length p == 0 && is_kept_value P []) _ _ f)
      ∙ sym (sight_unless (λ s. s.mark) (reach P p) _ _ e)) ∙ h))).1

  pub folder_seen : (k : Side) (p : Path) → is_folder (V.mark k p) ≡ true
      → is_directory (contents_at (R k) p) ≡ true
  folder_seen k [] h = refl
  folder_seen k (n ∷ p) h =
      folder_sight k (n ∷ p) (reach P (n ∷ p)) (length (n ∷ p) == 0 && is_kept_value P []) refl refl
      (one_item n p)
      (ap (λ b. is_folder (cond b mark.Absent (sight P (root k) (R k) (n ∷ p)).mark))
      (sym (one_item n p)) ∙ h)

  -- The paths of the view.
  abbrev candidates : List Path
  candidates = fin.keys A ++ fin.keys B ++ fin.keys O

  abbrev does_count : Path → Bool
  does_count q = counts (reach P) V.mark V.old q

  pub paths_sorted : IsStrictlySortedBy path_cmp V.paths
  paths_sorted = IsStrictlySortedBy-filter path_cmp does_count (ascending candidates)
      (ascending_sorted candidates)

  pub of_paths : (q : Path) → among q V.paths ≡ true → reach P q ≡ true
  of_paths q e =
      (and_parts (reach P q) _
      (and_parts (does_count q) (among q (ascending candidates))
      (sym (among_filter q does_count (ascending candidates)) ∙ e)).0).0

  pub key_of : (k : Side) (q : Path) → reach P q ≡ true → is_absent (contents_at (R k) q) ≡ false
      → among q (fin.keys (R k)) ≡ true
  key_of k q h there = among_keys (R k) q there (reach-names P q h)

  pub among_candidates : (k : Side) (q : Path) → reach P q ≡ true
      → is_absent (contents_at (R k) q) ≡ false → among q candidates ≡ true
  among_candidates Left q h there =
      list_any-append (eq_by_cmp path_cmp q) (fin.keys A ++ fin.keys B) (fin.keys O)
      ∙ or_left _ _ (list_any-append (eq_by_cmp path_cmp q) (fin.keys A) (fin.keys B)
      ∙ or_left _ _ (key_of Left q h there))
  among_candidates Right q h there =
      list_any-append (eq_by_cmp path_cmp q) (fin.keys A ++ fin.keys B) (fin.keys O)
      ∙ or_left _ _ (list_any-append (eq_by_cmp path_cmp q) (fin.keys A) (fin.keys B)
      ∙ or_right (among q (fin.keys A)) _ (key_of Right q h there))

  counted : (k : Side) (q : Path) → reach P q ≡ true → is_present (V.mark k q) ≡ true
      → does_count q ≡ true
  counted Left q h e = and_from (reach P q) _ h (or_left _ _ (or_left _ _ e))
  counted Right q h e =
      and_from (reach P q) _ h (or_left _ _ (or_right (is_present (V.mark Left q)) _ e))

  pub in_paths : (k : Side) (q : Path) → reach P q ≡ true → is_absent (contents_at (R k) q) ≡ false
      → among q V.paths ≡ true
  in_paths k q h there =
      among_filter q does_count (ascending candidates)
      ∙ and_from _ _ (counted k q h (present_here k q h ∙ ap not there))
      (among_ascending q candidates ∙ among_candidates k q h there)

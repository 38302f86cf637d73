-- Roots of profiles, and their pairs.
use Rattle.std.proofs.Common.{◌≡◌, ◌≢◌, ◌⊎◌, inl, inr, Bool, true, false, cond, ◌&&◌, ◌||◌, List, [], ◌∷◌, length, Some, refl, ap, sym, ◌∙◌, subst}
use Rattle.std.specs.Prelude.{◌==◌, IsTrue, unwrap_or}
use Rattle.std.specs.List.{list_all, list_any}
use Rattle.std.specs.FinMap as fin
use Rattle.std.specs.Ordering.{is_lt, ordering_reverse}
use Rattle.std.specs.declared.cmp.Ordering.{Ordering}
use Rattle.std.specs.declared.cmp.Ordering.TheVariants.{Less, Equal, Greater}
use Rattle.std.proofs.lemmas.Bool.{false≢true, and_parts, and_from, or_cases}
use Rattle.hub_path.specs.Path.{Path, is_place, none_over, path_cmp, path_eq}
use Rattle.hub_path.specs.declared.side.Side.TheVariants.{Left, Right}
use Rattle.hub_profile.specs.Parts.{IsProfile, Parts, at_side}
use Rattle.hub_reach.specs.Reach.{has_root}
use Rattle.hub_reach.specs.Safe.{share_archive}
use Rattle.hub_tree.specs.laws.Children.{path_eq-cmp}
use Rattle.hub_tree.specs.laws.Order.{path_antisymmetric, path_itself, path_total}
use Rattle.hub_reconcile.specs.Sync.{root_or_top}
use Rattle.hub_reconcile.specs.laws.Views.{same_paths}
use Rattle.hub_state.specs.State.{State, archive_at}
use Rattle.hub_state.specs.laws.RootTexts.{pair_turned}
use Rattle.hub_job.specs.Outcome.{archive_of}
use Rattle.hub_job.specs.Run.{root_at}
use Rattle.hub_job.specs.laws.Roots.{has_its_root, left_not_right, side_root, two_roots}
use Rattle.hub_serial.specs.World.{RootPair, pair_eq, pair_of, sorted_pair}
use Rattle.hub_starter.specs.Opened.{archive_in, is_root_pair}

pub path_eq-reflexive : (p : Path) → path_eq p p ≡ true
path_eq-reflexive p = path_eq-cmp p p ∙ path_itself p

all_any : (t : Path → Bool) (rs : List Path) (r : Path) → list_all t rs ≡ true
    → list_any (λ own. path_eq own r) rs ≡ true → t r ≡ true
all_any t [] r all any = absurd (false≢true any)
all_any t (s ∷ rs) r all any =
    let two = and_parts (t s) (list_all t rs) all in
    elim (or_cases (path_eq s r) (list_any (λ own. path_eq own r) rs) any) [
      | inl same ↦ ap t (sym (same_paths s r same)) ∙ two.0
      | inr more ↦ all_any t rs r two.1 more
    ]

module _ (P : Parts) (facts : IsProfile P) where
  pub root_is_place : (r : Path) → has_root P r ≡ true → is_place r ≡ true
  root_is_place r h =
      let first = and_parts (length P.roots == 2 && list_all is_place P.roots)
      (none_over P.roots) facts.roots in
      let places = (and_parts (length P.roots == 2) (list_all is_place P.roots) first.0).1 in
      all_any is_place P.roots r places h

  pub has_left : has_root P (root_at P Left) ≡ true
  has_left = has_its_root P Left (root_at P Left) (side_root P facts 0 Left)

  pub has_right : has_root P (root_at P Right) ≡ true
  has_right = has_its_root P Right (root_at P Right) (side_root P facts 0 Right)

  -- A root of the profile is that of one of its sides.
  pub which_side : (r : Path) → has_root P r ≡ true
      → (root_at P Left ≡ r) ⊎ (root_at P Right ≡ r)
  which_side r h =
      let two = two_roots P.roots facts.roots in
      let left : root_at P Left ≡ two.first =
      ap (λ rs. root_or_top (at_side rs Left)) two.are in
      let right : root_at P Right ≡ two.second =
      ap (λ rs. root_or_top (at_side rs Right)) two.are in
      let any : (path_eq two.first r || (path_eq two.second r || false)) ≡ true =
      sym (ap (list_any (λ own. path_eq own r)) two.are) ∙ h in
      elim (or_cases (path_eq two.first r) (path_eq two.second r || false) any) [
        | inl same ↦ inl (left ∙ same_paths two.first r same)
        | inr more ↦ elim (or_cases (path_eq two.second r) false more) [
          | inl same ↦ inr (right ∙ same_paths two.second r same)
          | inr never ↦ absurd (false≢true never)
        ]
      ]

-- The order of two paths.
less_of : (o : Ordering) → is_lt o ≡ true → o ≡ Less
less_of Less e = refl
less_of Equal e = absurd (false≢true e)
less_of Greater e = absurd (false≢true e)

pub not_greater : (r s : Path) → is_lt (path_cmp r s) ≡ true → is_lt (path_cmp s r) ≡ false
not_greater r s e = ap is_lt (path_total.antisymm s r ∙ ap ordering_reverse (less_of (path_cmp r s) e))

not_less : (o : Ordering) → is_lt o ≡ false → (o ≡ Equal → ⊥) → is_lt (ordering_reverse o) ≡ true
not_less Less e off = absurd (false≢true (sym e))
not_less Equal e off = absurd (off refl)
not_less Greater e off = refl

pub one_is_less : (r s : Path) → r ≢ s → is_lt (path_cmp s r) ≡ false → is_lt (path_cmp r s) ≡ true
one_is_less r s off e =
    ap is_lt (path_total.antisymm r s)
    ∙ not_less (path_cmp s r) e (λ same. off (sym (path_antisymmetric s r same)))

pub different : (r s : Path) → is_lt (path_cmp r s) ≡ true → r ≢ s
different r s e same =
    let h : is_lt (path_cmp r r) ≡ true = subst (λ x. is_lt (path_cmp r x) ≡ true) (sym same) e in
    false≢true (sym (not_greater r r h) ∙ h)

roots_differ : (P : Parts) → IsProfile P → root_at P Left ≢ root_at P Right
roots_differ P facts same =
    false≢true (sym (left_not_right P facts 0)
    ∙ (ap (path_eq (root_at P Left)) (sym same) ∙ path_eq-reflexive (root_at P Left)))

-- The pair of a profile is one of roots.
pair_by : (r s : Path) (b : Bool) → is_lt (path_cmp s r) ≡ b → r ≢ s → is_place r ≡ true
    → is_place s ≡ true → is_root_pair (cond {A = RootPair} b (s, r) (r, s)) ≡ true
pair_by r s true e off h g = and_from _ _ (and_from _ _ g h) e
pair_by r s false e off h g = and_from _ _ (and_from _ _ h g) (one_is_less r s off e)

pub is_pair_of_roots : (P : Parts) → IsProfile P → is_root_pair (pair_of P) ≡ true
is_pair_of_roots P facts =
    let a = root_at P Left in
    let b = root_at P Right in
    pair_by a b (is_lt (path_cmp b a)) refl (roots_differ P facts)
    (root_is_place P facts a (has_left P facts)) (root_is_place P facts b (has_right P facts))

-- The archive that a job is given is that of its pair.
same_archive_by : (S : State) (r s : Path) (b : Bool)
    → unwrap_or (archive_at S (cond {A = RootPair} b (s, r) (r, s)).0 (cond {A = RootPair} b (s, r) (r, s)).1) fin.empty
    ≡ unwrap_or (archive_at S r s) fin.empty
same_archive_by S r s true =
    ap (λ k. unwrap_or (fin.get S.archives k) fin.empty) (pair_turned s r)
same_archive_by S r s false = refl

pub given_archive : (S : State) (P : Parts) → IsProfile P
    → archive_in S (pair_of P) ≡ archive_of S (Some P)
given_archive S P facts =
    let k = pair_of P in
    ap (λ b. cond b (unwrap_or (archive_at S k.0 k.1) fin.empty) fin.empty)
    (is_pair_of_roots P facts)
    ∙ same_archive_by S (root_at P Left) (root_at P Right)
    (is_lt (path_cmp (root_at P Right) (root_at P Left)))

-- A profile has both roots of a pair exactly if the pair is its own.
pub same_pair : (k l : RootPair) → pair_eq k l ≡ true → k ≡ l
same_pair k l e =
    let two = and_parts (path_eq k.0 l.0) (path_eq k.1 l.1) e in
    let a = same_paths k.0 l.0 two.0 in
    let b = same_paths k.1 l.1 two.1 in
    λ i. (a i, b i)

pub pair_itself : (k l : RootPair) → k ≡ l → pair_eq k l ≡ true
pair_itself k l e =
    ap (pair_eq k) (sym e) ∙ and_from _ _ (path_eq-reflexive k.0) (path_eq-reflexive k.1)

both_by : (r s : Path) (b : Bool) (t : Path → Bool) → t r ≡ true → t s ≡ true
    → (t (cond {A = RootPair} b (s, r) (r, s)).0 ≡ true) × (t (cond {A = RootPair} b (s, r) (r, s)).1 ≡ true)
both_by r s true t h g = (g, h)
both_by r s false t h g = (h, g)

pub has_its_pair : (P : Parts) → IsProfile P → (k : RootPair) → pair_of P ≡ k
    → (has_root P k.0 && has_root P k.1) ≡ true
has_its_pair P facts k e =
    let two = both_by (root_at P Left) (root_at P Right)
    (is_lt (path_cmp (root_at P Right) (root_at P Left))) (has_root P) (has_left P facts)
    (has_right P facts) in
    subst (λ (l : RootPair). (has_root P l.0 && has_root P l.1) ≡ true) e
    (and_from _ _ two.0 two.1)

sorted_first : (r s : Path) → is_lt (path_cmp r s) ≡ true → sorted_pair r s ≡ (r, s)
sorted_first r s e = ap (λ b. cond {A = RootPair} b (s, r) (r, s)) (not_greater r s e)

sorted_second : (r s : Path) → is_lt (path_cmp r s) ≡ true → sorted_pair s r ≡ (r, s)
sorted_second r s e = ap (λ b. cond {A = RootPair} b (r, s) (s, r)) e

pub its_pair : (P : Parts) → IsProfile P → (k : RootPair) → is_root_pair k ≡ true
    → (has_root P k.0 && has_root P k.1) ≡ true → pair_of P ≡ k
its_pair P facts k is h =
    let less = (and_parts (is_place k.0 && is_place k.1) (is_lt (path_cmp k.0 k.1)) is).1 in
    let two = and_parts (has_root P k.0) (has_root P k.1) h in
    go less (which_side P facts k.0 two.0) (which_side P facts k.1 two.1)
  where
    go : is_lt (path_cmp k.0 k.1) ≡ true → (root_at P Left ≡ k.0) ⊎ (root_at P Right ≡ k.0)
        → (root_at P Left ≡ k.1) ⊎ (root_at P Right ≡ k.1) → pair_of P ≡ k
    go less (inl a) (inl b) = absurd (different k.0 k.1 less (sym a ∙ b))
    go less (inl a) (inr b) = (λ i. sorted_pair (a i) (b i)) ∙ sorted_first k.0 k.1 less
    go less (inr a) (inl b) = (λ i. sorted_pair (b i) (a i)) ∙ sorted_second k.0 k.1 less
    go less (inr a) (inr b) = absurd (different k.0 k.1 less (sym a ∙ b))

-- Profiles of one pair have the same roots.
all_roots : (t : Path → Bool) (P : Parts) → IsProfile P → t (root_at P Left) ≡ true
    → t (root_at P Right) ≡ true → list_all t P.roots ≡ true
all_roots t P facts h g =
    let two = two_roots P.roots facts.roots in
    let left : root_at P Left ≡ two.first = ap (λ rs. root_or_top (at_side rs Left)) two.are in
    let right : root_at P Right ≡ two.second =
    ap (λ rs. root_or_top (at_side rs Right)) two.are in
    ap (list_all t) two.are
    ∙ and_from (t two.first) _ (ap t (sym left) ∙ h)
    (and_from (t two.second) true (ap t (sym right) ∙ g) refl)

from_pair : (r s : Path) (b : Bool) (t : Path → Bool)
    → (t (cond {A = RootPair} b (s, r) (r, s)).0 && t (cond {A = RootPair} b (s, r) (r, s)).1) ≡ true
    → (t r ≡ true) × (t s ≡ true)
from_pair r s true t h = let two = and_parts (t s) (t r) h in (two.1, two.0)
from_pair r s false t h = and_parts (t r) (t s) h

pub shares_archive : (P Q : Parts) → IsProfile P → IsProfile Q → pair_of P ≡ pair_of Q
    → IsTrue (share_archive P Q)
shares_archive P Q one two e =
    let own = has_its_pair Q two (pair_of P) (sym e) in
    let both = from_pair (root_at P Left) (root_at P Right)
    (is_lt (path_cmp (root_at P Right) (root_at P Left))) (has_root Q) own in
    all_roots (has_root Q) P one both.0 both.1

-- The least of the first paths of lists in order, and the lists without it.
use Rattle.std.proofs.Common.{Ordering, ◌≡◌, ◌⊎◌, inl, inr, ⊎_elim, Bool, true, false, cond, ◌||◌, List, [], ◌∷◌, ◌++◌, Option, Some, None, refl, ap, sym, ◌∙◌, subst}
use Rattle.std.specs.List.{AllByRecursion}
use Rattle.std.specs.List.Sorted.{IsStrictlySortedBy}
use Rattle.std.specs.Ordering.{eq_by_cmp, is_lt, ordering_reverse}
use Rattle.std.specs.declared.cmp.Ordering.TheVariants.{Less, Equal, Greater}
use Rattle.std.proofs.lemmas.Bool.{false≢true, or_left, or_right}
use Rattle.std.proofs.lemmas.List.Folds.{list_any-append}
use Rattle.std.proofs.lemmas.Map.Keys.{sorted_tail}
use Rattle.hub_reconcile.proofs.Rising.{lt_less}
use Rattle.hub_path.specs.laws.General.{path_cmp-total, path_cmp-exact}
use Rattle.hub_path.specs.Path.{Path, path_cmp, path_eq, ascending}
use Rattle.hub_tree.specs.laws.Order.{path_itself, same_path}
use Rattle.hub_tree.specs.laws.Between.{among, behind, not_both}
use Rattle.hub_reconcile.specs.Merge.{first_of, lesser, least_first, without_first}
use Rattle.hub_reconcile.specs.laws.Ascend.{ascending_sorted, among_ascending, same_list}
use Rattle.std.proofs.lemmas.Option.{same_Some}
use Rattle.hub_reconcile.specs.laws.Views.{same_paths, paths_same}

-- The path is no later than this one, if there is one.
abbrev pub IsLow : Path → Option Path → Type 0
IsLow p None = Unit {0}
IsLow p (Some x) = (x ≡ p) ⊎ (path_cmp p x ≡ Less)

low_by : (x y : Path) (r : Ordering) → path_cmp y x ≡ r → is_lt r ≡ false → IsLow x (Some y)
low_by x y Less e h = cc
low_by x y Equal e h = inl (path_cmp-exact y x e)
low_by x y Greater e h = inr (path_cmp-total.antisymm x y ∙ ap ordering_reverse e)

-- What is known of the lesser of two.
pub record IsLesser (a b : Option Path) (p : Path) : Type 0 where
  pub first : IsLow p a
  pub second : IsLow p b
  pub one : (a ≡ Some p) ⊎ (b ≡ Some p)

lesser_by : (x y p : Path) (b : Bool) → is_lt (path_cmp y x) ≡ b → cond b (Some y) (Some x) ≡ Some p → IsLesser (Some x) (Some y) p
lesser_by x y p true e h =
    subst (λ (z : Path). IsLesser (Some x) (Some y) z) (same_Some y p h)
    (record { first = inr (lt_less (path_cmp y x) e); second = inl refl; one = inr refl })
lesser_by x y p false e h =
    subst (λ (z : Path). IsLesser (Some x) (Some y) z) (same_Some x p h)
    (record { first = inl refl; second = low_by x y (path_cmp y x) refl e; one = inl refl })

is_lesser : (a b : Option Path) (p : Path) → lesser a b ≡ Some p → IsLesser a b p
is_lesser None None p e = cc
is_lesser None (Some y) p e = record { first = tt; second = inl (same_Some y p e); one = inr e }
is_lesser (Some x) None p e = record { first = inl (same_Some x p e); second = tt; one = inl e }
is_lesser (Some x) (Some y) p e = lesser_by x y p (is_lt (path_cmp y x)) refl e

no_lesser : (a b : Option Path) → lesser a b ≡ None → (a ≡ None) × (b ≡ None)
no_lesser None b e = (refl, e)
no_lesser (Some x) None e = cc
no_lesser (Some x) (Some y) e =
    elim (is_lt (path_cmp y x)) as (λ b. cond b (Some y) (Some x) ≡ None → (Some x ≡ None) × (Some y ≡ None)) [ true ↦ λ h. cc | false ↦ λ h. cc ] e

still_low : (p x : Path) (o : Option Path) → IsLow p (Some x) → IsLow x o → IsLow p o
still_low p x None h g = tt
still_low p x (Some y) h g =
    ⊎_elim
    (λ same. subst (λ (z : Path). IsLow z (Some y)) same g)
    (λ l. inr (⊎_elim (λ is. ap (path_cmp p) is ∙ l) (λ k. path_cmp-total.trans p x y l k) g)) h

low_under : (p : Path) (o a b : Option Path) → lesser a b ≡ o → IsLow p o → IsLow p a × IsLow p b
low_under p None a b e h = let w = no_lesser a b e in (subst (λ (o : Option Path). IsLow p o) (sym w.0) tt, subst (λ (o : Option Path). IsLow p o) (sym w.1) tt)
low_under p (Some x) a b e h = let w = is_lesser a b x e in (still_low p x a h w.first, still_low p x b h w.second)

-- The least of the first paths of three lists.
pub record IsLeastFirst (ls rs os : List Path) (p : Path) : Type 0 where
  pub left : IsLow p (first_of ls)
  pub right : IsLow p (first_of rs)
  pub old : IsLow p (first_of os)
  pub there : ((among p ls || among p rs) || among p os) ≡ true

first_among : (ps : List Path) (p : Path) → first_of ps ≡ Some p → among p ps ≡ true
first_among [] p e = cc
first_among (x ∷ xs) p e = or_left _ (among p xs) (ap (eq_by_cmp path_cmp p) (same_Some x p e) ∙ path_itself p)

pub least_firsts : (ls rs os : List Path) (p : Path) → least_first ls rs os ≡ Some p → IsLeastFirst ls rs os p
least_firsts ls rs os p e =
    let w = is_lesser (lesser (first_of ls) (first_of rs)) (first_of os) p e in
    let two = low_under p (lesser (first_of ls) (first_of rs)) (first_of ls) (first_of rs) refl w.first in
    record {
      left = two.0;
      right = two.1;
      old = w.second;
      there = ⊎_elim
          (λ h. let v = is_lesser (first_of ls) (first_of rs) p h in
          or_left _ _ (⊎_elim (λ k. or_left _ _ (first_among ls p k)) (λ k. or_right (among p ls) _ (first_among rs p k)) v.one))
          (λ h. or_right (among p ls || among p rs) _ (first_among os p h)) w.one;
    }

no_first : (ps : List Path) → first_of ps ≡ None → ps ≡ []
no_first [] e = refl
no_first (x ∷ xs) e = cc

pub nothing_left : (ls rs os : List Path) → least_first ls rs os ≡ None → (ls ≡ []) × (rs ≡ []) × (os ≡ [])
nothing_left ls rs os e =
    let w = no_lesser (lesser (first_of ls) (first_of rs)) (first_of os) e in
    let v = no_lesser (first_of ls) (first_of rs) w.0 in
    (no_first ls v.0, no_first rs v.1, no_first os w.1)

-- In a list in order, what isn't the least path is behind it.
pub low_in : (ps : List Path) (p q : Path) → IsStrictlySortedBy path_cmp ps → IsLow p (first_of ps) → among q ps ≡ true → (q ≡ p) ⊎ (path_cmp p q ≡ Less)
low_in [] p q s low e = absurd (false≢true e)
low_in (x ∷ xs) p q s low e =
    elim (eq_by_cmp path_cmp q x) as (λ b. eq_by_cmp path_cmp q x ≡ b → (b || among q xs) ≡ true → (q ≡ p) ⊎ (path_cmp p q ≡ Less)) [
      | true ↦ λ h m. let is = same_path q x h in ⊎_elim (λ k. inl (is ∙ k)) (λ k. inr (ap (path_cmp p) is ∙ k)) low
      | false ↦ λ h m.
          let l = behind [] xs x q s m in
          ⊎_elim (λ k. inr (ap (λ z. path_cmp z q) (sym k) ∙ l)) (λ k. inr (path_cmp-total.trans p x q k l)) low
    ] refl e

-- What is in a list in order is its first path, or behind it.
head_or_behind : (x : Path) (xs : List Path) (q : Path) → IsStrictlySortedBy path_cmp (x ∷ xs) → among q (x ∷ xs) ≡ true → (q ≡ x) ⊎ (path_cmp x q ≡ Less)
head_or_behind x xs q s e =
    elim (eq_by_cmp path_cmp q x) as (λ b. eq_by_cmp path_cmp q x ≡ b → (b || among q xs) ≡ true → (q ≡ x) ⊎ (path_cmp x q ≡ Less)) [
      | true ↦ λ h m. inl (same_path q x h)
      | false ↦ λ h m. inr (behind [] xs x q s m)
    ] refl e

never_less : (p : Path) → path_cmp p p ≡ Less → ⊥
never_less p l = not_both p p l l

pub past_in : (ps : List Path) (p q : Path) → IsStrictlySortedBy path_cmp ps → IsLow p (first_of ps) → among q (without_first p ps) ≡ true → (among q ps ≡ true) × (path_cmp p q ≡ Less)
past_in [] p q s low e = absurd (false≢true e)
past_in (x ∷ xs) p q s low e =
    elim (path_eq x p) as (λ b. path_eq x p ≡ b → among q (cond b xs (x ∷ xs)) ≡ true → (among q (x ∷ xs) ≡ true) × (path_cmp p q ≡ Less)) [
      | true ↦ λ h m. (or_right (eq_by_cmp path_cmp q x) _ m, ap (λ z. path_cmp z q) (sym (same_paths x p h)) ∙ behind [] xs x q s m)
      | false ↦ λ h m.
          let l : path_cmp p x ≡ Less = ⊎_elim (λ k. absurd (false≢true (sym h ∙ (ap (λ z. path_eq z p) k ∙ paths_same p)))) (λ k. k) low in
          (m, ⊎_elim (λ k. ap (path_cmp p) k ∙ l) (λ k. path_cmp-total.trans p x q l k) (head_or_behind x xs q s m))
    ] refl e

pub in_past : (ps : List Path) (p q : Path) → path_cmp p q ≡ Less → among q ps ≡ true → among q (without_first p ps) ≡ true
in_past [] p q l e = e
in_past (x ∷ xs) p q l e =
    elim (path_eq x p) as (λ b. path_eq x p ≡ b → among q (cond b xs (x ∷ xs)) ≡ true) [
      | true ↦ λ h.
          elim (eq_by_cmp path_cmp q x) as (λ b. eq_by_cmp path_cmp q x ≡ b → (b || among q xs) ≡ true → among q xs ≡ true) [
            | true ↦ λ k m. absurd (never_less p (ap (path_cmp p) (sym (same_path q x k ∙ same_paths x p h)) ∙ l))
            | false ↦ λ k m. m
          ] refl e
      | false ↦ λ h. e
    ] refl

pub past_sorted : (ps : List Path) (p : Path) → IsStrictlySortedBy path_cmp ps → IsStrictlySortedBy path_cmp (without_first p ps)
past_sorted [] p s = s
past_sorted (x ∷ xs) p s =
    elim (path_eq x p) as (λ b. IsStrictlySortedBy path_cmp (cond b xs (x ∷ xs))) [ true ↦ sorted_tail path_cmp x xs s | false ↦ s ]

-- Three lists.
abbrev pub three : List Path → List Path → List Path → List Path
three ls rs os = ls ++ rs ++ os

pub among_three : (q : Path) (ls rs os : List Path) → among q (three ls rs os) ≡ ((among q ls || among q rs) || among q os)
among_three q ls rs os =
    list_any-append (eq_by_cmp path_cmp q) (ls ++ rs) os ∙ ap (λ b. b || among q os) (list_any-append (eq_by_cmp path_cmp q) ls rs)

by_three : (a b c : Bool) (X : Type 0) → ((a || b) || c) ≡ true → (a ≡ true → X) → (b ≡ true → X) → (c ≡ true → X) → X
by_three true b c X e f g h = f refl
by_three false true c X e f g h = g refl
by_three false false c X e f g h = h e

all_behind : (p : Path) (ys : List Path) → ((q : Path) → among q ys ≡ true → path_cmp p q ≡ Less) → AllByRecursion (λ y. path_cmp p y ≡ Less) ys
all_behind p [] h = tt
all_behind p (y ∷ ys) h = (h y (or_left _ (among y ys) (path_itself y)), all_behind p ys (λ q e. h q (or_right (eq_by_cmp path_cmp q y) _ e)))

more_sorted : (p : Path) (ys : List Path) → ((q : Path) → among q ys ≡ true → path_cmp p q ≡ Less) → IsStrictlySortedBy path_cmp ys → IsStrictlySortedBy path_cmp (p ∷ ys)
unfolding IsStrictlySortedBy
more_sorted p ys h s = (all_behind p ys h, s)

module _ (ls rs os : List Path) (p : Path) (sl : IsStrictlySortedBy path_cmp ls) (sr : IsStrictlySortedBy path_cmp rs) (so : IsStrictlySortedBy path_cmp os) (w : IsLeastFirst ls rs os p) where
  abbrev after : List Path
  after = three (without_first p ls) (without_first p rs) (without_first p os)

  -- What is in the lists without the path was in them, and is behind it.
  pub later_three : (q : Path) → among q after ≡ true → (among q (three ls rs os) ≡ true) × (path_cmp p q ≡ Less)
  later_three q e =
      by_three (among q (without_first p ls)) (among q (without_first p rs)) (among q (without_first p os)) ((among q (three ls rs os) ≡ true) × (path_cmp p q ≡ Less))
      (sym (among_three q (without_first p ls) (without_first p rs) (without_first p os)) ∙ e)
      (λ k. let v = past_in ls p q sl w.left k in (among_three q ls rs os ∙ or_left _ _ (or_left _ _ v.0), v.1))
      (λ k. let v = past_in rs p q sr w.right k in (among_three q ls rs os ∙ or_left _ _ (or_right (among q ls) _ v.0), v.1))
      (λ k. let v = past_in os p q so w.old k in (among_three q ls rs os ∙ or_right (among q ls || among q rs) _ v.0, v.1))

  into : (q : Path) → path_cmp p q ≡ Less → among q (three ls rs os) ≡ true → among q after ≡ true
  into q l e =
      by_three (among q ls) (among q rs) (among q os) (among q after ≡ true) (sym (among_three q ls rs os) ∙ e)
      (λ k. among_three q (without_first p ls) (without_first p rs) (without_first p os) ∙ or_left _ _ (or_left _ _ (in_past ls p q l k)))
      (λ k. among_three q (without_first p ls) (without_first p rs) (without_first p os) ∙ or_left _ _ (or_right (among q (without_first p ls)) _ (in_past rs p q l k)))
      (λ k. among_three q (without_first p ls) (without_first p rs) (without_first p os) ∙ or_right (among q (without_first p ls) || among q (without_first p rs)) _ (in_past os p q l k))

  lowest : (q : Path) → among q (three ls rs os) ≡ true → (q ≡ p) ⊎ (path_cmp p q ≡ Less)
  lowest q e =
      by_three (among q ls) (among q rs) (among q os) ((q ≡ p) ⊎ (path_cmp p q ≡ Less)) (sym (among_three q ls rs os) ∙ e)
      (low_in ls p q sl w.left) (low_in rs p q sr w.right) (low_in os p q so w.old)

  pub is_there : among p (three ls rs os) ≡ true
  is_there = among_three p ls rs os ∙ w.there

  pub least_next : ascending (three ls rs os) ≡ p ∷ ascending after
  least_next =
      same_list (ascending (three ls rs os)) (p ∷ ascending after) (ascending_sorted (three ls rs os))
      (more_sorted p (ascending after) (λ q e. (later_three q (sym (among_ascending q after) ∙ e)).1) (ascending_sorted after))
      (λ q e.
      let m : among q (three ls rs os) ≡ true = sym (among_ascending q (three ls rs os)) ∙ e in
      ⊎_elim
      (λ is. or_left _ (among q (ascending after)) (ap (eq_by_cmp path_cmp q) (sym is) ∙ path_itself q))
      (λ l. or_right (eq_by_cmp path_cmp q p) _ (among_ascending q after ∙ into q l m)) (lowest q m))
      (λ q e.
      among_ascending q (three ls rs os)
      ∙ (elim (eq_by_cmp path_cmp q p) as (λ b. eq_by_cmp path_cmp q p ≡ b → (b || among q (ascending after)) ≡ true → among q (three ls rs os) ≡ true) [
        | true ↦ λ k m. ap (λ z. among z (three ls rs os)) (same_path q p k) ∙ is_there
        | false ↦ λ k m. (later_three q (sym (among_ascending q after) ∙ m)).0
      ] refl e))

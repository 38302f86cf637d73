-- Looks in order: the first one and the others, and the two parts of a cut.
use Rattle.std.proofs.Common.{◌≡◌, ℕ, ◌-◌, ◌<◌, Bool, true, false, ◌&&◌, List, [], ◌∷◌, ◌++◌, take, drop, length, refl, ap, sym, ◌∙◌, arith}
use Rattle.std.specs.Prelude.{IsTrue, slice_index_or}
use Rattle.std.specs.List.Sorted.{IsStrictlySortedBy}
use Rattle.std.specs.FinMap.Entries.{below_all}
use Rattle.std.specs.Ordering.{is_lt}
use Rattle.std.proofs.lemmas.Bool.{and_parts, and_from}
use Rattle.std.proofs.lemmas.List.{take-append-drop}
use Rattle.std.proofs.Math.Seq.{take-length}
use Rattle.hub_path.specs.Path.{Path, path_cmp}
use Rattle.hub_reconcile.specs.Merge.{seen_paths}
use Rattle.hub_reconcile.specs.Picture.{are_rising, is_before_looks, sight_in, told_by}
use Rattle.hub_reconcile.specs.Sight.{Sight}
use Rattle.hub_reconcile.specs.declared.look.Look.{Look}
use Rattle.hub_reconcile.proofs.Found.{told-append, in_front, from_back}
use Rattle.hub_reconcile.proofs.Merging.{rising}
use Rattle.hub_reconcile.proofs.Rising.{lt_less, rising_front}

abbrev pub told : Look → Path × Sight
told l = (l.path.now, record { mark = l.mark; names = l.names.now; others = l.others })

-- Looks rise if the first one stands before the second, and the others rise.
pub rising_step : (xs : List Look) (x : Look) → 0 < length xs → x ≡ slice_index_or xs 0 x → (b : Bool)
    → b ≡ is_before_looks x.path.now (told_by (take (length xs - 1) (drop 1 xs))) → b ≡ true
    → are_rising (told_by (take (length xs - 1) (drop 1 xs))) ≡ are_rising (told_by xs)
rising_step [] x l e b is holds = absurd (omega arith)
rising_step (y ∷ ys) x l e b is holds =
    let many : length (y ∷ ys) - 1 ≡ length ys = omega arith in
    let all : take (length (y ∷ ys) - 1) ys ≡ ys = ap (λ n. take n ys) many ∙ take-length ys in
    let first : is_before_looks y.path.now (told_by ys) ≡ true =
    ap (λ (z : Look). is_before_looks z.path.now (told_by ys)) (sym e) ∙ (ap (λ zs. is_before_looks x.path.now (told_by zs)) (sym all) ∙ (sym is ∙ holds)) in
    ap (λ zs. are_rising (told_by zs)) all
    ∙ sym (rising_front (told y) (told_by ys) ∙ ap (λ b. b && are_rising (told_by ys)) first)

head_of : (xs : List Look) (x : Look) → 0 < length xs → x ≡ slice_index_or xs 0 x → xs ≡ x ∷ drop 1 xs
head_of [] x l e = absurd (omega arith)
head_of (y ∷ ys) x l e = ap (λ z. z ∷ ys) (sym e)

below_front : (p : Path) (xs ys : List (Path × Sight)) → below_all path_cmp p (xs ++ ys) ≡ true → below_all path_cmp p xs ≡ true
below_front p [] ys h = refl
below_front p (x ∷ xs) ys h =
    let two = and_parts (is_lt (path_cmp p x.0)) (below_all path_cmp p (xs ++ ys)) h in
    and_from (is_lt (path_cmp p x.0)) (below_all path_cmp p xs) two.0 (below_front p xs ys two.1)

front_rises : (xs ys : List (Path × Sight)) → are_rising (xs ++ ys) ≡ true → are_rising xs ≡ true
front_rises [] ys h = refl
front_rises (x ∷ xs) ys h =
    let two = and_parts (below_all path_cmp x.0 (xs ++ ys)) (are_rising (xs ++ ys)) h in
    and_from (below_all path_cmp x.0 xs) (are_rising xs) (below_front x.0 xs ys two.0) (front_rises xs ys two.1)

back_rises : (xs ys : List (Path × Sight)) → are_rising (xs ++ ys) ≡ true → are_rising ys ≡ true
back_rises [] ys h = h
back_rises (x ∷ xs) ys h = back_rises xs ys (and_parts (below_all path_cmp x.0 (xs ++ ys)) (are_rising (xs ++ ys)) h).1

-- The two parts of Looks that rise.
module _ (n : ℕ) (looks f b : List Look) (front : f ≡ take n looks) (back : b ≡ drop n looks) (rises : IsTrue (are_rising (told_by looks))) where
  parts : told_by looks ≡ told_by f ++ told_by b
  parts =
      ap told_by (sym (take-append-drop n looks) ∙ (λ i. sym front i ++ sym back i)) ∙ told-append f b

  rises_apart : are_rising (told_by f ++ told_by b) ≡ true
  rises_apart = ap are_rising (sym parts) ∙ rises

  pub front_part_rises : IsTrue (are_rising (told_by f))
  front_part_rises = front_rises (told_by f) (told_by b) rises_apart

  pub back_part_rises : IsTrue (are_rising (told_by b))
  back_part_rises = back_rises (told_by f) (told_by b) rises_apart

  module _ (p : Path) (t : Look) (some : 0 < length b) (first : t ≡ slice_index_or b 0 t) where
    cut : (ys : List Look) → b ≡ t ∷ ys → told_by looks ≡ told_by f ++ told t ∷ told_by ys
    cut ys e = parts ∙ ap (λ zs. told_by f ++ told_by zs) e

    sorted : (ys : List Look) → b ≡ t ∷ ys → IsStrictlySortedBy path_cmp (seen_paths (told_by f ++ told t ∷ told_by ys))
    sorted ys e = rising (told_by f ++ told t ∷ told_by ys) (ap are_rising (sym (cut ys e)) ∙ rises)

    pub sight_in_front : is_lt (path_cmp p t.path.now) ≡ true → sight_in (told_by f) p ≡ sight_in (told_by looks) p
    sight_in_front l =
        let e = head_of b t some first in
        sym (ap (λ ss. sight_in ss p) (cut (drop 1 b) e)
        ∙ in_front p (told_by f) (told t) (told_by (drop 1 b)) (sorted (drop 1 b) e) (lt_less (path_cmp p t.path.now) l))

    pub sight_in_back : is_lt (path_cmp p t.path.now) ≡ false → sight_in (told_by b) p ≡ sight_in (told_by looks) p
    sight_in_back l =
        let e = head_of b t some first in
        ap (λ zs. sight_in (told_by zs) p) e
        ∙ sym (ap (λ ss. sight_in ss p) (cut (drop 1 b) e)
        ∙ from_back p (told_by f) (told t) (told_by (drop 1 b)) (sorted (drop 1 b) e) (path_cmp p t.path.now) refl l)

-- What is taken out of a list and put back leaves it as it was.
use Rattle.std.proofs.Common.{◌≡◌, ◌≢◌, ⊎_elim, ◌∙◌, ◌<◌, ◌≤◌, ◌+◌, ◌-◌, ℕ, suc, List, [], ◌∷◌, ◌++◌, length, take, get_or, Some, refl, sym, ap, arith}
use Rattle.std.specs.Prelude.{slice_get}
use Rattle.std.proofs.lemmas.Option.{slice_get-get_or}
use Rattle.std.proofs.Math.ListN.{set, drop_of_length-le}
use Rattle.std.specs.List.{swap, swap_remove}
use Rattle.std.proofs.lemmas.List.{get_or-set_other, get_or-set_same, length-set, length-take-le, set-get_or, set-set, set_comm, set_split}
use Rattle.std.proofs.lemmas.List.Edits.{swap_is}
use Rattle.hub_profile.specs.Parts.{Parts}
use Rattle.hub_apart.specs.UnisonLines.{put_back}
use Rattle.hub_apart.proofs.Items.{same-or-not}

module _ (xs : List Parts) (i n : ℕ) (x : Parts) (l : i < length xs) (m : n ≡ length xs - 1)
    (e : x ≡ get_or xs i x) where
  -- The last item in the place of the one that is taken out.
  abbrev moved : List Parts
  moved = set xs i (get_or xs n x)

  long : length moved ≡ length xs
  long = length-set xs i (get_or xs n x)

  own : set xs i x ≡ xs
  own = ap (set xs i) e ∙ set-get_or xs i x

  put_last : take n moved ++ x ∷ [] ≡ set moved n x
  put_last =
      let all = long in
      ap (λ k. take n moved ++ x ∷ k) (sym (drop_of_length-le moved {i = suc n} (omega arith)))
      ∙ sym (set_split moved n x (omega arith))

  -- The two places are one, or are different.
  alike : i ≡ n → set (set (set moved n x) i x) n (get_or (set moved n x) i x) ≡ xs
  alike same =
      let all = long in
      let v : get_or (set moved n x) i x ≡ x =
      ap (λ k. get_or (set moved n x) k x) same ∙ get_or-set_same moved n x x (omega arith) in
      ap (set (set (set moved n x) i x) n) v
      ∙ (ap (λ k. set (set (set moved k x) i x) k x) (sym same)
      ∙ (set-set (set moved i x) i x x ∙ (set-set moved i x x ∙ (set-set xs i (get_or xs n x) x ∙ own))))

  apart : i ≢ n → set (set (set moved n x) i x) n (get_or (set moved n x) i x) ≡ xs
  apart off =
      let v : get_or (set moved n x) i x ≡ get_or xs n x =
      get_or-set_other moved n i x x off ∙ get_or-set_same xs i (get_or xs n x) x l in
      let turned : set (set moved n x) i x ≡ set (set moved i x) n x =
      set_comm moved n i x x (λ same. off (sym same)) in
      let back_at : set moved i x ≡ xs = set-set xs i (get_or xs n x) x ∙ own in
      ap (set (set (set moved n x) i x) n) v
      ∙ (ap (λ ys. set ys n (get_or xs n x)) turned
      ∙ (set-set (set moved i x) n x (get_or xs n x)
      ∙ (ap (λ ys. set ys n (get_or xs n x)) back_at ∙ set-get_or xs n x)))

  both : set (set (set moved n x) i (get_or (set moved n x) n x)) n (get_or (set moved n x) i x) ≡ xs
  both =
      let all = long in
      ap (λ y. set (set (set moved n x) i y) n (get_or (set moved n x) i x)) (get_or-set_same moved n x x (omega arith))
      ∙ ⊎_elim (λ same. alike same) (λ off. apart off) (same-or-not i n)

  pub put : put_back (take n moved) i x ≡ xs
  put =
      let all = long in
      let longer = length-set moved n x in
      ap (λ k. swap (take n moved ++ x ∷ []) i k) (length-take-le n moved (omega arith))
      ∙ (ap (λ (ys : List Parts). swap ys i n) put_last
      ∙ (sym (swap_is (set moved n x) i n x (omega arith) (omega arith)) ∙ both))

pub taken-put : (xs : List Parts) (i : ℕ) (x : Parts) → i < length xs → x ≡ get_or xs i x
    → put_back (swap_remove xs i x) i x ≡ xs
taken-put xs i x l e = put xs i (length xs - 1) x l refl e

-- Two are taken out, the later one first, and put back.
module _ (all fewer least : List Parts) (i j : ℕ) (x y : Parts) (earlier : i < j) (l : j < length all)
    (later : y ≡ get_or all j y) (without_later : fewer ≡ swap_remove all j y)
    (kept : get_or fewer i x ≡ get_or all i x) (long : length fewer + 1 ≡ length all)
    (first : x ≡ get_or fewer i x) (without_both : least ≡ swap_remove fewer i x) where
  pub later-at : slice_get all j ≡ Some y
  later-at = slice_get-get_or all j y l ∙ ap Some (sym later)

  pub first-at : slice_get all i ≡ Some x
  first-at = slice_get-get_or all i x (omega (arith, earlier, l)) ∙ ap Some (sym (first ∙ kept))

  module _ (one : List Parts) (P : Parts) (same : P ≡ x) (put_one : one ≡ put_back least i P) where
    pub one-back : one ≡ fewer
    one-back =
        put_one ∙ (ap (put_back least i) same ∙ (ap (λ ys. put_back ys i x) without_both
        ∙ taken-put fewer i x (omega (arith, earlier, l, long)) first))

    pub room : j ≤ length one
    room = let as_long = ap length one-back in omega (arith, as_long, l, long)

    pub both-back : (two : List Parts) (Q : Parts) → Q ≡ y → two ≡ put_back one j Q → two ≡ all
    both-back two Q alike put_two =
        put_two ∙ (ap (put_back one j) alike ∙ (ap (λ ys. put_back ys j y) (one-back ∙ without_later)
        ∙ taken-put all j y l later))

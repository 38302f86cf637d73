-- The waves of jobs, one job after another.
use Rattle.std.proofs.Common.{◌≡◌, ⊎_elim, ◌+◌, List, [], ◌∷◌, ◌++◌, length, get_or, Some, max, ap, sym, ◌∙◌, subst, arith}
use Rattle.std.specs.Prelude.{◌<◌, ◌≤◌, ℕ, slice_get, unwrap_or}
use Rattle.std.proofs.lemmas.Option.{get_or_from_slice_get, slice_get_within}
use Rattle.hub_text.specs.laws.List.{also-here, has-item, less-or-same, snoc-new, snoc-old}
use Rattle.hub_profile.specs.Parts.{Parts}
use Rattle.hub_runner.specs.declared.pairs.JobPair.{JobPair}
use Rattle.hub_starter.specs.Waves.{AreLow, HaveEachClash, IsNextWave, KeepApart, MayFollow, RiseBy, gap, wave_of}

pub length_more : (numbers : List ℕ) (x : ℕ) → length (numbers ++ x ∷ []) ≡ length numbers + 1
length_more [] x = omega arith
length_more (n ∷ numbers) x = let rest = length_more numbers x in omega (arith, rest)

wave_old : (numbers : List ℕ) (x j : ℕ) → j < length numbers
    → wave_of (numbers ++ x ∷ []) j ≡ wave_of numbers j
wave_old numbers x j l =
    let w = has-item numbers j l in
    ap (λ o. unwrap_or o 0) (snoc-old numbers x w.0 j w.1 ∙ sym w.1)

wave_new : (numbers : List ℕ) (x : ℕ) → wave_of (numbers ++ x ∷ []) (length numbers) ≡ x
wave_new numbers x = ap (λ o. unwrap_or o 0) (snoc-new numbers x)

pub none_rise : (Ps : List Parts) (pairs : List JobPair) → RiseBy Ps pairs []
none_rise Ps pairs k p at l m = absurd (omega (arith, m))

pub none_low : AreLow []
none_low j l = absurd (omega (arith, l))

pub rise_more : (Ps : List Parts) (pairs : List JobPair) (numbers : List ℕ) (x : ℕ)
    → RiseBy Ps pairs numbers → IsNextWave Ps pairs numbers x → RiseBy Ps pairs (numbers ++ x ∷ [])
rise_more Ps pairs numbers x rise next k p at l m =
    let long = length_more numbers x in
    ⊎_elim
    (λ less.
    let one = wave_old numbers x p.earlier (omega (arith, l, less)) in
    let two = wave_old numbers x p.later less in
    let up = rise k p at l less in omega (arith, one, two, up))
    (λ same.
    let within : p.earlier < length numbers = omega (arith, l, same) in
    let one = wave_old numbers x p.earlier within in
    let two = ap (wave_of (numbers ++ x ∷ [])) same ∙ wave_new numbers x in
    let up = next.above k p at same within in
    omega (arith, one, two, up))
    (less-or-same p.later (length numbers) (omega (arith, m, long)))

pub low_more : (Ps : List Parts) (pairs : List JobPair) (numbers : List ℕ) (x : ℕ) → AreLow numbers
    → IsNextWave Ps pairs numbers x → AreLow (numbers ++ x ∷ [])
low_more Ps pairs numbers x low next j m =
    let long = length_more numbers x in
    ⊎_elim
    (λ less.
    let one = wave_old numbers x j less in
    let small = low j less in omega (arith, one, small))
    (λ same.
    let two = ap (wave_of (numbers ++ x ∷ [])) same ∙ wave_new numbers x in
    let small = next.low in omega (arith, two, small, same))
    (less-or-same j (length numbers) (omega (arith, m, long)))

-- A wave that the next job may be in by the first n pairs.
pub record FollowsSome (Ps : List Parts) (pairs : List JobPair) (numbers : List ℕ) (n next : ℕ) :
    Type 0 where
  pub above : (k : ℕ) (p : JobPair) → k < n → slice_get pairs k ≡ Some p
      → p.later ≡ length numbers → p.earlier < length numbers
      → wave_of numbers p.earlier + gap Ps p.earlier p.later ≤ next
  pub low : next ≤ length numbers

pub follows_none : (Ps : List Parts) (pairs : List JobPair) (numbers : List ℕ)
    → FollowsSome Ps pairs numbers 0 0
follows_none Ps pairs numbers = record {
  above = λ k p l at e m. absurd (omega (arith, l));
  low = omega arith;
}

pub follows_more : (Ps : List Parts) (pairs : List JobPair) (numbers : List ℕ) (n next x : ℕ)
    (d : JobPair) → n < length pairs → FollowsSome Ps pairs numbers n next
    → MayFollow Ps numbers (get_or pairs n d) x → FollowsSome Ps pairs numbers (n + 1) (max next x)
follows_more Ps pairs numbers n next x d l are may =
    let w = has-item pairs n l in
    let own = subst (λ (q : JobPair). MayFollow Ps numbers q x)
    (get_or_from_slice_get pairs n w.0 d w.1) may in
    record {
      above = also-here (λ (q : JobPair). q.later ≡ length numbers → q.earlier < length numbers
          → wave_of numbers q.earlier + gap Ps q.earlier q.later ≤ max next x) pairs n w.0 w.1
          (λ e m. let up = own.above e m in omega (arith, up))
          (λ k q m at e f. let up = are.above k q m at e f in omega (arith, up));
      low = let a = are.low in let b = own.low in omega (arith, a, b);
    }

pub follows_all : (Ps : List Parts) (pairs : List JobPair) (numbers : List ℕ) (n next : ℕ)
    → length pairs ≤ n → FollowsSome Ps pairs numbers n next → IsNextWave Ps pairs numbers next
follows_all Ps pairs numbers n next past are = record {
  above = λ k p at. let l = slice_get_within pairs k p at in are.above k p (omega (arith, l, past)) at;
  low = are.low;
}

-- The count is above the waves of the first jobs.
pub record CountsSome (numbers : List ℕ) (n count : ℕ) : Type 0 where
  pub below : (j : ℕ) → j < n → wave_of numbers j < count
  pub some : 0 < count

pub count_taken : (numbers : List ℕ) (n count x : ℕ) → CountsSome numbers n count
    → slice_get numbers n ≡ Some x → count ≤ x → CountsSome numbers (n + 1) (x + 1)
count_taken numbers n count x are at more = record {
  below = λ j m. ⊎_elim
      (λ less. let up = are.below j less in omega (arith, up, more))
      (λ same. let own = ap (wave_of numbers) same ∙ ap (λ o. unwrap_or o 0) at in omega (arith, own))
      (less-or-same j n m);
  some = omega arith;
}

pub count_passed : (numbers : List ℕ) (n count x : ℕ) → CountsSome numbers n count
    → slice_get numbers n ≡ Some x → x < count → CountsSome numbers (n + 1) count
count_passed numbers n count x are at less_now = record {
  below = λ j m. ⊎_elim
      (λ less. are.below j less)
      (λ same. let own = ap (wave_of numbers) same ∙ ap (λ o. unwrap_or o 0) at in
      omega (arith, own, less_now))
      (less-or-same j n m);
  some = are.some;
}

-- Jobs that clash stand in a pair, and so are kept apart.
pub apart_by_pairs : (Ps : List Parts) (pairs : List JobPair) (numbers : List ℕ)
    → RiseBy Ps pairs numbers → HaveEachClash Ps pairs → KeepApart Ps numbers
apart_by_pairs Ps pairs numbers rise each i j l m clash =
    let w = each i j l clash in rise w.0 (record { earlier = i; later = j }) w.1 l m

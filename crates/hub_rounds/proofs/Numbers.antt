-- The numbers of rounds.
use Rattle.std.proofs.Common.{◌≡◌, ◌∙◌, ◌||◌, ◌&&◌, ◌==◌, ◌⊎◌, ◌∷◌, [], ⊎_elim, ℕ, zero, suc, ◌+◌, ◌<◌, Bool, true, false, inl, inr, List, length, Some, refl, sym, ap, subst, arith}
use Rattle.std.specs.Prelude.{Contains, ◌≢◌, if◌then◌else◌, nat_lt, slice_get}
use Rattle.std.proofs.lemmas.Bool.{true≢false}
use Rattle.std.proofs.lemmas.Bool.Decides.{nat_tests}
use Rattle.hub_text.specs.laws.List.{at-place, cons-here, cons-there, has-item, less-or-same}
use Rattle.std.proofs.lemmas.Option.{none-some, same_Some, slice_get_within}
use Rattle.std.proofs.lemmas.List.FromFn.{length-map-range_with_len}
use Rattle.hub_cert.specs.declared.fault.CheckFault.{CheckFault}
use Rattle.hub_rounds.specs.Lines.{HasNoOwnLine, HasPair, names_pair, subject_of}
use Rattle.hub_rounds.specs.Numbered.{AreAllRivals, AreNumbersPlaced, AreNumbersSplit, AreRivalNumbers, AreRoundsOfLines, AreStanding, IsInOneRound, IsLeftOut, IsNumberOf, IsRoundOfLines, NumberStandsIn, left_from, left_out, numbered, numbers_from, numbers_in_round}
use Rattle.hub_rounds.specs.Rounds.{IsPlaced, is_in_round}
use Rattle.hub_rounds.specs.laws.Rounds.{round-at}
use Rattle.hub_rounds.specs.declared.numbered.LeftOut.{LeftOut}
use Rattle.hub_rounds.specs.declared.numbered.NumberedRounds.{NumberedRounds}
use Rattle.hub_rounds.specs.declared.placing.Obstacle.{Obstacle}
use Rattle.hub_rounds.specs.declared.placing.Placing.{Placing}
use Rattle.hub_rounds.specs.declared.placing.Placing.TheVariants.{Round, Unplaced}
use Rattle.hub_rounds.specs.declared.standing.Standing.{Standing}
use Rattle.hub_rounds.specs.declared.subject.Subject.{Subject}
use Rattle.hub_rounds.specs.declared.subject.Subject.TheVariants.{Alone, Nothing, Pair}
use Rattle.hub_rounds.proofs.Reasons.{itself}

-- A number of a round is that of a place, where it stands in the round.
abbrev IsFrom : ℕ → ℕ → List Placing → ℕ → Type 0
IsFrom n k qs i = (m : ℕ) × (i ≡ n + m) × NumberStandsIn qs k m

from-next : (n k i : ℕ) (q : Placing) (qs : List Placing) → IsFrom (n + 1) k qs i → IsFrom n k (q ∷ qs) i
from-next n k i q qs h = let is = h.1 in (suc h.0, omega (arith, is), h.2)

pub number-from : (n k : ℕ) (qs : List Placing) (a i : ℕ) → slice_get (numbers_from n k qs) a ≡ Some i → IsFrom n k qs i
number-from n k [] a i at = absurd (none-some i at)
number-from n k (q ∷ qs) a i at = go (is_in_round k q) refl a at (λ m h. from-next n k i q qs (number-from (n + 1) k qs m i h))
  where
    go : (b : Bool) → is_in_round k q ≡ b → (a : ℕ) → slice_get (if b then n ∷ numbers_from (n + 1) k qs else numbers_from (n + 1) k qs) a ≡ Some i
        → ((m : ℕ) → slice_get (numbers_from (n + 1) k qs) m ≡ Some i → IsFrom n k (q ∷ qs) i) → IsFrom n k (q ∷ qs) i
    go true e zero h rest = let same = same_Some n i h in (0, omega (arith, same), (q, refl, e))
    go true e (suc m) h rest = rest m h
    go false e m h rest = rest m h

-- Each is there once.
pub numbers-once : (n k : ℕ) (qs : List Placing) (a b i : ℕ) → slice_get (numbers_from n k qs) a ≡ Some i → slice_get (numbers_from n k qs) b ≡ Some i → a ≡ b
numbers-once n k [] a b i at_a at_b = absurd (none-some i at_a)
numbers-once n k (q ∷ qs) a b i at_a at_b = go (is_in_round k q) a b at_a at_b (λ l m g h. numbers-once (n + 1) k qs l m i g h)
  where
    later : (m : ℕ) → n ≡ i → slice_get (numbers_from (n + 1) k qs) m ≡ Some i → ⊥
    later m same h = let w = number-from (n + 1) k qs m i h in let is = w.1 in omega (arith, same, is)

    go : (t : Bool) (a b : ℕ) → slice_get (if t then n ∷ numbers_from (n + 1) k qs else numbers_from (n + 1) k qs) a ≡ Some i → slice_get (if t then n ∷ numbers_from (n + 1) k qs else numbers_from (n + 1) k qs) b ≡ Some i
        → ((l m : ℕ) → slice_get (numbers_from (n + 1) k qs) l ≡ Some i → slice_get (numbers_from (n + 1) k qs) m ≡ Some i → l ≡ m) → a ≡ b
    go true zero zero g h rest = refl
    go true zero (suc m) g h rest = absurd (later m (same_Some n i g) h)
    go true (suc m) zero g h rest = absurd (later m (same_Some n i h) g)
    go true (suc l) (suc m) g h rest = ap suc (rest l m g h)
    go false l m g h rest = rest l m g h

-- A number that stands in a round is one of its numbers.
pub some-number : (n k : ℕ) (qs : List Placing) (i : ℕ) → NumberStandsIn qs k i → numbers_from n k qs ≡ [] → ⊥
some-number n k [] i h e = none-some h.0 h.1
some-number n k (q ∷ qs) zero h e = go (is_in_round k q) (ap (is_in_round k) (same_Some q h.0 h.1) ∙ h.2) e
  where
    go : (b : Bool) → b ≡ true → (if b then n ∷ numbers_from (n + 1) k qs else numbers_from (n + 1) k qs) ≡ [] → ⊥
    go true t f = cc
    go false t f = cc
some-number n k (q ∷ qs) (suc i) h e = go (is_in_round k q) e (λ f. some-number (n + 1) k qs i h f)
  where
    go : (b : Bool) → (if b then n ∷ numbers_from (n + 1) k qs else numbers_from (n + 1) k qs) ≡ [] → (numbers_from (n + 1) k qs ≡ [] → ⊥) → ⊥
    go true f rest = cc
    go false f rest = rest f

-- A line about two profiles is about them either way round.
or-turned : (b c : Bool) → (b || c) ≡ true → (c || b) ≡ true
or-turned true true e = refl
or-turned true false e = refl
or-turned false true e = refl
or-turned false false e = e

names-turned : (s : Subject) (i j : ℕ) → names_pair s i j ≡ true → names_pair s j i ≡ true
names-turned (Pair w o) i j e = or-turned (w == i && o == j) (w == j && o == i) e
names-turned (Alone p why) i j e = e
names-turned Nothing i j e = e

pub pair-turned : (es : List CheckFault) (i j : ℕ) → HasPair es i j → HasPair es j i
pair-turned es i j h = (h.0, h.1, names-turned (subject_of h.0) i j h.2)

less-or-more : (i j : ℕ) → i ≢ j → (i < j) ⊎ (j < i)
less-or-more i j other = go (nat_lt i j) refl
  where
    go : (b : Bool) → nat_lt i j ≡ b → (i < j) ⊎ (j < i)
    go true e = inl (grind (arith, nat_tests, e))
    go false e = ⊎_elim (λ less. inr less) (λ same. absurd (other (sym same))) (less-or-same j i (grind (arith, nat_tests, e)))

-- No line is about two numbers of a round.
apart : (es : List CheckFault) (qs : List Placing) (k i j : ℕ) → AreNumbersSplit es qs → i ≢ j → NumberStandsIn qs k i → NumberStandsIn qs k j → HasPair es i j → ⊥
apart es qs k i j split other in_i in_j pair = ⊎_elim
    (λ (l : i < j). split i j k l in_i in_j pair)
    (λ (l : j < i). split j i k l in_j in_i (pair-turned es i j pair))
    (less-or-more i j other)

alone : (es : List CheckFault) (count i k : ℕ) (q : Placing) → IsPlaced es count i q → is_in_round k q ≡ true → HasNoOwnLine es i
alone es count i k (Round own) h is = h.1
alone es count i k (Unplaced why) h is = absurd (true≢false (sym is))

-- A round of these numbers.
pub round-of-lines : (count rounds : ℕ) (es : List CheckFault) (qs : List Placing) (k i : ℕ) → length qs ≡ count → AreNumbersPlaced es rounds qs → AreNumbersSplit es qs → NumberStandsIn qs k i → IsRoundOfLines count es (numbers_in_round k qs)
round-of-lines count rounds es qs k i all told split used =
    let of = λ (j : ℕ) (w : IsFrom 0 k qs j). let is = w.1 in let same : w.0 ≡ j = omega (arith, is) in subst (λ (n : ℕ). NumberStandsIn qs k n) same w.2 in
    record {
      some = λ e. some-number 0 k qs i used e;
      below = λ a j at.
          let h = of j (number-from 0 k qs a j at) in
          let own = slice_get_within qs j h.0 h.1 in omega (arith, own, all);
      once = λ a b j at_a at_b. numbers-once 0 k qs a b j at_a at_b;
      apart = λ a b j l other at_j at_l pair.
          apart es qs k j l split
          (λ same. other (numbers-once 0 k qs a b l (subst (λ (x : ℕ). slice_get (numbers_from 0 k qs) a ≡ Some x) same at_j) at_l))
          (of j (number-from 0 k qs a j at_j)) (of l (number-from 0 k qs b l at_l)) pair;
      alone = λ a j at.
          let h = of j (number-from 0 k qs a j at) in
          alone es rounds j k h.0 (told j h.0 h.1) h.2;
    }

-- A number that stands in a round is one of its numbers, and one that is left out is one of those.
numbers-have : (n k : ℕ) (qs : List Placing) (m : ℕ) → NumberStandsIn qs k m → Contains (numbers_from n k qs) (n + m)
numbers-have n k [] m h = absurd (none-some h.0 h.1)
numbers-have n k (q ∷ qs) zero h = go (is_in_round k q) (ap (is_in_round k) (same_Some q h.0 h.1) ∙ h.2)
  where
    go : (b : Bool) → b ≡ true → Contains (if b then n ∷ numbers_from (n + 1) k qs else numbers_from (n + 1) k qs) (n + 0)
    go true t = cons-here n (n + 0) (numbers_from (n + 1) k qs) (omega arith)
    go false t = absurd (true≢false (sym t))
numbers-have n k (q ∷ qs) (suc m) h =
    let same : n + 1 + m ≡ n + suc m = omega arith in
    go (is_in_round k q) (subst (λ (x : ℕ). Contains (numbers_from (n + 1) k qs) x) same (numbers-have (n + 1) k qs m h))
  where
    go : (b : Bool) → Contains (numbers_from (n + 1) k qs) (n + suc m) → Contains (if b then n ∷ numbers_from (n + 1) k qs else numbers_from (n + 1) k qs) (n + suc m)
    go true has = cons-there n (n + suc m) (numbers_from (n + 1) k qs) has
    go false has = has

abbrev left-at : ℕ → Obstacle → LeftOut
left-at n why = record { number = n; reason = why }

left-later : (n m : ℕ) (why : Obstacle) (ls : List LeftOut) → Contains ls (left-at (n + 1 + m) why) → Contains ls (left-at (n + suc m) why)
left-later n m why ls has = let same : n + 1 + m ≡ n + suc m = omega arith in subst (λ (x : ℕ). Contains ls (left-at x why)) same has

left-has : (n : ℕ) (qs : List Placing) (m : ℕ) (why : Obstacle) → slice_get qs m ≡ Some (Unplaced why) → Contains (left_from n qs) (left-at (n + m) why)
left-has n [] m why at = absurd (none-some (Unplaced why) at)
left-has n (q ∷ qs) zero why at =
    let here : left-at n why ≡ left-at (n + 0) why = ap (λ (x : ℕ). left-at x why) (omega arith) in
    subst (λ (p : Placing). Contains (left_from n (p ∷ qs)) (left-at (n + 0) why)) (sym (same_Some q (Unplaced why) at))
    (cons-here (left-at n why) (left-at (n + 0) why) (left_from (n + 1) qs) here)
left-has n (Round k ∷ qs) (suc m) why at = left-later n m why (left_from (n + 1) qs) (left-has (n + 1) qs m why at)
left-has n (Unplaced w ∷ qs) (suc m) why at =
    cons-there (left-at n w) (left-at (n + suc m) why) (left_from (n + 1) qs) (left-later n m why (left_from (n + 1) qs) (left-has (n + 1) qs m why at))

-- Each number stands in one round, or is left out.
same-round : (qs : List Placing) (i own l : ℕ) → slice_get qs i ≡ Some (Round own) → NumberStandsIn qs l i → l ≡ own
same-round qs i own l at h =
    let same : Round own ≡ h.0 = same_Some (Round own) h.0 (sym at ∙ h.1) in
    let in_l : (own == l) ≡ true = ap (is_in_round l) same ∙ h.2 in
    grind (arith, nat_tests, in_l)

stands-there : (qs : List Placing) (k i : ℕ) → Contains (numbers_in_round k qs) i → NumberStandsIn qs k i
stands-there qs k i has =
    let p = at-place (numbers_in_round k qs) i has in
    let v = number-from 0 k qs p.0 i p.2 in
    let e = v.1 in
    let same : v.0 ≡ i = omega (arith, e) in
    subst (λ (n : ℕ). NumberStandsIn qs k n) same v.2

only-round : (rounds : ℕ) (rs : List (List ℕ)) (qs : List Placing) (i own l : ℕ) → rs ≡ numbered rounds qs → slice_get qs i ≡ Some (Round own) → IsNumberOf rs l i → l ≡ own
only-round rounds rs qs i own l is at h =
    let w = round-at rounds rs (λ n. numbers_in_round n qs) l h.0 is h.1 in
    same-round qs i own l at (stands-there qs l i (subst (λ (ns : List ℕ). Contains ns i) w.1 h.2))

stands-at : (rounds : ℕ) (es : List CheckFault) (rs : List (List ℕ)) (ls : List LeftOut) (qs : List Placing) (i : ℕ) (q : Placing) → IsPlaced es rounds i q → slice_get qs i ≡ Some q → rs ≡ numbered rounds qs → ls ≡ left_out qs
    → IsInOneRound rs i ⊎ IsLeftOut es ls i
stands-at rounds es rs ls qs i (Round own) h at is left =
    let many = ap length is ∙ length-map-range_with_len (λ k. numbers_in_round k qs) 0 rounds in
    let l = h.0 in
    let w = has-item rs own (omega (arith, l, many)) in
    let v = round-at rounds rs (λ n. numbers_in_round n qs) own w.0 is w.1 in
    let has = numbers-have 0 own qs i (Round own, at, itself own) in
    let zero-more : 0 + i ≡ i = omega arith in
    inl (own, (w.0, w.1, subst (λ (ns : List ℕ). Contains ns i) (sym v.1) (subst (λ (x : ℕ). Contains (numbers_in_round own qs) x) zero-more has)), λ l there. only-round rounds rs qs i own l is at there)
stands-at rounds es rs ls qs i (Unplaced why) h at is left =
    let zero-more : 0 + i ≡ i = omega arith in
    inr (why, subst (λ (xs : List LeftOut). Contains xs (left-at i why)) (sym left) (subst (λ (x : ℕ). Contains (left_out qs) (left-at x why)) zero-more (left-has 0 qs i why at)), h.0, h.1)

stands-once : (rounds : ℕ) (es : List CheckFault) (rs : List (List ℕ)) (ls : List LeftOut) (qs : List Placing) (i : ℕ) → AreNumbersPlaced es rounds qs → rs ≡ numbered rounds qs → ls ≡ left_out qs → i < length qs
    → IsInOneRound rs i ⊎ IsLeftOut es ls i
stands-once rounds es rs ls qs i told is left l =
    let w = has-item qs i l in
    stands-at rounds es rs ls qs i w.0 (told i w.0 w.1) w.1 is left

-- What is known of the numbers and of the rounds makes the answer.
pub are-rounds-of-lines : (count : ℕ) (es : List CheckFault) (r : NumberedRounds) (s : Standing) → AreStanding count es s → r.rounds ≡ numbered s.rounds s.placings → r.left ≡ left_out s.placings → r.rivals ≡ s.rivals → AreRoundsOfLines count es r
are-rounds-of-lines count es r s are rounds left rivals =
    let qs = s.placings in
    let has = are.all in
    let many : length r.rounds ≡ s.rounds = ap length rounds ∙ length-map-range_with_len (λ k. numbers_in_round k qs) 0 s.rounds in
    record {
      placings = qs;
      all = are.all;
      told = subst (λ (n : ℕ). AreNumbersPlaced es n qs) (sym many) are.told;
      rounds = rounds ∙ ap (λ n. numbered n qs) (sym many);
      left = left;
      stands = λ i l. stands-once s.rounds es r.rounds r.left qs i are.told rounds left (omega (arith, l, has));
      each = λ k ns at.
          let w = round-at s.rounds r.rounds (λ n. numbers_in_round n qs) k ns rounds at in
          let u = are.used k w.0 in
          subst (λ (ms : List ℕ). IsRoundOfLines count es ms) (sym w.1) (round-of-lines count s.rounds es qs k u.0 are.all are.told are.split u.1);
      rivals = subst (λ (ms : List ℕ). AreRivalNumbers es qs ms) (sym rivals) are.rivals;
      whole = subst (λ (ms : List ℕ). AreAllRivals es qs ms) (sym rivals) are.whole;
    }

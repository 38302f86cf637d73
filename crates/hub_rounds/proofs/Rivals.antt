-- Lists to which items are added.
use Rattle.std.proofs.Common.{◌≡◌, ◌∙◌, ◌⊎◌, ⊎_elim, inl, inr, ◌<◌, ◌≤◌, ◌||◌, ℕ, ◌+◌, Bool, true, false, List, [], ◌∷◌, ◌++◌, length, refl, subst, sym, ap, arith}
use Rattle.std.specs.Prelude.{Contains}
use Rattle.std.specs.List.{list_any}
use Rattle.std.proofs.lemmas.Bool.{true≢false}
use Rattle.std.proofs.lemmas.Bool.Decides.{nat_tests}
use Rattle.std.proofs.lemmas.Option.{none-some, slice_get_within}
use Rattle.hub_text.specs.laws.List.{at-place, cons-cases, cons-here, cons-there, in-place, less-or-same, snoc-cases, snoc-new, snoc-old}
use Rattle.hub_cert.specs.declared.fault.CheckFault.{CheckFault}
use Rattle.hub_rounds.specs.Lines.{HasPair}
use Rattle.hub_rounds.specs.Numbered.{AreAllRivals, AreNumbersPlaced, AreNumbersSplit, AreRivalNumbers, AreRoundsUsed, IsFreeFor, NumberIsInRound, NumberMayJoin, StandsFree}
use Rattle.hub_rounds.specs.Rounds.{IsPlaced, OpensRounds, is_in_round}
use Rattle.hub_rounds.specs.declared.placing.Placing.{Placing}
use Rattle.hub_rounds.specs.declared.placing.Placing.TheVariants.{Unplaced, Round}

-- No rivals, and one more.
pub no-rivals : (es : List CheckFault) (ps : List Placing) → AreRivalNumbers es ps []
no-rivals es ps = record { placed = λ m i at. absurd (none-some i at); clash = λ m n i j l at_i at_j. absurd (none-some i at_i) }

pub one-rival-more : (es : List CheckFault) (ps : List Placing) (ns : List ℕ) (k : ℕ) → AreRivalNumbers es ps ns → NumberMayJoin es ps ns k → AreRivalNumbers es ps (ns ++ k ∷ [])
one-rival-more es ps ns k are may = record {
  placed = λ m i at. ⊎_elim (λ old. are.placed m i old) (λ new. subst (λ (x : ℕ). NumberIsInRound ps x) new.1 may.placed) (snoc-cases ns k i m at);
  clash = λ m n i j l at_i at_j. ⊎_elim
      (λ old_i. ⊎_elim (λ old_j. are.clash m n i j l old_i old_j) (λ new_j. subst (λ (x : ℕ). HasPair es i x) new_j.1 (may.clashes m i old_i)) (snoc-cases ns k j n at_j))
      (λ new_i. ⊎_elim
      (λ old_j. let below = slice_get_within ns n j old_j in let last = new_i.0 in absurd (omega (arith, l, below, last)))
      (λ new_j. let last_i = new_i.0 in let last_j = new_j.0 in absurd (omega (arith, l, last_i, last_j)))
      (snoc-cases ns k j n at_j))
      (snoc-cases ns k i m at_i);
}

-- A profile is one of these, or it may not join them.
abbrev pub HasJoined : List CheckFault → List Placing → List ℕ → ℕ → Type 0
HasJoined es ps ns i = Contains ns i ⊎ (NumberMayJoin es ps ns i → ⊥)

-- That holds of the profile that was added. It still holds of each of which it held before.
added-joins : (es : List CheckFault) (ps : List Placing) (ns : List ℕ) (k : ℕ) → HasJoined es ps (ns ++ k ∷ []) k
added-joins es ps ns k = inl (in-place (ns ++ k ∷ []) (length ns) k (snoc-new ns k))

joined-still : (es : List CheckFault) (ps : List Placing) (ns : List ℕ) (k i : ℕ) → HasJoined es ps ns i → HasJoined es ps (ns ++ k ∷ []) i
joined-still es ps ns k i h = ⊎_elim
    (λ has. let w = at-place ns i has in inl (in-place (ns ++ k ∷ []) w.0 i (snoc-old ns k i w.0 w.2)))
    (λ no. inr (λ may. no (record { placed = may.placed; clashes = λ m j at. may.clashes m j (snoc-old ns k j m at) })))
    h

-- Rivals, where each profile below a number has been asked. The next one joins them, or it may not.
pub record AreAsked (es : List CheckFault) (ps : List Placing) (ns : List ℕ) (n : ℕ) : Type 0 where
  pub rivals : AreRivalNumbers es ps ns
  pub joined : (i : ℕ) → i < n → HasJoined es ps ns i

pub none-asked : (es : List CheckFault) (ps : List Placing) (ns : List ℕ) → AreRivalNumbers es ps ns → AreAsked es ps ns 0
none-asked es ps ns are = record { rivals = are; joined = λ i l. absurd (omega (arith, l)) }

pub next-joins : (es : List CheckFault) (ps : List Placing) (ns : List ℕ) (n : ℕ) → AreAsked es ps ns n → NumberMayJoin es ps ns n → AreAsked es ps (ns ++ n ∷ []) (n + 1)
next-joins es ps ns n are may = record {
  rivals = one-rival-more es ps ns n are.rivals may;
  joined = λ i l. ⊎_elim
      (λ less. joined-still es ps ns n i (are.joined i less))
      (λ same. subst (λ (k : ℕ). HasJoined es ps (ns ++ n ∷ []) k) (sym same) (added-joins es ps ns n))
      (less-or-same i n l);
}

pub next-may-not : (es : List CheckFault) (ps : List Placing) (ns : List ℕ) (n : ℕ) → AreAsked es ps ns n → (NumberMayJoin es ps ns n → ⊥) → AreAsked es ps ns (n + 1)
next-may-not es ps ns n are never = record {
  rivals = are.rivals;
  joined = λ i l. ⊎_elim (λ less. are.joined i less) (λ same. subst (λ (k : ℕ). HasJoined es ps ns k) (sym same) (inr never)) (less-or-same i n l);
}

-- Each profile has been asked.
pub are-whole : (es : List CheckFault) (ps : List Placing) (ns : List ℕ) (n : ℕ) → length ps ≤ n → AreAsked es ps ns n → AreAllRivals es ps ns
are-whole es ps ns n past are = λ i out may.
    let own = slice_get_within ps i may.placed.0 may.placed.1 in
    ⊎_elim (λ has. out has) (λ no. no may) (are.joined i (omega (arith, own, past)))

-- A test that an item of a list passes, and one that finds an item.
pub test-finds : {X : Type 0} (p : X → Bool) (xs : List X) → list_any p xs ≡ true → (x : X) × Contains xs x × (p x ≡ true)
test-finds p [] e = absurd (true≢false (sym e))
test-finds {X} p (y ∷ ys) e = go (p y) refl e (λ f. test-finds p ys f)
  where
    go : (b : Bool) → p y ≡ b → (b || list_any p ys) ≡ true → (list_any p ys ≡ true → (x : X) × Contains ys x × (p x ≡ true)) → (x : X) × Contains (y ∷ ys) x × (p x ≡ true)
    go true is f rest = (y, cons-here y y ys refl, is)
    go false is f rest = let w = rest f in (w.0, cons-there y w.0 ys w.1, w.2)

pub test-passes : {X : Type 0} (p : X → Bool) (xs : List X) (x : X) → Contains xs x → p x ≡ true → list_any p xs ≡ true
test-passes p [] x has is = absurd (omega (arith, has.1))
test-passes p (y ∷ ys) x has is = go (p y) refl (cons-cases y x ys has) (λ there. test-passes p ys x there is)
  where
    go : (b : Bool) → p y ≡ b → (y ≡ x) ⊎ Contains ys x → (Contains ys x → list_any p ys ≡ true) → (b || list_any p ys) ≡ true
    go true e h rest = refl
    go false e h rest = ⊎_elim (λ here. absurd (true≢false (sym is ∙ (ap p (sym here) ∙ e)))) (λ there. rest there) h

-- Where profiles stand when there may be more rounds, and one more profile.
placed-still : (es : List CheckFault) (n m i : ℕ) (q : Placing) → n ≤ m → IsPlaced es n i q → IsPlaced es m i q
placed-still es n m i (Round k) l h = let below = h.0 in (omega (arith, l, below), h.1)
placed-still es n m i (Unplaced why) l h = h

pub none-placed : (es : List CheckFault) (n : ℕ) → AreNumbersPlaced es n []
none-placed es n = λ i p at. absurd (none-some p at)

pub one-placed-more : (es : List CheckFault) (n m : ℕ) (ps : List Placing) (p : Placing) → n ≤ m → IsPlaced es m (length ps) p → AreNumbersPlaced es n ps → AreNumbersPlaced es m (ps ++ p ∷ [])
one-placed-more es n m ps p l is are = λ i q at. ⊎_elim
    (λ old. placed-still es n m i q l (are i q old))
    (λ new. subst (λ (r : Placing). IsPlaced es m i r) new.1 (subst (λ (x : ℕ). IsPlaced es m x p) (sym new.0) is))
    (snoc-cases ps p q i at)

-- Rounds that have a profile when there is one more profile, which opens the rounds that are new.
pub none-used : (ps : List Placing) → AreRoundsUsed 0 ps
none-used ps = λ k l. absurd (omega (arith, l))

pub one-used-more : (n m : ℕ) (ps : List Placing) (p : Placing) → OpensRounds n m p → AreRoundsUsed n ps → AreRoundsUsed m (ps ++ p ∷ [])
one-used-more n m ps p opens are = λ k l. ⊎_elim
    (λ old. let w = are k old in (w.0, (w.1.0, snoc-old ps p w.1.0 w.0 w.1.1, w.1.2)))
    (λ new. (length ps, (p, snoc-new ps p, new)))
    (opens k l)

-- No two of a round have a line, also with one more profile that stands in a round of those so far only if it is free for it.
round-below : (es : List CheckFault) (n i k : ℕ) (q : Placing) → IsPlaced es n i q → is_in_round k q ≡ true → k < n
round-below es n i k (Round own) h is = let below = h.0 in grind (arith, nat_tests, below, is)
round-below es n i k (Unplaced why) h is = absurd (true≢false (sym is))

pub stands-free : (es : List CheckFault) (ps : List Placing) (count i own : ℕ) → (own < count → IsFreeFor es ps own i) → StandsFree es ps count i (Round own)
stands-free es ps count i own free = λ k l is.
    let same : own ≡ k = grind (arith, nat_tests, is) in
    subst (λ (x : ℕ). IsFreeFor es ps x i) same (free (subst (λ (x : ℕ). x < count) (sym same) l))

pub none-split : (es : List CheckFault) → AreNumbersSplit es []
none-split es = λ i j k l in_i in_j pair. absurd (none-some in_i.0 in_i.1)

pub one-split-more : (es : List CheckFault) (n : ℕ) (ps : List Placing) (p : Placing) → AreNumbersPlaced es n ps → StandsFree es ps n (length ps) p → AreNumbersSplit es ps → AreNumbersSplit es (ps ++ p ∷ [])
one-split-more es n ps p told free are = λ i j k l in_i in_j pair. ⊎_elim
    (λ old_j. ⊎_elim
    (λ old_i. are i j k l (in_i.0, old_i, in_i.2) (in_j.0, old_j, in_j.2) pair)
    (λ new_i. let below = slice_get_within ps j in_j.0 old_j in let last = new_i.0 in absurd (omega (arith, l, below, last)))
    (snoc-cases ps p in_i.0 i in_i.1))
    (λ new_j. ⊎_elim
    (λ old_i.
    free k (round-below es n i k in_i.0 (told i in_i.0 old_i) in_i.2) (subst (λ (r : Placing). is_in_round k r ≡ true) (sym new_j.1) in_j.2)
    i (in_i.0, old_i, in_i.2) (subst (λ (x : ℕ). HasPair es i x) new_j.0 pair))
    (λ new_i. let last_i = new_i.0 in let last_j = new_j.0 in absurd (omega (arith, l, last_i, last_j)))
    (snoc-cases ps p in_i.0 i in_i.1))
    (snoc-cases ps p in_j.0 j in_j.1)

-- Where numbers of profiles stand by lines alone, and rounds of numbers.
use Rattle.std.specs.Prelude.{◌≡◌, ◌≢◌, ◌⊎◌, ◌<◌, ◌+◌, ◌∷◌, [], ℕ, true, if◌then◌else◌, List, map, length, slice_get, Some, Contains}
use Rattle.std.specs.List.{range_with_len}
use Rattle.hub_cert.specs.declared.fault.CheckFault.{CheckFault}
use Rattle.hub_rounds.specs.Lines.{HasNoOwnLine, HasOwnLine, HasPair, IsFirstReason}
use Rattle.hub_rounds.specs.Rounds.{ClashesWithAll, IsPlaced, is_in_round, is_in_some}
use Rattle.hub_rounds.specs.declared.numbered.LeftOut.{LeftOut}
use Rattle.hub_rounds.specs.declared.numbered.NumberedRounds.{NumberedRounds}
use Rattle.hub_rounds.specs.declared.placing.Obstacle.{Obstacle}
use Rattle.hub_rounds.specs.declared.placing.Placed.{Placed}
use Rattle.hub_rounds.specs.declared.placing.Placing.{Placing}
use Rattle.hub_rounds.specs.declared.placing.Placing.TheVariants.{Round, Unplaced}
use Rattle.hub_rounds.specs.declared.standing.Standing.{Standing}

-- Each number stands in one of so many rounds, or has a line of its own that says why it doesn't.
abbrev pub AreNumbersPlaced : List CheckFault → ℕ → List Placing → Type 0
AreNumbersPlaced es count qs =
    (i : ℕ) (q : Placing) → slice_get qs i ≡ Some q → IsPlaced es count i q

-- The number stands in this round; and in some round.
abbrev pub NumberStandsIn : List Placing → ℕ → ℕ → Type 0
NumberStandsIn qs k i = (q : Placing) × (slice_get qs i ≡ Some q) × (is_in_round k q ≡ true)

abbrev pub NumberIsInRound : List Placing → ℕ → Type 0
NumberIsInRound qs i = (q : Placing) × (slice_get qs i ≡ Some q) × (is_in_some q ≡ true)

-- Each of so many rounds has a number.
abbrev pub AreRoundsUsed : ℕ → List Placing → Type 0
AreRoundsUsed count qs = (k : ℕ) → k < count → (i : ℕ) × NumberStandsIn qs k i

-- No number in this round has a line with that one.
abbrev pub IsFreeFor : List CheckFault → List Placing → ℕ → ℕ → Type 0
IsFreeFor es qs k i = (j : ℕ) → NumberStandsIn qs k j → HasPair es j i → ⊥

-- If that one stands in one of so many rounds, it is such a round.
abbrev pub StandsFree : List CheckFault → List Placing → ℕ → ℕ → Placing → Type 0
StandsFree es qs count i q = (k : ℕ) → k < count → is_in_round k q ≡ true → IsFreeFor es qs k i

-- No line is about two numbers of a round.
abbrev pub AreNumbersSplit : List CheckFault → List Placing → Type 0
AreNumbersSplit es qs =
    (i j k : ℕ) → i < j → NumberStandsIn qs k i → NumberStandsIn qs k j → HasPair es i j → ⊥

-- The number stands in a round, and has a line with each of these.
pub record NumberMayJoin (es : List CheckFault) (qs : List Placing) (ns : List ℕ) (i : ℕ)
    : Type 0 where
  pub placed : NumberIsInRound qs i
  pub clashes : ClashesWithAll es ns i

-- Numbers in rounds, of which each two have a line. So each is in a round of its own.
pub record AreRivalNumbers (es : List CheckFault) (qs : List Placing) (ns : List ℕ) : Type 0 where
  pub placed : (m i : ℕ) → slice_get ns m ≡ Some i → NumberIsInRound qs i
  pub clash : (m n i j : ℕ) → m < n → slice_get ns m ≡ Some i → slice_get ns n ≡ Some j
      → HasPair es i j

-- No other number may join these.
abbrev pub AreAllRivals : List CheckFault → List Placing → List ℕ → Type 0
AreAllRivals es qs ns = (i : ℕ) → (Contains ns i → ⊥) → NumberMayJoin es qs ns i → ⊥

-- So many numbers stand in rounds by these lines, and these of them are rivals.
pub record AreStanding (count : ℕ) (es : List CheckFault) (s : Standing) : Type 0 where
  pub all : length s.placings ≡ count
  pub told : AreNumbersPlaced es s.rounds s.placings
  pub split : AreNumbersSplit es s.placings
  pub used : AreRoundsUsed s.rounds s.placings
  pub rivals : AreRivalNumbers es s.placings s.rivals
  pub whole : AreAllRivals es s.placings s.rivals

-- Each profile stands where its number does.
abbrev pub StandAsNumbers : List Placing → List Placed → Type 0
StandAsNumbers qs ps =
    (i : ℕ) (p : Placed) (q : Placing) → slice_get ps i ≡ Some p → slice_get qs i ≡ Some q
    → p.placing ≡ q

-- The numbers in a round, in their order, where the first placing is that of this number.
abbrev pub numbers_from : ℕ → ℕ → List Placing → List ℕ
numbers_from n k [] = []
numbers_from n k (q ∷ qs) =
    if is_in_round k q then n ∷ numbers_from (n + 1) k qs else numbers_from (n + 1) k qs

abbrev pub numbers_in_round : ℕ → List Placing → List ℕ
numbers_in_round k qs = numbers_from 0 k qs

-- The numbers that are left out, in their order, and why.
abbrev pub left_from : ℕ → List Placing → List LeftOut
left_from n [] = []
left_from n (Round k ∷ qs) = left_from (n + 1) qs
left_from n (Unplaced why ∷ qs) = record { number = n; reason = why } ∷ left_from (n + 1) qs

abbrev pub left_out : List Placing → List LeftOut
left_out qs = left_from 0 qs

-- So many rounds of numbers.
abbrev pub numbered : ℕ → List Placing → List (List ℕ)
numbered count qs = map (λ k. numbers_in_round k qs) (range_with_len 0 count)

-- A round by these lines: some of so many numbers, each once. No line is about two of them, or
-- about one of them alone.
pub record IsRoundOfLines (count : ℕ) (es : List CheckFault) (ns : List ℕ) : Type 0 where
  pub some : ns ≢ []
  pub below : (a i : ℕ) → slice_get ns a ≡ Some i → i < count
  pub once : (a b i : ℕ) → slice_get ns a ≡ Some i → slice_get ns b ≡ Some i → a ≡ b
  pub apart : (a b i j : ℕ) → a ≢ b → slice_get ns a ≡ Some i → slice_get ns b ≡ Some j
      → HasPair es i j → ⊥
  pub alone : (a i : ℕ) → slice_get ns a ≡ Some i → HasNoOwnLine es i

-- The number is one of this round; of one round, and of no other one.
abbrev pub IsNumberOf : List (List ℕ) → ℕ → ℕ → Type 0
IsNumberOf rs k i = (ns : List ℕ) × (slice_get rs k ≡ Some ns) × Contains ns i

abbrev pub IsInOneRound : List (List ℕ) → ℕ → Type 0
IsInOneRound rs i = (k : ℕ) × IsNumberOf rs k i × ((l : ℕ) → IsNumberOf rs l i → l ≡ k)

-- It is left out for a reason that a line about it alone gives: the first one that says that it
-- breaks a rule, if there is one.
abbrev pub IsLeftOut : List CheckFault → List LeftOut → ℕ → Type 0
IsLeftOut es ls i =
    (why : Obstacle) × Contains ls (record { number = i; reason = why }) × HasOwnLine es i why
    × IsFirstReason es i why

-- So many numbers are cut into rounds by these lines. Each stands in exactly one place: in a round
-- if no line is about it alone, else left out for a reason that such a line gives.
pub record AreRoundsOfLines (count : ℕ) (es : List CheckFault) (r : NumberedRounds)
    : Type 0 where
  pub placings : List Placing
  pub all : length placings ≡ count
  pub told : AreNumbersPlaced es (length r.rounds) placings
  pub rounds : r.rounds ≡ numbered (length r.rounds) placings
  pub left : r.left ≡ left_out placings
  pub stands : (i : ℕ) → i < count → IsInOneRound r.rounds i ⊎ IsLeftOut es r.left i
  pub each : (k : ℕ) (ns : List ℕ) → slice_get r.rounds k ≡ Some ns → IsRoundOfLines count es ns
  pub rivals : AreRivalNumbers es placings r.rivals
  pub whole : AreAllRivals es placings r.rivals

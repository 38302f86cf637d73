-- Where the profiles of a set stand, and rounds.
use Rattle.std.specs.Prelude.{◌≡◌, ◌≢◌, ◌⊎◌, ◌<◌, ◌==◌, [], ℕ, nat_lt, Bool, true, false, not, List, map, filter, length, slice_get, Some, Contains}
use Rattle.std.specs.List.{range_with_len}
use Rattle.hub_profile.specs.Parts.{Parts}
use Rattle.hub_cert.specs.Set.{IsSafeSet, Members}
use Rattle.hub_cert.specs.declared.fault.CheckFault.{CheckFault}
use Rattle.hub_rounds.specs.Lines.{HasNoOwnLine, HasOwnLine, HasPair, IsFirstReason}
use Rattle.hub_rounds.specs.declared.placing.Placed.{Placed}
use Rattle.hub_rounds.specs.declared.placing.Placing.{Placing}
use Rattle.hub_rounds.specs.declared.placing.Placing.TheVariants.{Round, Unplaced}
use Rattle.hub_rounds.specs.declared.rounds.Rounds.{Rounds}
use Rattle.hub_profile.specs.declared.rule.Rule.{Rule}

-- A profile stands in this round; in some round; and in no round below this number.
abbrev pub is_in_round : ℕ → Placing → Bool
is_in_round k (Round own) = own == k
is_in_round k (Unplaced why) = false

abbrev pub is_in_some : Placing → Bool
is_in_some (Round own) = true
is_in_some (Unplaced why) = false

abbrev pub is_outside : ℕ → Placing → Bool
is_outside n (Round own) = not (nat_lt own n)
is_outside n (Unplaced why) = true

-- The profiles of a round, in their order.
abbrev pub profiles_in_round : ℕ → List Placed → List Parts
profiles_in_round k ps = map (λ p. p.profile) (filter (λ p. is_in_round k p.placing) ps)

-- A profile stands in one of so many rounds if no line is about it alone. Else such a line says why
-- it is in none: the first one that says that it breaks a rule, if there is one.
abbrev pub IsPlaced : List CheckFault → ℕ → ℕ → Placing → Type 0
IsPlaced es count i (Round k) = (k < count) × HasNoOwnLine es i
IsPlaced es count i (Unplaced why) = HasOwnLine es i why × IsFirstReason es i why

-- Each of them does.
abbrev pub ArePlaced : List CheckFault → ℕ → List Placed → Type 0
ArePlaced es count ps =
    (i : ℕ) (p : Placed) → slice_get ps i ≡ Some p → IsPlaced es count i p.placing

-- Rounds from one count up to another are opened by this profile.
abbrev pub OpensRounds : ℕ → ℕ → Placing → Type 0
OpensRounds before after q = (k : ℕ) → k < after → (k < before) ⊎ (is_in_round k q ≡ true)

-- The profile of that number stands in this round.
abbrev pub StandsIn : List Placed → ℕ → ℕ → Type 0
StandsIn ps k i = (p : Placed) × (slice_get ps i ≡ Some p) × (is_in_round k p.placing ≡ true)

-- No two profiles of a round have a line, that they clash or that their goal is too large.
abbrev pub AreSplit : List CheckFault → List Placed → Type 0
AreSplit es ps = (i j k : ℕ) → i < j → StandsIn ps k i → StandsIn ps k j → HasPair es i j → ⊥

-- The profile of that number stands in a round.
abbrev pub IsInRound : List Placed → ℕ → Type 0
IsInRound ps i = (p : Placed) × (slice_get ps i ≡ Some p) × (is_in_some p.placing ≡ true)

-- A profile clashes with each of these.
abbrev pub ClashesWithAll : List CheckFault → List ℕ → ℕ → Type 0
ClashesWithAll es ns i = (m j : ℕ) → slice_get ns m ≡ Some j → HasPair es j i

-- It stands in a round, and it clashes with each of these.
pub record MayJoin (es : List CheckFault) (ps : List Placed) (ns : List ℕ) (i : ℕ) : Type 0 where
  pub placed : IsInRound ps i
  pub clashes : ClashesWithAll es ns i

-- Profiles of rounds, of which each two clash, or are too large to decide. So each is in a round
-- of its own.
pub record AreRivals (es : List CheckFault) (ps : List Placed) (ns : List ℕ) : Type 0 where
  pub placed : (m i : ℕ) → slice_get ns m ≡ Some i → IsInRound ps i
  pub clash : (m n i j : ℕ) → m < n → slice_get ns m ≡ Some i → slice_get ns n ≡ Some j
      → HasPair es i j

-- No other profile may join these.
abbrev pub AreWhole : List CheckFault → List Placed → List ℕ → Type 0
AreWhole es ps ns = (i : ℕ) → (Contains ns i → ⊥) → MayJoin es ps ns i → ⊥

-- So many rounds, each with its profiles; and each of them is a safe set together with the rules.
abbrev pub rounds_of : ℕ → List Placed → List (List Parts)
rounds_of count ps = map (λ k. profiles_in_round k ps) (range_with_len 0 count)

abbrev pub AreSafeRounds : ℕ → List Placed → List Rule → Type 0
AreSafeRounds count ps Rs =
    (k : ℕ) → k < count → IsSafeSet (record { profiles = profiles_in_round k ps; rules = Rs })

-- The profiles of a set are cut into rounds by these lines. Each stands in exactly one place: in a
-- round if no line is about it alone, else left out for a reason that such a line gives. No two of a
-- round have a line. No round is empty, and each is a safe set together with the rules. The rules
-- are those of the set.
pub record AreRounds (S : Members) (es : List CheckFault) (r : Rounds) : Type 0 where
  pub placed : List Placed
  pub all : map (λ p. p.profile) placed ≡ S.profiles
  pub told : ArePlaced es (length r.rounds) placed
  pub split : AreSplit es placed
  pub rounds : r.rounds ≡ map (λ k. profiles_in_round k placed) (range_with_len 0 (length r.rounds))
  pub left : r.left ≡ filter (λ p. not (is_in_some p.placing)) placed
  pub used : (k : ℕ) (Ps : List Parts) → slice_get r.rounds k ≡ Some Ps → Ps ≢ []
  pub safe : (k : ℕ) (Ps : List Parts) → slice_get r.rounds k ≡ Some Ps
      → IsSafeSet (record { profiles = Ps; rules = S.rules })
  pub rivals : AreRivals es placed r.rivals
  pub whole : AreWhole es placed r.rivals
  pub rules : r.rules ≡ S.rules

-- The lines of profiles as Unison may run them. Two profiles are judged by their cautious readings,
-- and a profile with the rules by its reading beside them.
use Rattle.std.specs.Prelude.{◌≡◌, ◌⊎◌, ◌<◌, ℕ, List, [], ◌∷◌, ◌++◌, length, map, slice_get, Some, Contains}
use Rattle.std.specs.List.{swap}
use Rattle.hub_profile.specs.Parts.{IsProfile, Parts}
use Rattle.hub_profile.specs.declared.rule.Rule.{Rule}
use Rattle.hub_cert.specs.Refused.{IsRefused}
use Rattle.hub_cert.specs.Set.{Members}
use Rattle.hub_cert.specs.declared.fault.CheckFault.{CheckFault}
use Rattle.hub_cert.specs.declared.fault.CheckFault.TheVariants as fault
use Rattle.hub_parts.specs.Clashing.{AreNearPairs}
use Rattle.hub_unison.specs.ReadingOf.{cautious_of, reading_of}
use Rattle.hub_unison.specs.Rules.{for_rules}
use Rattle.hub_apart.specs.ApartLines.{Adds, AreAmong}
use Rattle.hub_apart.specs.NestedLines.{HasLinesBeside, HasLinesOfNear, IsRefusedBeside, IsRefusedNear}

-- The readings of profiles: the cautious ones, and those beside rules. The latter are the same
-- beside any rules, and are the cautious ones if there are none.
abbrev pub cautious : List Parts → List Parts
cautious Ps = map cautious_of Ps

abbrev pub beside : List Rule → List Parts → List Parts
beside Rs Ps = map (reading_of Rs) Ps

-- The lines of the two profiles of each pair of a list, and no others.
pub record AreLinesOfPairs (Ps : List Parts) (pairs : List (ℕ × ℕ)) (es : List CheckFault)
    : Type 0 where
  pub of_two : (i j : ℕ) → Contains pairs (i, j)
      → (own : List CheckFault) × HasLinesOfNear Ps i j own × AreAmong own es
  pub each : (e : CheckFault) → Contains es e → (own : List CheckFault) × Contains own e
      × ((i : ℕ) × (j : ℕ) × Contains pairs (i, j) × HasLinesOfNear Ps i j own)

-- The lines of each profile alone with the rules, and no others.
pub record AreLinesOfEach (Ps : List Parts) (Rs : List Rule) (es : List CheckFault)
    : Type 0 where
  pub of_one : (i : ℕ) → i < length Ps
      → (own : List CheckFault) × HasLinesBeside Ps Rs i own × AreAmong own es
  pub each : (e : CheckFault) → Contains es e → (own : List CheckFault) × Contains own e
      × ((i : ℕ) × HasLinesBeside Ps Rs i own)

-- The lines of profiles and rules in Unison: those of each near pair of cautious readings, and then
-- those of each reading beside the rules. Other pairs have no lines.
pub record AreLinesInUnison (Ps : List Parts) (Rs : List Rule) (es : List CheckFault)
    : Type 0 where
  pub pairs : List (ℕ × ℕ)
  pub near : AreNearPairs (cautious Ps) pairs
  pub of_pairs : List CheckFault
  pub two : AreLinesOfPairs (cautious Ps) pairs of_pairs
  pub of_each : List CheckFault
  pub one : AreLinesOfEach (beside Rs Ps) Rs of_each
  pub all : es ≡ of_pairs ++ of_each

-- Why there are no such lines: memory is out, or a reading with the rules makes no set, or two
-- cautious readings don't.
abbrev pub IsRefusedOne : List Parts → List Rule → CheckFault → Type 0
IsRefusedOne Ds Rs e =
    (e ≡ fault.OutOfMemory)
    ⊎ ((i : ℕ) × (D : Parts) × (slice_get Ds i ≡ Some D) × IsRefusedBeside D Rs e)

abbrev pub IsRefusedPair : List Parts → CheckFault → Type 0
IsRefusedPair Cs e =
    (e ≡ fault.OutOfMemory)
    ⊎ ((i : ℕ) × (j : ℕ) × (C : Parts) × (D : Parts) × (i < j) × (slice_get Cs i ≡ Some C)
    × (slice_get Cs j ≡ Some D) × IsRefusedNear C D e)

abbrev pub IsRefusedInUnison : List Parts → List Rule → CheckFault → Type 0
IsRefusedInUnison Ps Rs e =
    IsRefusedPair (cautious Ps) e ⊎ IsRefusedOne (beside Rs Ps) Rs e

-- The lines of these pairs are appended; and those of each profile with the rules.
abbrev pub AddsLinesOfPairs :
    List Parts → List (ℕ × ℕ) → List CheckFault → List CheckFault → Type 0
AddsLinesOfPairs Ps pairs old new = Adds (AreLinesOfPairs Ps pairs) old new

abbrev pub AddsLinesOfEach : List Parts → List Rule → List CheckFault → List CheckFault → Type 0
AddsLinesOfEach Ps Rs old new = Adds (AreLinesOfEach Ps Rs) old new

-- Of cautious readings: the pairs of near ones are found, and their lines are appended.
abbrev pub AddsLinesNear : List Parts → List CheckFault → List CheckFault → Type 0
AddsLinesNear Cs old new =
    (pairs : List (ℕ × ℕ)) × AreNearPairs Cs pairs × AddsLinesOfPairs Cs pairs old new

-- The claim holds of the profiles that have these cautious readings.
abbrev pub OfCautious : List Parts → (List Parts → Type 0) → Type 0
OfCautious Cs C = (Ps : List Parts) → Cs ≡ cautious Ps → C Ps

-- The reading beside rules of a profile, made of its cautious reading.
abbrev pub wide : Parts → Parts
wide C = for_rules C C.paths

-- An item at a place, from which the last one goes to the end.
abbrev pub put_back : List Parts → ℕ → Parts → List Parts
put_back Ps i P = swap (Ps ++ P ∷ []) i (length Ps)

-- Each pair has an earlier and a later number of so many profiles.
abbrev pub IsWithin : ℕ → ℕ × ℕ → Type 0
IsWithin many pair = (pair.0 < pair.1) × (pair.1 < many)

abbrev pub AreWithin : ℕ → List (ℕ × ℕ) → Type 0
AreWithin many pairs = (pair : ℕ × ℕ) → Contains pairs pair → IsWithin many pair

-- All of the profiles are valid.
abbrev pub AreValid : List Parts → Type 0
AreValid Ps = (i : ℕ) (P : Parts) → slice_get Ps i ≡ Some P → IsProfile P

-- A set in Unison by its parts. Two profiles are judged by cautious readings, and a profile with a
-- rule by a reading for that rule.
use Rattle.std.specs.Prelude.{◌≡◌, ◌<◌, ℕ, List, [], ◌∷◌, map, slice_get, Some}
use Rattle.hub_profile.specs.Parts.{Parts}
use Rattle.hub_profile.specs.declared.rule.Rule.{Rule}
use Rattle.hub_reach.specs.Safe.{IsSafe}
use Rattle.hub_unison.specs.Rules.{IsReadingOf, forbidden}
use Rattle.hub_unison.specs.Shared.{ShareNoArchive}
use Rattle.hub_unison.specs.UnisonReach.{IsCautious}
use Rattle.hub_unison.specs.Written.{Written}
use Rattle.hub_parts.specs.Whole.{AreRootsApart}

-- What hubsync reads of the profiles.
abbrev pub parts_read : List Written → List Parts
parts_read Ws = map (λ W. W.parts) Ws

-- Two profiles have cautious readings that are a safe set without rules.
abbrev pub HaveSafeReadings : Written → Written → Type 0
HaveSafeReadings V W =
    (C : Parts) × (D : Parts) × IsCautious V C × IsCautious W D × IsSafe (C ∷ D ∷ []) []

-- A profile has a reading for a rule that is a safe set with it.
abbrev pub HasSafeReading : Written → Rule → Type 0
HasSafeReading W R =
    (C : Parts) × IsReadingOf (R ∷ []) W C × IsSafe (C ∷ []) (forbidden R ∷ [])

-- No different roots are nested, no two profiles have the same two roots, and each part has safe
-- readings of its own.
pub record HaveSafeParts (profiles : List Written) (rules : List Rule) : Type 0 where
  pub roots : AreRootsApart (parts_read profiles) []
  pub archives : ShareNoArchive (parts_read profiles)
  pub two : (i j : ℕ) (V W : Written) → i < j → slice_get profiles i ≡ Some V
      → slice_get profiles j ≡ Some W → HaveSafeReadings V W
  pub one : (i k : ℕ) (W : Written) (R : Rule) → slice_get profiles i ≡ Some W
      → slice_get rules k ≡ Some R → HasSafeReading W R

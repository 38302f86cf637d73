-- A set by its parts, of which only the pairs of a list are judged.
use Rattle.std.specs.Prelude.{◌≡◌, ◌≢◌, ℕ, List, [], ◌∷◌, map, slice_get, Some, Contains}
use Rattle.hub_profile.specs.Parts.{Parts}
use Rattle.hub_profile.specs.declared.rule.Rule.{Rule as FileRule}
use Rattle.hub_reach.specs.Safe.{IsSafe, Rule}
use Rattle.hub_unison.specs.ReadingOf.{cautious_of, reading_of}
use Rattle.hub_unison.specs.Rules.{forbidden}
use Rattle.hub_unison.specs.Shared.{ShareNoArchive}
use Rattle.hub_parts.specs.Nested.{WideBreach, WideClash}
use Rattle.hub_parts.specs.Whole.{AreRootsApart, IsEachOneSafe}

-- The two profiles of each pair are safe without rules.
abbrev pub IsEachListedSafe : List Parts → List (ℕ × ℕ) → Type 0
IsEachListedSafe Ps ps =
    (i j : ℕ) (P Q : Parts) → Contains ps (i, j) → i ≢ j → slice_get Ps i ≡ Some P
    → slice_get Ps j ≡ Some Q → IsSafe (P ∷ Q ∷ []) []

-- No different roots are nested, and all pairs of the list and all profiles with the rules are
-- safe.
pub record AreSafeListedParts (profiles : List Parts) (rules : List Rule) (pairs : List (ℕ × ℕ))
    : Type 0 where
  pub roots : AreRootsApart profiles rules
  pub two : IsEachListedSafe profiles pairs
  pub one : IsEachOneSafe profiles rules

-- The same of readings: those of each two profiles are cautious, and that of each profile with the
-- rules is one beside them.
pub record AreSafeListedReadings (profiles : List Parts) (rules : List FileRule)
    (pairs : List (ℕ × ℕ)) : Type 0 where
  pub roots : AreRootsApart profiles []
  pub archives : ShareNoArchive profiles
  pub two : IsEachListedSafe (map cautious_of profiles) pairs
  pub one : IsEachOneSafe (map (reading_of rules) profiles) (map forbidden rules)

-- The two profiles of each pair don't clash, wherever their roots lie.
abbrev pub HasNoClash : List Parts → List (ℕ × ℕ) → Type 0
HasNoClash Ps ps =
    (i j : ℕ) (P Q : Parts) → Contains ps (i, j) → i ≢ j → slice_get Ps i ≡ Some P
    → slice_get Ps j ≡ Some Q → ¬ (WideClash P Q) × ¬ (WideClash Q P)

-- No profile breaches a rule, wherever the roots lie.
abbrev pub HasNoBreach : List Parts → List Rule → Type 0
HasNoBreach Ps Rs =
    (i k : ℕ) (P : Parts) (R : Rule) → slice_get Ps i ≡ Some P → slice_get Rs k ≡ Some R
    → ¬ (WideBreach P R)

-- No profile's reading for a rule breaches it.
abbrev pub HasNoReadBreach : List Parts → List FileRule → Type 0
HasNoReadBreach Ps Rs =
    (i k : ℕ) (P : Parts) (R : FileRule) → slice_get Ps i ≡ Some P → slice_get Rs k ≡ Some R
    → ¬ (WideBreach (reading_of (R ∷ []) P) (forbidden R))

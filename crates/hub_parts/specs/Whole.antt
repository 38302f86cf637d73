-- A set by its parts: each two profiles alone, and each profile alone with the rules.
use Rattle.std.specs.Prelude.{◌≡◌, ◌<◌, ℕ, List, [], ◌∷◌, slice_get, Some, IsTrue}
use Rattle.hub_path.specs.Path.{Path, is_over}
use Rattle.hub_profile.specs.Parts.{Parts}
use Rattle.hub_reach.specs.Safe.{IsSafe, Rule, all_roots}

-- Of all roots, no two different ones are nested.
abbrev pub AreRootsApart : List Parts → List Rule → Type 0
AreRootsApart Ps Rs =
    (i j : ℕ) (r s : Path) → slice_get (all_roots Ps Rs) i ≡ Some r
    → slice_get (all_roots Ps Rs) j ≡ Some s → IsTrue (is_over r s) → r ≡ s

-- Each two profiles are safe without rules.
abbrev pub IsEachTwoSafe : List Parts → Type 0
IsEachTwoSafe Ps =
    (i j : ℕ) (P Q : Parts) → i < j → slice_get Ps i ≡ Some P → slice_get Ps j ≡ Some Q
    → IsSafe (P ∷ Q ∷ []) []

-- Each profile alone is safe with all rules.
abbrev pub IsEachOneSafe : List Parts → List Rule → Type 0
IsEachOneSafe Ps Rs = (i : ℕ) (P : Parts) → slice_get Ps i ≡ Some P → IsSafe (P ∷ []) Rs

-- Each profile alone is safe with each rule alone.
abbrev pub IsEachOneSafeByRule : List Parts → List Rule → Type 0
IsEachOneSafeByRule Ps Rs =
    (i k : ℕ) (P : Parts) (R : Rule) → slice_get Ps i ≡ Some P → slice_get Rs k ≡ Some R
    → IsSafe (P ∷ []) (R ∷ [])

-- No different roots are nested, and all parts are safe.
pub record AreSafeParts (profiles : List Parts) (rules : List Rule) : Type 0 where
  pub roots : AreRootsApart profiles rules
  pub two : IsEachTwoSafe profiles
  pub one : IsEachOneSafe profiles rules

-- The same, each profile with one rule at a time.
pub record AreSafePartsByRule (profiles : List Parts) (rules : List Rule) : Type 0 where
  pub roots : AreRootsApart profiles rules
  pub two : IsEachTwoSafe profiles
  pub one : IsEachOneSafeByRule profiles rules

-- No different roots of a part are nested: of two profiles, of one profile with the rules, and of
-- the rules alone.
pub record ArePartsApart (profiles : List Parts) (rules : List Rule) : Type 0 where
  pub two : (i j : ℕ) (P Q : Parts) → i < j → slice_get profiles i ≡ Some P
      → slice_get profiles j ≡ Some Q → AreRootsApart (P ∷ Q ∷ []) []
  pub one : (i : ℕ) (P : Parts) → slice_get profiles i ≡ Some P → AreRootsApart (P ∷ []) rules
  pub none : AreRootsApart [] rules

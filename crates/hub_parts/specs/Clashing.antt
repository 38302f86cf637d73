-- Lists of pairs of profiles, by their numbers.
use Rattle.std.specs.Prelude.{◌≡◌, ◌≢◌, ◌⊎◌, ◌<◌, ℕ, List, slice_get, Some, Contains, IsTrue}
use Rattle.hub_profile.specs.Parts.{Parts}
use Rattle.hub_profile.specs.Facts.{are_roots}
use Rattle.hub_parts.specs.Near.{HasPair, IsValueOver}
use Rattle.hub_parts.specs.Nested.{WideClash}
use Rattle.hub_parts.specs.Values.{values}

-- Profiles i and j have kept values of which one is over the other.
abbrev pub AreNear : List Parts → ℕ → ℕ → Type 0
AreNear Ps i j = IsValueOver (values Ps) i j ⊎ IsValueOver (values Ps) j i

-- By the first number, then by the second.
abbrev pub Precedes : ℕ × ℕ → ℕ × ℕ → Type 0
Precedes p q = (p.0 < q.0) ⊎ ((p.0 ≡ q.0) × (p.1 < q.1))

-- The pairs of all near profiles, the lower number first, once each and in ascending order.
pub record AreNearPairs (profiles : List Parts) (pairs : List (ℕ × ℕ)) : Type 0 where
  pub complete : (i j : ℕ) → i < j → AreNear profiles i j → Contains pairs (i, j)
  pub exact : (i j : ℕ) → Contains pairs (i, j) → (i < j) × AreNear profiles i j
  pub ascending : (a b : ℕ) (p q : ℕ × ℕ) → a < b → slice_get pairs a ≡ Some p
      → slice_get pairs b ≡ Some q → Precedes p q

-- Each profile has roots as it must.
abbrev pub HaveRoots : List Parts → Type 0
HaveRoots Ps = (i : ℕ) (P : Parts) → slice_get Ps i ≡ Some P → IsTrue (are_roots P.roots)

-- Each two profiles of which one clashes with the other are among the pairs.
abbrev pub HasAllClashing : List Parts → List (ℕ × ℕ) → Type 0
HasAllClashing Ps ps =
    (i j : ℕ) (P Q : Parts) → slice_get Ps i ≡ Some P → slice_get Ps j ≡ Some Q → i ≢ j
    → IsTrue (are_roots P.roots) → WideClash P Q → HasPair ps i j

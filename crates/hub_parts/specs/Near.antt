-- Near values: of two, one is over the other. They are found by one sweep over all values in order,
-- with a stack of those that are over the last one.
use Rattle.std.specs.Prelude.{◌≡◌, ◌≢◌, ◌⊎◌, ◌<◌, ◌==◌, nat_lt, ℕ, Bool, false, not, List, [], ◌∷◌, ◌++◌, map, reverse, slice_get, Some, Contains, if◌then◌else◌, IsTrue}
use Rattle.std.specs.Ordering.{is_lt}
use Rattle.hub_path.specs.Path.{Path, is_over, path_cmp}
use Rattle.hub_parts.specs.declared.kept_value.KeptValue.{KeptValue}

-- No path comes before an earlier one.
abbrev pub AreInOrder : List KeptValue → Type 0
AreInOrder ks =
    (a b : ℕ) (k l : KeptValue) → a < b → slice_get ks a ≡ Some k → slice_get ks b ≡ Some l
    → is_lt (path_cmp l.path k.path) ≡ false

-- The stack from its first value on that is over the path.
abbrev pub over_only : Path → List KeptValue → List KeptValue
over_only p [] = []
over_only p (k ∷ ks) = if is_over k.path p then k ∷ ks else over_only p ks

-- The pairs of each of the values with those over it: the values of the stack, and earlier ones of
-- the list. The profile of the upper value comes first.
abbrev pub pairs_below : List KeptValue → List KeptValue → List (ℕ × ℕ)
pairs_below above [] = []
pairs_below above (k ∷ ks) =
    map (λ l. (l.profile, k.profile)) (reverse (over_only k.path above))
    ++ pairs_below (k ∷ over_only k.path above) ks

abbrev pub near_pairs : List KeptValue → List (ℕ × ℕ)
near_pairs ks = pairs_below [] ks

-- The pair is among these, either way round.
abbrev pub HasPair : List (ℕ × ℕ) → ℕ → ℕ → Type 0
HasPair ps i j = Contains ps (i, j) ⊎ Contains ps (j, i)

-- Two values of which one is over the other have their pair in the list, either way round.
abbrev pub HasEachNear : List KeptValue → List (ℕ × ℕ) → Type 0
HasEachNear ks ps =
    (a b : ℕ) (k l : KeptValue) → a ≢ b → slice_get ks a ≡ Some k → slice_get ks b ≡ Some l
    → IsTrue (is_over k.path l.path) → HasPair ps k.profile l.profile

-- A value of profile i is over one of profile j.
abbrev pub IsValueOver : List KeptValue → ℕ → ℕ → Type 0
IsValueOver ks i j =
    (k : KeptValue) × (l : KeptValue) × Contains ks k × Contains ks l × (k.profile ≡ i)
    × (l.profile ≡ j) × IsTrue (is_over k.path l.path)

-- Each pair of the list has such values.
abbrev pub AreAllNear : List KeptValue → List (ℕ × ℕ) → Type 0
AreAllNear ks ps = (i j : ℕ) → Contains ps (i, j) → IsValueOver ks i j

-- The pairs of two different numbers, the lower one first.
abbrev pub are_different : ℕ × ℕ → Bool
are_different p = not (p.0 == p.1)

abbrev pub lower_first : ℕ × ℕ → ℕ × ℕ
lower_first p = if nat_lt p.1 p.0 then (p.1, p.0) else p

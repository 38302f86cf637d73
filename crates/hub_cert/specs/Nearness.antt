-- Kept values in the order of paths, and a table of which profiles' kept values are near.
use Rattle.std.specs.Prelude.{◌≡◌, ℕ, Bool, true, not, ◌&&◌, List, [], ◌∷◌, map, slice_get, Option, Some, option_and_then, if◌then◌else◌}
use Rattle.std.specs.List.{list_all}
use Rattle.std.specs.List.Sorted.{IsPermutation}
use Rattle.std.specs.Ordering.{is_lt}
use denote.Ref.{Bor}
use Rattle.hub_path.specs.Path.{Path, is_over, path_cmp}
use Rattle.hub_profile.specs.Parts.{Parts}
use Rattle.hub_reach.specs.Apart.{are_near}

-- The paths that are referred to, in their order.
abbrev pub paths_at : List (Bor Path) → List Path
paths_at rs = map (λ r. r.now) rs

-- No path comes before an earlier one.
abbrev pub are_in_order : List Path → Bool
are_in_order [] = true
are_in_order (p ∷ ps) = list_all (λ q. not (is_lt (path_cmp q p))) ps && are_in_order ps

-- The second list has the paths of the first one, in order.
pub record AreSorted (ps qs : List Path) : Type 0 where
  pub same : IsPermutation ps qs
  pub order : are_in_order qs ≡ true

-- The kept values of each profile.
abbrev pub kept_values : List Parts → List (List Path)
kept_values Ps = map (λ P. P.paths) Ps

-- Which of the lists are near these paths; and the same of the paths of each list.
abbrev pub near_row : List Path → List (List Path) → List Bool
near_row ps lists = map (are_near ps) lists

abbrev pub near_rows : List (List Path) → List (List Path) → List (List Bool)
near_rows lists firsts = map (λ ps. near_row ps lists) firsts

-- Of two paths, that which comes first is over the other one.
abbrev pub is_first_over : Path → Path → Bool → Bool
is_first_over p q later = if later then is_over q p else is_over p q

-- The entry of that row at that place.
abbrev pub entry_at : List (List Bool) → ℕ → ℕ → Option Bool
entry_at rows i j = option_and_then (λ row. slice_get row j) (slice_get rows i)

-- This tells whether the lists with these numbers are near.
abbrev pub AreNearAt : List (List Path) → ℕ → ℕ → Bool → Type 0
AreNearAt lists i j b =
    (ps qs : List Path) → slice_get lists i ≡ Some ps → slice_get lists j ≡ Some qs
    → b ≡ are_near ps qs

-- This row tells which of the lists are near the list with that number.
abbrev pub IsRowAt : List (List Path) → ℕ → List Bool → Type 0
IsRowAt lists i row =
    (ps : List Path) → slice_get lists i ≡ Some ps → row ≡ near_row ps lists

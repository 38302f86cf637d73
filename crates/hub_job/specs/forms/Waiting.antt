-- The Looks that a side waits for: paths in ascending order.
use Rattle.std.specs.Prelude.{◌≡◌, ℕ, insert, reverse, List, [], ◌∷◌, ◌||◌, ◌==◌, fold, length, nat_lt, if◌then◌else◌}
use Rattle.std.specs.BTreeSet.{insert_key}
use Rattle.hub_path.specs.Path.{Path, path_cmp, parent}
use Rattle.hub_profile.specs.Parts.{Parts}
use Rattle.hub_reach.specs.Reach.{reach}

-- An ascending list of paths with these put in.
abbrev pub put_all : List Path → List Path → List Path
put_all qs ps = fold (λ qs p. insert_key path_cmp qs p) qs ps

-- The Looks for a kept value: its parent, if it has at least two names, and itself.
abbrev pub looks_for : Path → List Path
looks_for s = if nat_lt 1 (length s) then parent s ∷ s ∷ [] else s ∷ []

-- The list with the Looks for a kept value put in, if that is reached or is the whole replica.
abbrev pub put_kept : Parts → List Path → Path → List Path
put_kept P qs s = if length s == 0 || reach P s then put_all qs (looks_for s) else qs

-- The place at which a path goes into a stack of descending paths.
abbrev pub IsPlaceIn : List Path → Path → ℕ → Type 0
IsPlaceIn stack p at = insert_key path_cmp (reverse stack) p ≡ reverse (insert stack at p)

-- Which profiles share an archive.
use Rattle.std.specs.Prelude.{◌≡◌, ◌≢◌, ℕ, ◌+◌, Bool, false, ◌||◌, List, [], ◌∷◌, ◌++◌, slice_get, Some, if◌then◌else◌}
use Rattle.hub_profile.specs.Parts.{Parts}
use Rattle.hub_reach.specs.Safe.{share_archive}

-- No two of the profiles have the same two roots.
abbrev pub ShareNoArchive : List Parts → Type 0
ShareNoArchive Ps =
    (i j : ℕ) (P Q : Parts) → slice_get Ps i ≡ Some P → slice_get Ps j ≡ Some Q → i ≢ j
    → share_archive P Q ≡ false

-- The roots of one of the two are roots of the other. Of profiles, which have two different roots
-- each, both tests say the same.
abbrev pub is_shared : Parts → Parts → Bool
is_shared P Q = share_archive P Q || share_archive Q P

-- The pairs of the profile at place i with those from place j on that share its archive.
abbrev pub pairs_with : ℕ → Parts → ℕ → List Parts → List (ℕ × ℕ)
pairs_with i P j [] = []
pairs_with i P j (Q ∷ Qs) = (if is_shared P Q then (i, j) ∷ [] else []) ++ pairs_with i P (j + 1) Qs

abbrev pub pairs_from : ℕ → List Parts → List (ℕ × ℕ)
pairs_from i [] = []
pairs_from i (P ∷ Ps) = pairs_with i P (i + 1) Ps ++ pairs_from (i + 1) Ps

-- All pairs of places, the lower one first, whose profiles share an archive, in their order.
abbrev pub shared_pairs : List Parts → List (ℕ × ℕ)
shared_pairs Ps = pairs_from 0 Ps

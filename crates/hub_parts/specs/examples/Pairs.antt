-- Worked values of profiles, and the pairs of those that are near.
use Rattle.std.specs.Prelude.{◌≡◌, ℕ, List, [], ◌∷◌, ◌++◌, map, codes, refl}
use Rattle.std.specs.List.{filter}
use Rattle.hub_path.specs.Path.{path_of}
use Rattle.hub_profile.specs.Parts.{Parts}
use Rattle.hub_profile.specs.examples.Profiles.{hub, s1, s2, between}
use Rattle.hub_parts.specs.Near.{are_different, lower_first, near_pairs}
use Rattle.hub_parts.specs.Values.{values}
use Rattle.hub_parts.specs.declared.kept_value.KeptValue.{KeptValue}

abbrev at : List ℕ → ℕ → KeptValue
at t profile = record { path = path_of t; profile = profile }

-- One profile of all of the hub, and one of a folder there, whose root is lower.
abbrev whole : Parts
whole = between (codes "whole") hub s1 []

abbrev lower : Parts
lower = between (codes "lower") s2 (hub ++ path_of (codes "home")) (path_of (codes "a"))

-- each kept value at both roots
both_roots :
    values (whole ∷ lower ∷ [])
    ≡ at (codes "srv/hub") 0 ∷ at (codes "srv/s1") 0
    ∷ at (codes "srv/s2/a") 1 ∷ at (codes "srv/hub/home/a") 1 ∷ []
both_roots = refl

-- the pairs of the sweep, the lower number first
abbrev pairs : List KeptValue → List (ℕ × ℕ)
pairs ks = map lower_first (filter are_different (near_pairs ks))

-- the root of one is above that of the other
nested_roots :
    pairs (at (codes "srv/hub") 0 ∷ at (codes "srv/hub/home/a") 1 ∷ at (codes "srv/s1") 0
    ∷ at (codes "srv/s2/a") 1 ∷ [])
    ≡ (0, 1) ∷ []
nested_roots = refl

-- the profile of the upper value may have the higher number, and one of both values has no pair
upper_is_later :
    pairs (at (codes "srv/hub") 2 ∷ at (codes "srv/hub/a") 0 ∷ at (codes "srv/hub/a/b") 2 ∷ [])
    ≡ (0, 2) ∷ (0, 2) ∷ []
upper_is_later = refl

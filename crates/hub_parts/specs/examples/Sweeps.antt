-- Worked values of the sweep.
use Rattle.std.specs.Prelude.{◌≡◌, ℕ, List, [], ◌∷◌, codes, refl}
use Rattle.hub_path.specs.Path.{path_of}
use Rattle.hub_parts.specs.Near.{near_pairs}
use Rattle.hub_parts.specs.declared.kept_value.KeptValue.{KeptValue}

abbrev at : List ℕ → ℕ → KeptValue
at t profile = record { path = path_of t; profile = profile }

-- each with those above it, the highest first; what is beside isn't paired
a_hub_and_folders :
    near_pairs (at (codes "hub") 0 ∷ at (codes "hub/a") 1 ∷ at (codes "hub/a/b") 2
    ∷ at (codes "hub/c") 3 ∷ at (codes "hub2") 4 ∷ [])
    ≡ (0, 1) ∷ (0, 2) ∷ (1, 2) ∷ (0, 3) ∷ []
a_hub_and_folders = refl

-- equal values are over each other, and their pair is there once
two_of_one_folder : near_pairs (at (codes "hub/a") 5 ∷ at (codes "hub/a") 2 ∷ []) ≡ (5, 2) ∷ []
two_of_one_folder = refl

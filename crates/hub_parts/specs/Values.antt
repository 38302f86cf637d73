-- The kept values of profiles, at each of their roots.
use Rattle.std.specs.Prelude.{ℕ, suc, List, [], ◌∷◌, ◌++◌, map}
use Rattle.std.specs.List.{flat_map}
use Rattle.hub_path.specs.Path.{Path}
use Rattle.hub_profile.specs.Parts.{Parts}
use Rattle.hub_parts.specs.declared.kept_value.KeptValue.{KeptValue}

-- A kept value at a root, as a path from the top of the file system.
abbrev pub value_at : ℕ → Path → Path → KeptValue
value_at i r v = record { path = r ++ v; profile = i }

abbrev pub values_at : ℕ → Path → List Path → List KeptValue
values_at i r vs = map (value_at i r) vs

-- Those of the profile with number i.
abbrev pub values_of_one : ℕ → Parts → List KeptValue
values_of_one i P = flat_map (λ r. values_at i r P.paths) P.roots

-- Those of profiles that are numbered from i on.
abbrev pub values_from : ℕ → List Parts → List KeptValue
values_from i [] = []
values_from i (P ∷ Ps) = values_of_one i P ++ values_from (suc i) Ps

abbrev pub values : List Parts → List KeptValue
values Ps = values_from 0 Ps

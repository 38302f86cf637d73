-- A profile of which one root alone counts.
use Rattle.std.specs.Prelude.{List, [], ◌∷◌, codes, if◌then◌else◌}
use Rattle.hub_path.specs.Path.{Path, is_over}
use Rattle.hub_path.specs.declared.side.Side.{Side}
use Rattle.hub_path.specs.declared.side.Side.TheVariants.{Left, Right}
use Rattle.hub_profile.specs.Parts.{Parts}

-- The root r on that side, and another one on the other side.
abbrev pub two_roots : Side → Path → Path → List Path
two_roots Left r aside = r ∷ aside ∷ []
two_roots Right r aside = aside ∷ r ∷ []

-- The profile with these roots.
abbrev pub placed : Side → Path → Path → Parts → Parts
placed side r aside P = record P { roots = two_roots side r aside }

abbrev pub zero_root : Path
zero_root = codes "0" ∷ []

abbrev pub one_root : Path
one_root = codes "1" ∷ []

abbrev pub two_root : Path
two_root = codes "2" ∷ []

-- Two roots for the other sides: neither is nested with the other, nor with r if that has a name.
abbrev pub asides : Path → Path × Path
asides r =
    if is_over zero_root r then (one_root, two_root)
    else (if is_over one_root r then (zero_root, two_root) else (zero_root, one_root))

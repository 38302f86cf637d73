-- Which profile is asked whether it reaches a path.
use Rattle.std.specs.Prelude.{ℕ, List, [], ◌∷◌, Option, Some, None, bytes_eq, encode_utf8_all, if◌then◌else◌}
use Rattle.hub_profile.specs.Parts.{Parts}

-- The first profile whose name has this text.
abbrev pub first_named : List ℕ → List Parts → Option Parts
first_named text [] = None
first_named text (P ∷ Ps) =
    if bytes_eq (encode_utf8_all P.name) text then Some P else first_named text Ps

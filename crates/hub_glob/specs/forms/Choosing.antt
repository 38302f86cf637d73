-- The choices of a pattern, made from the left: what each list of pieces so far goes on with.
use Rattle.std.specs.Prelude.{List, [], ◌∷◌, ◌++◌, map}
use Rattle.std.specs.List.{flat_map}
use Rattle.hub_glob.specs.declared.piece.Piece.{Piece}
use Rattle.hub_glob.specs.declared.piece.Part.{Part}
use Rattle.hub_glob.specs.declared.piece.Part.TheVariants.{One, Brace}

-- Each of these lists followed by each of those, the first varying slowest.
abbrev pub each_with_each : List (List Piece) → List (List Piece) → List (List Piece)
each_with_each fronts backs = flat_map (λ c. map (λ d. c ++ d) backs) fronts

abbrev pub with_part : List (List Piece) → Part → List (List Piece)
with_part fronts (One p) = map (λ c. c ++ p ∷ []) fronts
with_part fronts (Brace cs) = each_with_each fronts cs

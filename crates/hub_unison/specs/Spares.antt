-- What hubsync has a pattern match, and Unison may not: a dot at the start of a component that a
-- `*` stands before, or that a set takes.
use Rattle.std.specs.Prelude.{◌≡◌, Bool, true, false, not, ◌&&◌, ◌==◌, List, [], ◌∷◌, ◌++◌, map, length, if◌then◌else◌, flat_map}
use Rattle.std.specs.List.{list_any}
use Rattle.hub_glob.specs.declared.piece.Piece.{Piece}
use Rattle.hub_glob.specs.declared.piece.Part.{Part}
use Rattle.hub_glob.specs.declared.piece.Piece.TheVariants.{Lit, Any, Run, OneOf}
use Rattle.hub_glob.specs.Specification.{Specification}
use Rattle.hub_glob.specs.Glob.{choices}
use Rattle.hub_glob.specs.Taking.{is_star}
use Rattle.hub_unison.specs.Matching.{all_simple}

-- Whether a piece other than `*` takes a dot.
abbrev pub takes_dot : Piece → Bool
takes_dot (Lit c) = c == 46
takes_dot Any = true
takes_dot Run = false
takes_dot (OneOf cs) = list_any (λ c. c == 46) cs

-- The pieces that match those texts of the given ones which begin with a dot.
abbrev pub dotted : List Piece → List (List Piece)
dotted [] = []
dotted (p ∷ ps) =
    if is_star p then dotted ps else (if takes_dot p then (Lit 46 ∷ ps) ∷ [] else [])

abbrev pub is_literal : Piece → Bool
is_literal (Lit c) = true
is_literal Any = false
is_literal Run = false
is_literal (OneOf cs) = false

abbrev pub is_slash : Piece → Bool
is_slash (Lit c) = c == 47
is_slash Any = false
is_slash Run = false
is_slash (OneOf cs) = false

-- What pieces match with a dot at the start of a component, and Unison may not: a literal dot is
-- matched there.
abbrev pub opening : Bool → List Piece → List (List Piece)
opening first [] = []
opening first (p ∷ ps) = if first && not (is_literal p) then dotted (p ∷ ps) else []

-- The spares of pieces: what together matches each text that hubsync has the pieces match, and
-- Unison may not. The flag says whether the pieces stand at the start of a component.
abbrev pub spares : Bool → List Piece → List (List Piece)
spares first [] = []
spares first (p ∷ ps) = opening first (p ∷ ps) ++ map (λ d. p ∷ d) (spares (is_slash p) ps)

-- The spares of a pattern: those of its choices.
abbrev pub pattern_spares : List Part → List (List Piece)
pattern_spares ps = flat_map (spares true) (choices ps)

-- Unison matches for certain what hubsync has the pattern match.
abbrev pub is_plain : List Part → Bool
is_plain ps = all_simple ps && length (pattern_spares ps) == 0

-- A specification that matches, for hubsync, what the spares of another one match.
pub record IsSpare (s spare : Specification) : Type 0 where
  pub kind : spare.kind ≡ s.kind
  pub choices : choices spare.pattern ≡ pattern_spares s.pattern

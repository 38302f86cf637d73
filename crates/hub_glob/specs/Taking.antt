-- Which pieces take a character next.
use Rattle.std.specs.Prelude.{Bool, true, false, not, ◌&&◌, ◌==◌}
use Rattle.std.specs.List.{list_any}
use Rattle.hub_glob.specs.declared.piece.NextCharacter.{NextCharacter}
use Rattle.hub_glob.specs.declared.piece.Piece.{Piece}
use Rattle.hub_glob.specs.declared.piece.Piece.TheVariants.{Lit, Any, Run, OneOf}

-- Whether a piece takes that character next: a `*` no `/`, and no `.` at the start of a component.
abbrev pub takes : NextCharacter → Piece → Bool
takes x (Lit c) = x.character == c
takes x Any = not (x.character == 47)
takes x Run = not (x.character == 47) && not (x.first && x.character == 46)
takes x (OneOf cs) = list_any (λ c. c == x.character) cs

-- Whether a piece is a `*`, which may take any number of characters, also none.
abbrev pub is_star : Piece → Bool
is_star (Lit c) = false
is_star Any = false
is_star Run = true
is_star (OneOf cs) = false

-- The pieces of a pattern in Unicode mode, in the words of the program.
use Rattle.std.specs.Prelude.{ℕ, Bool, true, false, not, ◌&&◌, ◌||◌, ◌==◌, nat_lt, List, [], ◌∷◌}
use Rattle.std.specs.List.{list_any, list_all}
use Rattle.hub_glob.specs.declared.piece.Piece.{Piece}
use Rattle.hub_glob.specs.declared.piece.Piece.TheVariants.{Lit, Any, Run, OneOf}
use Rattle.hub_unison.specs.Matching.{is_odd}
use Rattle.hub_folded.specs.Fold.{is_upper}
use Rattle.hub_folded.specs.Table.{is_bare_letter, knows_character, stands}

-- It is known what a set folds to.
abbrev pub set_stands : List ℕ → Bool
set_stands cs =
    list_all (λ c. nat_lt c 128 && knows_character c && not (is_odd c)) cs
    && not (list_any is_upper cs && list_any (λ c. c == 63 || c == 64) cs)

-- A piece is known, and follows a bare letter if it is a mark.
abbrev pub piece_stands : Bool → Piece → Bool
piece_stands bare (Lit c) = stands c bare
piece_stands bare Any = true
piece_stands bare Run = true
piece_stands bare (OneOf cs) = set_stands cs

-- A piece is a bare letter.
abbrev pub is_bare_piece : Piece → Bool
is_bare_piece (Lit c) = is_bare_letter c
is_bare_piece Any = false
is_bare_piece Run = false
is_bare_piece (OneOf cs) = false

abbrev pub all_pieces_stand : Bool → List Piece → Bool
all_pieces_stand bare [] = true
all_pieces_stand bare (p ∷ ps) = piece_stands bare p && all_pieces_stand (is_bare_piece p) ps

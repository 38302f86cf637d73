-- Whether it is known what pieces fold to, piece by piece.
use Rattle.std.proofs.Common.{◌≡◌, ◌<◌, ◌+◌, ℕ, Bool, true, false, ◌&&◌, List, [], ◌∷◌, length, drop, get_or, refl, sym, ap, ◌∙◌}
use Rattle.std.proofs.lemmas.List.{drop_more}
use Rattle.hub_glob.specs.declared.piece.Piece.{Piece}
use Rattle.hub_glob.specs.declared.piece.Piece.TheVariants.{Lit, Any, Run, OneOf}
use Rattle.hub_folded.specs.Lines.{knows_pieces}
use Rattle.hub_folded.specs.Pieces.{all_pieces_stand, is_bare_piece, piece_stands, set_stands}
use Rattle.hub_folded.specs.Table.{folded_character, is_bare_letter, is_single, knows_character, stands, table_image, unicode}

pub pieces-same : (bare : Bool) (ps : List Piece) → all_pieces_stand bare ps ≡ knows_pieces unicode bare ps
unfolding is_single folded_character table_image knows_character
pieces-same bare [] = refl
pieces-same bare (Lit c ∷ ps) = ap (λ b. stands c bare && b) (pieces-same (is_bare_letter c) ps)
pieces-same bare (Any ∷ ps) = pieces-same false ps
pieces-same bare (Run ∷ ps) = pieces-same false ps
pieces-same bare (OneOf cs ∷ ps) = ap (λ b. set_stands cs && b) (pieces-same false ps)

module _ (ps : List Piece) (i : ℕ) (p : Piece) (l : i < length ps) (e : p ≡ get_or ps i p) (bare : Bool)
    (whole : Bool) (before : all_pieces_stand bare (drop i ps) ≡ whole) where
  at : (piece_stands bare p && all_pieces_stand (is_bare_piece p) (drop (i + 1) ps)) ≡ whole
  at =
      (λ j. piece_stands bare (e j) && all_pieces_stand (is_bare_piece (e j)) (drop (i + 1) ps))
      ∙ (sym (ap (all_pieces_stand bare) (drop_more ps i p l)) ∙ before)

  pub piece-fails : piece_stands bare p ≡ false → false ≡ whole
  piece-fails h = sym (ap (λ b. b && all_pieces_stand (is_bare_piece p) (drop (i + 1) ps)) h) ∙ at

  pub piece-holds : piece_stands bare p ≡ true
      → all_pieces_stand (is_bare_piece p) (drop (i + 1) ps) ≡ whole
  piece-holds h = sym (ap (λ b. b && all_pieces_stand (is_bare_piece p) (drop (i + 1) ps)) h) ∙ at

use Rattle.std.proofs.Common.{◌≡◌, ◌∙◌, ◌+◌, arith, false, true, sym, ap, drop, []}
use Rattle.std.proofs.lemmas.List.{drop_all}
use Rattle.hub_folded.specs.Pieces.{all_pieces_stand, piece_stands}
use Rattle.hub_folded.proofs.PiecesKnown.{piece-fails, piece-holds, pieces-same}
use Rattle.hub_folded.proofs.pieces.knows_pieces.Goals as goal

pub returns-then-not-piece_stands : goal.returns-then-not-piece_stands
returns-then-not-piece_stands c =
    let fails : piece_stands c.loop-piece.bare c.piece-item.result ≡ false =
    grind (arith, c.if-not-piece_stands.ensures, c.if-not-piece_stands.true, c.piece_stands.ensures) in
    piece-fails c.args.pieces.now c.loop-piece.piece-index c.piece-item.result (omega arith) c.piece-item.is
    c.loop-piece.bare (all_pieces_stand false c.args.pieces.now) c.loop-piece.invariant fails
    ∙ pieces-same false c.args.pieces.now

pub loop-piece-preserved : goal.loop-piece-preserved
loop-piece-preserved c =
    let holds : piece_stands c.loop-piece.bare c.piece-item.result ≡ true =
    grind (arith, c.if-not-piece_stands.ensures, c.if-not-piece_stands.false, c.piece_stands.ensures) in
    ap (λ b. all_pieces_stand b (drop (c.loop-piece.piece-index + 1) c.args.pieces.now)) c.is_bare-bare.ensures
    ∙ piece-holds c.args.pieces.now c.loop-piece.piece-index c.piece-item.result (omega arith) c.piece-item.is
    c.loop-piece.bare (all_pieces_stand false c.args.pieces.now) c.loop-piece.invariant holds

pub returns : goal.returns
returns c =
    let none : drop c.loop-piece.piece-index c.args.pieces.now ≡ [] =
    drop_all c.loop-piece.piece-index c.args.pieces.now (omega arith) in
    sym (ap (all_pieces_stand c.loop-piece.bare) none)
    ∙ (c.loop-piece.invariant ∙ pieces-same false c.args.pieces.now)

use Rattle.hub_folded.proofs.FoldedPieces.{lit-folds, set-folds}
use Rattle.hub_folded.proofs.pattern.push_piece.Goals as goal

pub returns-in-Lit : goal.returns-in-Lit
returns-in-Lit c =
    lit-folds c.push_literals.result c.args.piece.now c.in-Lit.c c.args.list.now c.push_literals.new.list c.in-Lit.is c.push_literals.ensures

pub returns-in_ok-push-in-OneOf : goal.returns-in_ok-push-in-OneOf
returns-in_ok-push-in-OneOf c =
    set-folds c.args.piece.now c.in-OneOf.set c.as_slice.result.now c.in_ok-members-in-OneOf.members c.args.list.now
    c.push-in-OneOf.new.self c.in-OneOf.is c.as_slice.ensures c.in_ok-members-in-OneOf.ensures c.in_ok-push-in-OneOf.ensures.ok
